use Rattle.invariant_check.proofs.Listed.{one_predicate_is_all, extensions_are_all, same_are_equal}
use Rattle.invariant_check.proofs.laws.candidates_are_all.Goals as goal

pub returns-clause-one_predicate : goal.returns-clause-one_predicate
returns-clause-one_predicate c = one_predicate_is_all

pub returns-clause-extensions : goal.returns-clause-extensions
returns-clause-extensions c = extensions_are_all

pub returns-clause-one_form : goal.returns-clause-one_form
returns-clause-one_form c = same_are_equal
