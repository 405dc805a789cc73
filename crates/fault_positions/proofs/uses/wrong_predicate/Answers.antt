use Rattle.std.proofs.Common.{cond, not, [], ◌∷◌, sym, ap, ◌∙◌}
use Rattle.fault_positions.specs.Heads.{takes}
use Rattle.fault_positions.specs.Positions.{earliest}
use Rattle.fault_positions.specs.Names.{use_positions}
use Rattle.fault_positions.specs.Uses.{shown, listed, wrong_predicates}
use Rattle.fault_positions.proofs.uses.wrong_predicate.Goals as goal

pub returns-then-predicate_takes : goal.returns-then-predicate_takes
returns-then-predicate_takes c =
    let right = ap (λ name. takes c.args.signature.now.predicates name c.in_ok-usage.usage.arity) (sym c.as_slice.ensures) ∙ sym c.predicate_takes.ensures ∙ c.if-predicate_takes.true in
    sym (ap (λ b. earliest (use_positions (cond (not b) (shown c.in_ok-usage.usage ∷ []) []))) right)
    ∙ ap (λ uses. earliest (wrong_predicates c.args.signature.now uses)) (ap listed (sym c.in_ok-usage.was) ∙ c.predicate_use.ensures)

pub returns-else-predicate_takes : goal.returns-else-predicate_takes
returns-else-predicate_takes c =
    let wrong = ap (λ name. takes c.args.signature.now.predicates name c.in_ok-usage.usage.arity) (sym c.as_slice.ensures) ∙ sym c.predicate_takes.ensures ∙ c.if-predicate_takes.false in
    sym (ap (λ b. earliest (use_positions (cond (not b) (shown c.in_ok-usage.usage ∷ []) []))) wrong)
    ∙ ap (λ uses. earliest (wrong_predicates c.args.signature.now uses)) (ap listed (sym c.in_ok-usage.was) ∙ c.predicate_use.ensures)
