use Rattle.type_checker.proofs.Consistent.{no_conflict, one_value}
use Rattle.type_checker.proofs.laws.agreeing_entries.Goals as goal

pub returns : goal.returns
returns c = record { no_conflict = no_conflict; one_value = one_value }
