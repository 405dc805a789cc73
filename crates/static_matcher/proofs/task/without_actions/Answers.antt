-- The ranges of a lawful task rise.
use Rattle.static_matcher.proofs.RisingRanges.{axioms_rise}
use Rattle.static_matcher.proofs.task.without_actions.Goals as goal

pub axioms-requires : goal.axioms-requires
axioms-requires c = axioms_rise c.args.tables.now c.requires.lawful
