use Rattle.std.proofs.Common.{arith}
use Rattle.std.proofs.lemmas.List.{map-append}
use Rattle.pddl_parser.proofs.Keys.{value_passes}
use Rattle.pddl_parser.proofs.action.check_keys.Goals as goal

pub loop-cursor-preserved : goal.loop-cursor-preserved
loop-cursor-preserved c = grind (arith, value_passes, map-append)
