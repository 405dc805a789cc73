use Rattle.std.proofs.Common.{List, sym, subst}
use Rattle.lists.proofs.LoopSteps.{map_next}
use Rattle.pddl_syntax.specs.declared.types.Named.{Named}
use Rattle.numbering.specs.Known.{AreKnown}
use Rattle.numbering.proofs.numbering.ObjectTables.known_of.Goals as goal

pub loop-listed-preserved : goal.loop-listed-preserved
loop-listed-preserved c =
    subst (λ (asked : List (List Named)). AreKnown c.args.self.now.domain c.args.self.now.problem asked c.know_type.new.known.types c.know_type.new.known.ranges.items)
    (sym (map_next c.args.asked.now c.loop-listed.listed-index c.listed-item.result c.loop-listed-test.true c.listed-item.is (λ listed. listed.now)))
    (c.in_ok-know_type.ensures _ c.loop-listed.invariant)
