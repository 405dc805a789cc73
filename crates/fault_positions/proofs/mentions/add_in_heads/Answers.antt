use Rattle.std.proofs.Common.{List, [], ◌∷◌, ◌++◌, ap, ◌∙◌}
use Rattle.pddl_syntax.specs.declared.types.Typed.{Typed}
use Rattle.fault_positions.specs.Mentions.{Variables, in_head}
use Rattle.fault_positions.specs.Seen.{all_seen}
use Rattle.lists.proofs.LoopSteps.{flat_map_turn}
use Rattle.fault_positions.proofs.mentions.add_in_heads.Goals as goal

pub loop-head-preserved : goal.loop-head-preserved
loop-head-preserved c =
    flat_map_turn c.args.heads.now c.loop-head.head-index c.head-item.result c.loop-head-test.true c.head-item.is
    in_head (all_seen c.args.mentions.now.items) (all_seen c.loop-head.mentions.items) (all_seen c.add.new.mentions.items) c.loop-head.invariant (c.in_ok-add.ensures ∙ ap (λ (variables : List Typed). all_seen c.loop-head.mentions.items ++ Variables variables ∷ []) c.as_slice.ensures)
