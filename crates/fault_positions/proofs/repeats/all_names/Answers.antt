use Rattle.std.proofs.Common.{◌||◌, ap, ◌∙◌}
use Rattle.std.specs.List.{list_any}
use Rattle.pddl_syntax.specs.declared.types.Typed.{Typed}
use Rattle.pddl_syntax.specs.Words.{Name, is_same}
use Rattle.lists.proofs.LoopSteps.{any_last}
use Rattle.fault_positions.proofs.repeats.all_names.Goals as goal

pub loop-typed-preserved : goal.loop-typed-preserved
loop-typed-preserved c = λ name.
    any_last c.args.list.now c.loop-typed.typed-index c.typed-item.result c.loop-typed-test.true c.typed-item.is (λ (typed : Typed). is_same name typed.name.name)
    (list_any (is_same name) c.loop-typed.names) (list_any (is_same name) c.add.new.self) (c.loop-typed.invariant name)
    (c.in_ok-add.ensures.added name ∙ ap (λ (added : Name). is_same name added || list_any (is_same name) c.loop-typed.names) c.as_slice.ensures)
