use Rattle.std.proofs.Common.{◌||◌, ap, ◌∙◌}
use Rattle.std.specs.List.{list_any}
use Rattle.std.proofs.lemmas.Cmp.{nat_list_eq_equiv}
use Rattle.pddl_syntax.specs.declared.types.Named.{Named}
use Rattle.pddl_syntax.specs.Words.{Name, is_same}
use Rattle.lists.proofs.LoopSteps.{any_turn}
use Rattle.fault_positions.proofs.types.add_types.Goals as goal

pub loop-type_name-preserved : goal.loop-type_name-preserved
loop-type_name-preserved c = λ name.
    any_turn c.args.types.now c.loop-type_name.type_name-index c.type_name-item.result c.loop-type_name-test.true c.type_name-item.is (λ (type : Named). is_same type.name name)
    (list_any (is_same name) c.args.known.now) (list_any (is_same name) c.loop-type_name.known) (list_any (is_same name) c.add.new.self) (c.loop-type_name.invariant name)
    (c.in_ok-add.ensures.added name
    ∙ ap (λ (added : Name). is_same name added || list_any (is_same name) c.loop-type_name.known) c.as_slice.ensures
    ∙ ap (λ b. b || list_any (is_same name) c.loop-type_name.known) (nat_list_eq_equiv.symm name c.type_name-item.result.name))
