use Rattle.std.proofs.Common.{◌||◌, ◌∷◌, [], map, refl, ap, ◌∙◌}
use Rattle.std.specs.Prelude.{if◌then◌else◌}
use Rattle.std.specs.List.{list_any}
use Rattle.pddl_syntax.specs.declared.types.Named.{Named}
use Rattle.pddl_syntax.specs.Words.{is_same}
use Rattle.fault_positions.specs.Positions.{earliest}
use Rattle.fault_positions.specs.Names.{repeats_after}
use Rattle.fault_positions.proofs.RepeatedNames.{repeat_turn}
use Rattle.fault_positions.proofs.repeats.first_repeat.Goals as goal

pub loop-item-init : goal.loop-item-init
loop-item-init g c = λ named calls. refl

pub loop-item-preserved : goal.loop-item-preserved
loop-item-preserved g c = λ named calls.
    let before = c.loop-item.names in
    let same = calls c.item-item.result c.name_of.result record { shown = _; shows = refl; says = record { met = c.name_of.ensures } } in
    repeat_turn named c.args.items.now c.loop-item.item-index c.item-item.result before c.repeat.new.names c.loop-item.first c.in_ok-repeat.field-0 c.earlier-first.result
    (earliest (repeats_after c.args.names (map named c.args.items.now))) c.loop-item-test.true c.item-item.is
    (λ other. c.in_ok-repeat.ensures.added other ∙ ap (λ (n : Named). is_same other n.name || list_any (is_same other) before) same)
    (c.in_ok-repeat.ensures.at ∙ ap (λ (n : Named). earliest (if list_any (is_same n.name) before then n.at ∷ [] else [])) same)
    c.earlier-first.ensures (c.loop-item.invariant named calls)
