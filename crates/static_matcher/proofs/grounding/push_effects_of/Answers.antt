-- The one choice.
use Rattle.std.proofs.Common.{◌++◌, ◌∙◌, length, sym, ap, map}
use Rattle.std.proofs.lemmas.Bool.{eqb-true}
use Rattle.std.proofs.lemmas.List.{nil_from_length}
use Rattle.ground_task.specs.GroundTask.{effect_row}
use Rattle.static_matcher.proofs.Kept.{one_choice}
use Rattle.static_matcher.proofs.grounding.push_effects_of.Goals as goal

pub returns-then-is_empty : goal.returns-then-is_empty
returns-then-is_empty c =
    let none = sym c.as_slice.ensures ∙ nil_from_length c.as_slice.result.now (eqb-true (length c.as_slice.result.now) 0 (sym c.if-is_empty.ensures)) in
    c.in_ok-push_effect.ensures ∙ ap (λ l. map effect_row c.args.effects.now.items ++ l) (one_choice c.args.tables.now c.args.row.now c.args.binding.now none)
