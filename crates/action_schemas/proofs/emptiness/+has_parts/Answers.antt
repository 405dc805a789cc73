use Rattle.std.proofs.Common.{Bool, refl, sym, ap, ◌∙◌}
use Rattle.std.specs.Prelude.{◌&&◌, nat_lt, false}
use Rattle.fault_positions.specs.Sizes.{size_of}
use Rattle.action_schemas.proofs.SomeParts.{all_stays, all_ends, implies_both}
use Rattle.action_schemas.proofs.emptiness.+has_parts.Goals as goal
use Rattle.action_schemas.proofs.emptiness.+has_parts.Goals.{all_have_parts-then-all, all_have_parts-else-all}

pub all_have_parts-loop-member-preserved : goal.all_have_parts-loop-member-preserved
all_have_parts-loop-member-preserved t c = elim c.if-all.branch [
  | all_have_parts-then-all w ↦ w.all-is ∙ w.has_parts-all.ensures ∙ all_stays c.args.positive c.args.members.now c.loop-member.member-index c.member-item.result c.loop-member-test.true c.member-item.is c.loop-member.all c.loop-member.invariant w.if-all.true
  | all_have_parts-else-all w ↦ w.all-is ∙ w.if-all.false ∙ all_ends c.args.positive c.args.members.now c.loop-member.member-index c.member-item.result c.loop-member-test.true c.member-item.is c.loop-member.all c.loop-member.invariant w.if-all.false
]

pub has_parts-returns-then-has_parts-2 : goal.has_parts-returns-then-has_parts-2
has_parts-returns-then-has_parts-2 t c =
    c.has_parts-then-has_parts-2.ensures
    ∙ sym (implies_both c.in-Imply-false.premise c.in-Imply-false.conclusion c.in-Imply-false.field-2-0 c.args.condition.now c.get-in-Imply-false.result.now c.get-then-has_parts-2.result.now c.args.positive
    c.in-Imply-false.is-0 c.in-Imply-false.is-1 c.get-in-Imply-false.ensures c.get-then-has_parts-2.ensures
    ∙ ap (λ (b : Bool). b && nat_lt 0 (size_of c.get-then-has_parts-2.result.now false).parts) (sym c.has_parts-in-Imply-false.ensures ∙ c.if-has_parts-2.true))

pub has_parts-returns-else-has_parts-2 : goal.has_parts-returns-else-has_parts-2
has_parts-returns-else-has_parts-2 t c =
    c.if-has_parts-2.false
    ∙ sym (implies_both c.in-Imply-false.premise c.in-Imply-false.conclusion c.in-Imply-false.field-2-0 c.args.condition.now c.get-in-Imply-false.result.now c.in-Imply-false.conclusion c.args.positive
    c.in-Imply-false.is-0 c.in-Imply-false.is-1 c.get-in-Imply-false.ensures refl
    ∙ ap (λ (b : Bool). b && nat_lt 0 (size_of c.in-Imply-false.conclusion false).parts) (sym c.has_parts-in-Imply-false.ensures ∙ c.if-has_parts-2.false))
