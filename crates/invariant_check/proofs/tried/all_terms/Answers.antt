use Rattle.std.proofs.Common.{◌∙◌, ap, sym, ◌++◌, ◌∷◌, [], map, append_assoc, arith}
use Rattle.std.specs.List.{range_with_len}
use Rattle.normal_task.specs.declared.task.Place.TheVariants.{Variable, Object}
use Rattle.invariant_check.proofs.tried.all_terms.Goals as goal
use Rattle.std.proofs.lemmas.List.FromFn.{map-range_with_len_more}

pub loop-number-preserved : goal.loop-number-preserved
loop-number-preserved c =
    c.in_ok-push.ensures.items ∙ ap (λ all. all ++ Variable c.loop-number.number ∷ []) c.loop-number.invariant ∙ sym (map-range_with_len_more Variable 0 c.loop-number.number c.loop-number.number (omega arith))

pub loop-object-preserved : goal.loop-object-preserved
loop-object-preserved c =
    c.in_ok-push-2.ensures.items ∙ ap (λ all. all ++ Object c.loop-object.object ∷ []) c.loop-object.invariant
    ∙ append_assoc (map Variable (range_with_len 0 c.args.count)) (map Object (range_with_len 0 c.loop-object.object)) (Object c.loop-object.object ∷ [])
    ∙ ap (λ objects. map Variable (range_with_len 0 c.args.count) ++ objects) (sym (map-range_with_len_more Object 0 c.loop-object.object c.loop-object.object (omega arith)))
