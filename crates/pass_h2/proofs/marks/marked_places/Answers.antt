use Rattle.std.proofs.Common.{[], ◌∷◌, ◌++◌, cond, sym, ap, ◌∙◌, arith}
use Rattle.pass_h2.specs.Bits.{mark_at}
use Rattle.pass_h2.proofs.Bits.{next_place, passed_over}
use Rattle.pass_h2.proofs.marks.marked_places.Goals as goal

pub loop-place-preserved-then-unmarked-eq0 : goal.loop-place-preserved-then-unmarked-eq0
loop-place-preserved-then-unmarked-eq0 c =
    let test = mark_at c.args.words.now in
    let place = c.loop-place.place in
    (omega arith, c.in_ok-add_marked.ensures ∙ ap (λ l. l ++ cond (test place) (place ∷ []) []) c.loop-place.invariant.1 ∙ sym (next_place test place))

pub loop-place-preserved : goal.loop-place-preserved
loop-place-preserved c =
    let few = c.unmarked_from-unmarked.ensures.few in
    (omega (arith, few), c.loop-place.invariant.1 ∙ sym (passed_over (mark_at c.args.words.now) c.loop-place.place c.unmarked_from-unmarked.result c.unmarked_from-unmarked.ensures.unmarked))
