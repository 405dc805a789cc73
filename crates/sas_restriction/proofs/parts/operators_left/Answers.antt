-- One operator more, and all of them.
use Rattle.std.proofs.Common.{◌≡◌, ◌+◌, ◌<◌, ◌≤◌, false, cond, ◌++◌, [], ◌∷◌, ◌&&◌, get_or, length, sym, ap, subst, ◌∙◌, arith}
use Rattle.std.proofs.lemmas.List.{get_or-map, length-append}
use Rattle.std.proofs.lemmas.Iterator.Adapters.{YieldsList-from_vec}
use Rattle.std.proofs.lemmas.Iterator.Consumers.{YieldsList-end, YieldsList-turn}
use Rattle.lists.proofs.LoopSteps.{take_next}
use Rattle.sas_restriction.proofs.Pieces.{kept_piece, kept_pieces, piece_more, piece_all}
use Rattle.sas_restriction.specs.Listed.{with_operators}
use Rattle.sas_restriction.specs.Choice.{all_left, operator_stays}
use Rattle.sas_restriction.specs.Restriction.{new_operator}
use Rattle.sas_restriction.proofs.parts.operators_left.Goals as goal

pub loop-operator-preserved : goal.loop-operator-preserved
loop-operator-preserved c =
    let given = c.into_iter-operator-iterator.ensures.into_iter_gives in
    let old = c.args.old.items in
    let x = c.in-Some.operator in
    let i = c.loop-operator.i in
    let turn = YieldsList-turn (YieldsList-from_vec {s = c.into_iter-operator-iterator.result} old given.0 (given.1 ∙ c.args.old.ok.0)) c.loop-operator.yielded c.loop-operator.operator-iterator c.loop-operator.yielded_by c.next.result c.next.new.self x c.in-Some.is c.next.ensures.steps in
    let at : length c.loop-operator.yielded ≡ i = sym c.loop-operator.invariant.0 in
    let low : i < length old = subst (λ n. n < length old) at turn.0 in
    let is : x ≡ get_or old i x = subst (λ n. x ≡ get_or old n x) at turn.1 in (
      ap (λ n. n + 1) c.loop-operator.invariant.0 ∙ sym (length-append c.loop-operator.yielded (x ∷ [])),
      λ leaves marks.
          let mark : get_or c.args.marks.now i false ≡ leaves x = ap (λ ms. get_or ms i false) marks ∙ get_or-map leaves old i x false low ∙ ap leaves (sym is) in
          piece_more (kept_piece (operator_stays (with_operators c.args.shown.now leaves)) (new_operator c.args.once (with_operators c.args.shown.now leaves))) old i x c.loop-operator.operators.items c.add_operator.new.operators.items
          (take_next old i x low is) (c.loop-operator.invariant.1 leaves marks)
          (c.in_ok-add_operator.ensures ∙ ap (λ b. c.loop-operator.operators.items ++ cond (all_left (with_operators c.args.shown.now leaves) x.conditions && b) (new_operator c.args.once (with_operators c.args.shown.now leaves) x ∷ []) []) mark),
    )

pub returns : goal.returns
returns c leaves marks =
    let given = c.into_iter-operator-iterator.ensures.into_iter_gives in
    let old = c.args.old.items in
    let end = YieldsList-end (YieldsList-from_vec {s = c.into_iter-operator-iterator.result} old given.0 (given.1 ∙ c.args.old.ok.0)) c.loop-operator.yielded c.loop-operator.operator-iterator c.loop-operator.yielded_by c.next.result c.next.new.self c.in-None.is c.next.ensures.steps in
    let past : length old ≤ c.loop-operator.i = let all = end.1 in let at = c.loop-operator.invariant.0 in omega (arith, all, at) in
    piece_all (kept_piece (operator_stays (with_operators c.args.shown.now leaves)) (new_operator c.args.once (with_operators c.args.shown.now leaves))) old c.loop-operator.i c.loop-operator.operators.items past (c.loop-operator.invariant.1 leaves marks)
    ∙ sym (kept_pieces (operator_stays (with_operators c.args.shown.now leaves)) (new_operator c.args.once (with_operators c.args.shown.now leaves)) old)
