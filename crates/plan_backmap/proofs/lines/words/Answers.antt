use Rattle.std.proofs.Common.{◌≡◌, map, sym, ap, ◌∙◌, subst}
use Rattle.std.specs.Prelude.{IfOk}
use Rattle.std.proofs.lemmas.Simd.{map-map}
use Rattle.pddl_lexer.specs.Text.{lowered}
use Rattle.plan_backmap.proofs.lines.words.Goals as goal

pub returns : goal.returns
returns c =
    subst (λ all. IfOk c.lowered_words.result (λ words. words ≡ all))
    (ap (λ words. map (λ word. lowered word.now) words) c.as_slice.ensures.value ∙ sym (map-map lowered (λ word. word.now) c.in_ok-written.written.items) ∙ ap (map lowered) c.in_ok-written.ensures)
    c.lowered_words.ensures
