use Rattle.std.proofs.Common.{Bool, true, List, length, get_or, set, bit_or, ◌/◌, ◌%◌, ◌^◌, sym, ap, ◌∙◌, arith}
use Rattle.std.proofs.lemmas.List.{with_items_is, length-set}
use Rattle.pass_h2.specs.Bits.{marks_of, with_bit}
use Rattle.pass_h2.proofs.Bits.{one_mark_more, no_mark_more}
use Rattle.pass_h2.proofs.marks.Marks.set.Goals as goal

pub returns-then-place-self : goal.returns-then-place-self
returns-then-place-self c =
    let v = c.self.inside.words in
    let p = c.args.place in
    let new = c.set_bit.ensures ∙ ap (λ words. with_bit words p) c.as_mut_slice.ensures.value in
    let long = ap length new ∙ length-set v.items (p / 64) (bit_or (get_or v.items (p / 64) 0) (2 ^ (p % 64))) ∙ sym v.ok.0 in
    ap (λ words. marks_of words c.self.inside.count) (with_items_is v c.set_bit.new.words long ∙ new)
    ∙ one_mark_more v.items c.self.inside.count p (omega (arith, c.if-place-self.true, c.self.invariant)) c.if-place-self.true
    ∙ ap (λ (marks : List Bool). set marks p true) c.self.view_is

pub returns-else-place-self : goal.returns-else-place-self
returns-else-place-self c =
    sym (ap (λ (marks : List Bool). set marks c.args.place true) (sym c.self.view_is) ∙ no_mark_more c.self.inside.words.items c.self.inside.count c.args.place (omega (arith, c.if-place-self.false)) ∙ c.self.view_is)
