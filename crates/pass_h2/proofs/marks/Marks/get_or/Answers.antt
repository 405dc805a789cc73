use Rattle.std.proofs.Common.{Bool, List, get_or, sym, ap, ◌∙◌, arith}
use Rattle.pass_h2.specs.Bits.{mark_at}
use Rattle.pass_h2.proofs.Bits.{marked_below, marked_past}
use Rattle.pass_h2.proofs.marks.Marks.get_or.Goals as goal

pub returns-then-place-self : goal.returns-then-place-self
returns-then-place-self c =
    c.mark_at.ensures ∙ ap (λ words. mark_at words c.args.place) c.as_slice.ensures.value
    ∙ sym (marked_below c.self.inside.words.items c.self.inside.count c.args.place c.args.other c.if-place-self.true)
    ∙ ap (λ (marks : List Bool). get_or marks c.args.place c.args.other) c.self.view_is

pub returns-else-place-self : goal.returns-else-place-self
returns-else-place-self c =
    sym (marked_past c.self.inside.words.items c.self.inside.count c.args.place c.args.other (omega (arith, c.if-place-self.false)))
    ∙ ap (λ (marks : List Bool). get_or marks c.args.place c.args.other) c.self.view_is
