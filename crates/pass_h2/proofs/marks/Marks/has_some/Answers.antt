use Rattle.std.proofs.Common.{Bool, List, sym, ap, ◌∙◌}
use Rattle.std.specs.List.{list_any, range_with_len}
use Rattle.lists.proofs.Items.{any_map}
use Rattle.pass_h2.specs.Bits.{mark_at}
use Rattle.pass_h2.proofs.marks.Marks.has_some.Goals as goal

pub returns : goal.returns
returns c =
    c.some_mark.ensures ∙ ap (λ words. list_any (mark_at words) (range_with_len 0 c.self.inside.count)) c.as_slice.ensures.value
    ∙ sym (any_map (λ (mark : Bool). mark) (mark_at c.self.inside.words.items) (range_with_len 0 c.self.inside.count))
    ∙ ap (λ (marks : List Bool). list_any (λ mark. mark) marks) c.self.view_is
