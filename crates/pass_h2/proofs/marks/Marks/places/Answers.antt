use Rattle.std.proofs.Common.{filter, ap, ◌∙◌}
use Rattle.std.specs.List.{range_with_len}
use Rattle.std.proofs.lemmas.Result.{IfOk-weaker}
use Rattle.pass_h2.specs.Bits.{mark_at}
use Rattle.pass_h2.specs.MarkLists.{places}
use Rattle.pass_h2.proofs.Bits.{places_are}
use Rattle.pass_h2.proofs.marks.Marks.places.Goals as goal

pub returns : goal.returns
returns c =
    IfOk-weaker c.marked_places.result _ _ (λ found is. is ∙ ap (λ words. filter (mark_at words) (range_with_len 0 c.self.inside.count)) c.as_slice.ensures.value ∙ places_are c.self.inside.words.items c.self.inside.count ∙ ap places c.self.view_is) c.marked_places.ensures
