use Rattle.std.proofs.Common.{◌≡◌, ◌&&◌, bit_and, ◌∙◌}
use Rattle.pass_h2.specs.Bits.{common_words}
use Rattle.pass_h2.proofs.OneBit.{bit_of_both}
use Rattle.pass_h2.proofs.Bits.{enough, both}
use Rattle.pass_h2.proofs.marks.Marks.common.Goals as goal

pub of_words-requires : goal.of_words-requires
of_words-requires c =
    let made : c.in_ok-words.words.items ≡ common_words c.self.inside.words.items c.other.inside.words.items = c.in_ok-words.ensures ∙ (λ i. common_words (c.as_slice.ensures.value i) (c.as_slice-2.ensures.value i)) in
    enough bit_and (λ a b. a && b) bit_of_both c.self.inside.words.items c.other.inside.words.items c.in_ok-words.words.items c.self.inside.count c.other.inside.count c.min.result made c.min.ensures c.self.invariant

pub returns : goal.returns
returns c =
    let made : c.in_ok-words.words.items ≡ common_words c.self.inside.words.items c.other.inside.words.items = c.in_ok-words.ensures ∙ (λ i. common_words (c.as_slice.ensures.value i) (c.as_slice-2.ensures.value i)) in
    c.of_words.ensures
    ∙ both bit_and (λ a b. a && b) bit_of_both c.self.inside.words.items c.other.inside.words.items c.in_ok-words.words.items c.self.inside.count c.other.inside.count c.min.result c.args.self.now c.args.other.now made c.min.ensures c.self.invariant c.self.view_is c.other.view_is
