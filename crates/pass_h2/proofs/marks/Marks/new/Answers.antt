use Rattle.std.proofs.Common.{ap, ◌∙◌, ◌+◌, ◌/◌}
use Rattle.pass_h2.specs.Bits.{marks_of}
use Rattle.pass_h2.proofs.Bits.{no_marks}
use Rattle.pass_h2.proofs.marks.Marks.new.Goals as goal

pub returns : goal.returns
returns c = c.of_words.ensures ∙ ap (λ words. marks_of words c.args.count) (c.in_ok-words.ensures.items_if_clones_equal (λ y same. same)) ∙ no_marks (c.args.count / 64 + 1) c.args.count
