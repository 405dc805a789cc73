use Rattle.std.specs.Prelude.{true}
use Rattle.std.proofs.lemmas.List.Sorted.{non_decreasing_from_is_sorted}
use Rattle.contradictions.proofs.rising.Rising.new.Goals as goal

pub invariant_of-result : goal.invariant_of-result
invariant_of-result c = record { rises = non_decreasing_from_is_sorted c.args.objects.now true c.if-is_sorted.ensures.cases }
