use Rattle.std.proofs.Common.{◌≡◌, flat_map, take}
use Rattle.contradictions.specs.Contradictory.{terms_of}
use Rattle.invariant_check.proofs.tried.all_standing.Given as goal

abbrev pub invariant-loop-literal : goal.invariant-loop-literal
invariant-loop-literal l = l.all.items ≡ flat_map terms_of (take l.literal-index l.required)
