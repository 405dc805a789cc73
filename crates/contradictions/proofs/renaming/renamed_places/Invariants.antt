use Rattle.std.proofs.Common.{◌≡◌, take}
use Rattle.contradictions.specs.Renamings as spec
use Rattle.contradictions.proofs.renaming.renamed_places.Given as goal

abbrev pub invariant-loop-place : goal.invariant-loop-place
invariant-loop-place l = l.renamed.items ≡ spec.renamed_places l.renaming (take l.place-index l.places)
