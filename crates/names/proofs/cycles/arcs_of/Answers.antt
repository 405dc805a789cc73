use Rattle.std.proofs.Common.{rules}
use Rattle.std.proofs.lemmas.Simd.{map-map}
use Rattle.names.proofs.cycles.arcs_of.Goals as goal

pub returns : goal.returns
returns c = search (rules, map-map)
