use Rattle.std.proofs.Common.{rules}
use Rattle.std.proofs.lemmas.List.{length-map}
use Rattle.std.proofs.lemmas.Simd.{map-map}
use Rattle.names.proofs.cycles.closing_by_definition.Goals as goal

pub returns : goal.returns
returns c = search (rules, length-map, map-map)
