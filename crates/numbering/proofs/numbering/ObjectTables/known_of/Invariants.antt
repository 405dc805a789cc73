use Rattle.std.proofs.Common.{map, take}
use Rattle.numbering.specs.Known.{AreKnown}
use Rattle.numbering.proofs.numbering.ObjectTables.known_of.Given as goal

abbrev pub invariant-loop-listed : goal.invariant-loop-listed
invariant-loop-listed l = AreKnown l.self.domain l.self.problem (map (λ listed. listed.now) (take l.listed-index l.asked)) l.known.types l.known.ranges.items
