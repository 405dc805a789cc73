use Rattle.std.proofs.Common.{◌≡◌, ◌++◌, map, take}
use Rattle.fault_positions.specs.Seen.{all_seen}
use Rattle.numbering.specs.Asked.{types_of}
use Rattle.numbering.proofs.asked.ask.Given as goal

abbrev pub invariant-loop-mention : goal.invariant-loop-mention
invariant-loop-mention l = map (λ listed. listed.now) l.asked.items ≡ map (λ listed. listed.now) l.initial.asked.items ++ types_of (all_seen (take l.mention-index l.mentions))
