-- What the code's list of mentions says.
use Rattle.std.specs.Prelude.{List, map}
use Rattle.fault_positions.specs.declared.mentions.Mention as code
use Rattle.fault_positions.specs.declared.mentions.Mention.TheVariants as mentions
use Rattle.fault_positions.specs.Mentions.{Mention, Variables, Derives, Asked, Written, Function, Compared}

abbrev pub seen : code.Mention → Mention
seen (mentions.Variables variables) = Variables variables.now
seen (mentions.Derives head) = Derives head.now
seen (mentions.Asked atom) = Asked atom.now
seen (mentions.Written atom) = Written atom.now
seen (mentions.Function term) = Function term.now
seen (mentions.Compared left right) = Compared left.now right.now

abbrev pub all_seen : List code.Mention → List Mention
all_seen list = map seen list
