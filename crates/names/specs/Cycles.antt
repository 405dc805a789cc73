-- Links as they are searched for cycles.
use Rattle.std.specs.Prelude.{Bool, List, map, length}
use Rattle.std.specs.List.{position_or_len}
use Rattle.names.specs.Names.{Name, is_same}
use Rattle.names.specs.declared.arcs.Arc.{Arc}
use Rattle.names.specs.declared.links.Ends.{Ends}
use Rattle.names.specs.Links.{Link, link, leads}

-- what the code's list of links says
abbrev pub links_of : List Ends → List Link
links_of pairs = map (λ pair. link pair.from.now pair.to.now) pairs

-- a chain leads from the link's end back to its beginning
abbrev pub closes : List Link → Link → Bool
closes links one = leads links (length links) one.to one.from

-- the link, between the positions of its names
abbrev pub arc_of : List Name → Link → Arc
arc_of names one = record { from = position_or_len (is_same one.from) names; to = position_or_len (is_same one.to) names }
