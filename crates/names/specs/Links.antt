-- Links between names, chains of them, and the names on a cycle.
use Rattle.std.specs.Prelude.{ℕ, Bool, ◌&&◌, List, length}
use Rattle.std.specs.List.{list_any}
use Rattle.names.specs.Names.{Name, is_same}
use Rattle.names.specs.Reachability.{Edges, reaches}

-- a link leads from a name to a name
pub record Link : Type 0 where
  pub from : Name
  pub to : Name

abbrev pub link : Name → Name → Link
link from to = record { from = from; to = to }

-- the links as the edges of a graph
abbrev pub some_link : List Link → Edges
some_link links from passes = list_any (λ link. is_same link.from from && passes link.to) links

-- a chain of at most so many links leads from one name to another
abbrev pub leads : List Link → ℕ → Name → Name → Bool
leads links = reaches (some_link links)

-- A chain of at least one link leads from the name back to it. A chain of more links than there are adds nothing.
abbrev pub is_on_cycle : List Link → Name → Bool
is_on_cycle links name = some_link links name (λ next. leads links (length links) next name)
