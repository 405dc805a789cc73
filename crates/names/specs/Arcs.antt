-- The arcs of a graph whose nodes are numbers, by the nodes from which they lead.
use Rattle.std.specs.Prelude.{ℕ, List, map, filter, length, nat_eq, slice_index_or}
use Rattle.std.specs.List.{range_with_len}
use Rattle.names.specs.declared.arcs.Arc.{Arc}

-- the arc at a position, with an arc that stands for one that isn't there
abbrev pub arc_at : List Arc → ℕ → Arc
arc_at arcs position = slice_index_or arcs position (record { from = 0; to = 0 })

-- of so many arcs the positions of those that lead from the number
abbrev pub positions_from : List Arc → ℕ → ℕ → List ℕ
positions_from arcs count number = filter (λ position. nat_eq (arc_at arcs position).from number) (range_with_len 0 count)

-- the same of all arcs, for each number below `count`
abbrev pub by_source : ℕ → List Arc → List (List ℕ)
by_source count arcs = map (positions_from arcs (length arcs)) (range_with_len 0 count)
