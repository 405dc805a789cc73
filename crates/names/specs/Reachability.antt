-- Reachability in directed graphs whose nodes are names.
use Rattle.std.specs.Prelude.{ℕ, zero, suc, Bool, ◌||◌}
use Rattle.names.specs.Names.{Name, is_same}

-- The edges of a graph, as a test: some edge leads from the node to one that passes.
abbrev pub Edges : Type 0
Edges = (from : Name) → (passes : Name → Bool) → Bool

-- a chain of at most so many edges leads from one node to another
abbrev pub reaches : Edges → ℕ → Name → Name → Bool
reaches some_edge zero from to = is_same from to
reaches some_edge (suc steps) from to = is_same from to || some_edge from (λ next. reaches some_edge steps next to)
