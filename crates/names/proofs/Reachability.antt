-- In a graph with finitely many nodes where edges start, a chain of more edges than there are such nodes reaches nothing more.
use Rattle.std.proofs.Common.{◌≡◌, ℕ, zero, suc, Bool, true, false, not, ◌&&◌, ◌⊎◌, inl, inr, List, length, refl, sym, ap, subst, arith}
use Rattle.std.proofs.lemmas.Bool.{or_cases, or_left, or_right, and_from, and_parts, cases_Bool}
use Rattle.std.proofs.lemmas.Cmp.{nat_list_eq_equiv}
use Rattle.lists.proofs.Items.{Among, taken_out, one_fewer, out_or_left}
use Rattle.names.specs.Names.{Name, is_same}
use Rattle.names.specs.Reachability.{Edges, reaches}
use Rattle.names.proofs.SameNames.{same_name}

-- an edge leads from one node to the other, whatever test tells that
abbrev pub Edge : Edges → Name → Name → Type 0
Edge some_edge from next = (passes : Name → Bool) → passes next ≡ true → some_edge from passes ≡ true

-- an edge from the node to one that passes
pub record Next (some_edge : Edges) (from : Name) (passes : Name → Bool) : Type 0 where
  pub next : Name
  pub passing : passes next ≡ true
  pub edge : Edge some_edge from next

-- The test tells of edges, and each of them starts at one of these nodes.
pub record IsGraph (some_edge : Edges) (starts : List Name) : Type 0 where
  pub next_of : (from : Name) (passes : Name → Bool) → some_edge from passes ≡ true → Next some_edge from passes
  pub start_of : (from : Name) (passes : Name → Bool) → some_edge from passes ≡ true → Among from starts

-- ---- the first edge

pub same_as : (a b : Name) → a ≡ b → is_same a b ≡ true
same_as a b equal = subst (λ (name : Name). is_same a name ≡ true) equal (nat_list_eq_equiv.refl a)

-- a chain of no edges
pub standing : (some_edge : Edges) (steps : ℕ) (from to : Name) → from ≡ to → reaches some_edge steps from to ≡ true
standing some_edge zero from to equal = same_as from to equal
standing some_edge (suc steps) from to equal = or_left (is_same from to) (some_edge from (λ next. reaches some_edge steps next to)) (same_as from to equal)

-- an edge, and a chain behind it
with_edge : (some_edge : Edges) (steps : ℕ) (from next to : Name) → Edge some_edge from next → reaches some_edge steps next to ≡ true → reaches some_edge (suc steps) from to ≡ true
with_edge some_edge steps from next to edge behind =
    or_right (is_same from to) (some_edge from (λ next. reaches some_edge steps next to)) (edge (λ next. reaches some_edge steps next to) behind)

-- a chain has no edge, or a first one
first_edge : (some_edge : Edges) (starts : List Name) → IsGraph some_edge starts → (steps : ℕ) (from to : Name) → reaches some_edge (suc steps) from to ≡ true →
    (from ≡ to) ⊎ ((some_edge from (λ next. reaches some_edge steps next to)) ≡ true)
first_edge some_edge starts graph steps from to chain = by (or_cases (is_same from to) (some_edge from (λ next. reaches some_edge steps next to)) chain)
  where
    by : (is_same from to ≡ true) ⊎ (some_edge from (λ next. reaches some_edge steps next to) ≡ true) → (from ≡ to) ⊎ (some_edge from (λ next. reaches some_edge steps next to) ≡ true)
    by (inl same) = inl (same_name from to same)
    by (inr some) = inr some

-- ---- the graph without the edges from a node

abbrev without : Edges → Name → Edges
without some_edge node from passes = not (is_same from node) && some_edge from passes

module _ (some_edge : Edges) (starts : List Name) (graph : IsGraph some_edge starts) (node : Name) (among : Among node starts) where
  abbrev fewer : Edges
  fewer = without some_edge node

  graph_without : IsGraph fewer (taken_out node starts among)
  graph_without = record {
    next_of = λ from passes some.
        let parts = and_parts (not (is_same from node)) (some_edge from passes) some in
        let next = graph.next_of from passes parts.1 in
        record { next = next.next; passing = next.passing; edge = λ other passed. and_from (not (is_same from node)) (some_edge from other) parts.0 (next.edge other passed) };
    start_of = λ from passes some.
        let parts = and_parts (not (is_same from node)) (some_edge from passes) some in
        left from parts.0 (out_or_left node starts among from (graph.start_of from passes parts.1));
  }
    where
      left : (from : Name) → not (is_same from node) ≡ true → (node ≡ from) ⊎ Among from (taken_out node starts among) → Among from (taken_out node starts among)
      left from differ (inl same) = let told = same_as from node (sym same) in absurd cc
      left from differ (inr rest) = rest

  -- what is reached without these edges is reached with them
  with_all : (steps : ℕ) (from to : Name) → reaches fewer steps from to ≡ true → reaches some_edge steps from to ≡ true
  with_all zero from to chain = chain
  with_all (suc steps) from to chain = by (λ next. with_all steps next to) (first_edge fewer (taken_out node starts among) graph_without steps from to chain)
    where
      by : ((next : Name) → reaches fewer steps next to ≡ true → reaches some_edge steps next to ≡ true) →
          (from ≡ to) ⊎ (fewer from (λ next. reaches fewer steps next to) ≡ true) → reaches some_edge (suc steps) from to ≡ true
      by rest (inl equal) = standing some_edge (suc steps) from to equal
      by rest (inr some) =
          let parts = and_parts (not (is_same from node)) (some_edge from (λ next. reaches fewer steps next to)) some in
          let next = graph.next_of from (λ next. reaches fewer steps next to) parts.1 in
          with_edge some_edge steps from next.next to next.edge (rest next.next next.passing)

  -- the last edge of a chain that starts at the node, and what is behind it
  record Behind (to : Name) : Type 0 where
    steps : ℕ
    next : Name
    edge : Edge some_edge node next
    chain : reaches fewer steps next to ≡ true

  -- a chain has no edge from the node, or a last one
  last_use : (steps : ℕ) (from to : Name) → reaches some_edge steps from to ≡ true → (reaches fewer steps from to ≡ true) ⊎ Behind to
  last_use zero from to chain = inl chain
  last_use (suc steps) from to chain = by (λ next. last_use steps next to) (first_edge some_edge starts graph steps from to chain)
    where
      by_start : (next : Next some_edge from (λ next. reaches some_edge steps next to)) → reaches fewer steps next.next to ≡ true → (is_same from node ≡ true) ⊎ (is_same from node ≡ false) →
          (reaches fewer (suc steps) from to ≡ true) ⊎ Behind to
      by_start next behind (inl same) =
          inr (record { steps = steps; next = next.next; edge = subst (λ (name : Name). Edge some_edge name next.next) (same_name from node same) next.edge; chain = behind })
      by_start next behind (inr differ) =
          inl (with_edge fewer steps from next.next to (λ other passed. and_from (not (is_same from node)) (some_edge from other) (ap not differ) (next.edge other passed)) behind)

      by_rest : (next : Next some_edge from (λ next. reaches some_edge steps next to)) → (reaches fewer steps next.next to ≡ true) ⊎ Behind to → (reaches fewer (suc steps) from to ≡ true) ⊎ Behind to
      by_rest next (inr behind) = inr behind
      by_rest next (inl behind) = by_start next behind (cases_Bool (is_same from node))

      by : ((next : Name) → reaches some_edge steps next to ≡ true → (reaches fewer steps next to ≡ true) ⊎ Behind to) →
          (from ≡ to) ⊎ (some_edge from (λ next. reaches some_edge steps next to) ≡ true) → (reaches fewer (suc steps) from to ≡ true) ⊎ Behind to
      by rest (inl equal) = inl (standing fewer (suc steps) from to equal)
      by rest (inr some) = let next = graph.next_of from (λ next. reaches some_edge steps next to) some in by_rest next (rest next.next next.passing)

  -- a chain that begins at the node is its last edge from there, and a chain without such edges
  from_node : (steps : ℕ) (to : Name) → Next some_edge node (λ next. reaches some_edge steps next to) → Behind to
  from_node steps to next = by (last_use steps next.next to next.passing)
    where
      by : (reaches fewer steps next.next to ≡ true) ⊎ Behind to → Behind to
      by (inl chain) = record { steps = steps; next = next.next; edge = next.edge; chain = chain }
      by (inr behind) = behind

-- ---- no chain needs more edges than there are nodes where edges start

abbrev IsShort : ℕ → Type 0
IsShort size = (some_edge : Edges) (starts : List Name) → IsGraph some_edge starts → length starts ≡ size →
    (steps : ℕ) (from to : Name) → reaches some_edge steps from to ≡ true → reaches some_edge size from to ≡ true

shortened : (size : ℕ) → IsShort size
shortened size some_edge starts graph sized zero from to chain = standing some_edge size from to (same_name from to chain)
shortened zero some_edge starts graph sized (suc steps) from to chain = by (first_edge some_edge starts graph steps from to chain)
  where
    by : (from ≡ to) ⊎ (some_edge from (λ next. reaches some_edge steps next to) ≡ true) → reaches some_edge zero from to ≡ true
    by (inl equal) = standing some_edge zero from to equal
    by (inr some) = absurd (omega (arith, sized, one_fewer from starts (graph.start_of from (λ next. reaches some_edge steps next to) some)))
shortened (suc size) some_edge starts graph sized (suc steps) from to chain = by (shortened size) (first_edge some_edge starts graph steps from to chain)
  where
    by : IsShort size → (from ≡ to) ⊎ (some_edge from (λ next. reaches some_edge steps next to) ≡ true) → reaches some_edge (suc size) from to ≡ true
    by short (inl equal) = standing some_edge (suc size) from to equal
    by short (inr some) =
        let among = graph.start_of from (λ next. reaches some_edge steps next to) some in
        let behind = from_node some_edge starts graph from among steps to (graph.next_of from (λ next. reaches some_edge steps next to) some) in
        let rest = short (without some_edge from) (taken_out from starts among) (graph_without some_edge starts graph from among) (omega (arith, sized, one_fewer from starts among)) behind.steps behind.next to behind.chain in
        with_edge some_edge size from behind.next to behind.edge (with_all some_edge starts graph from among size behind.next to rest)

-- a chain of any number of edges reaches no further than one of as many as there are nodes where edges start
pub any_chain : (some_edge : Edges) (starts : List Name) → IsGraph some_edge starts → (steps : ℕ) (from to : Name) → reaches some_edge steps from to ≡ true → reaches some_edge (length starts) from to ≡ true
any_chain some_edge starts graph steps from to chain = shortened (length starts) some_edge starts graph refl steps from to chain
