-- No chain of supertypes needs more entries of `:types` than there are.
use Rattle.std.proofs.Common.{◌≡◌, ℕ, Bool, true, not, ◌&&◌, List, map, length, subst}
use Rattle.std.specs.List.{list_any}
use Rattle.std.proofs.lemmas.Bool.{and_from, and_parts}
use Rattle.std.proofs.lemmas.List.{length-map}
use Rattle.lists.proofs.Items.{Among, among_map, any_passes, passing}
use Rattle.names.proofs.Reachability.{IsGraph}
use Rattle.names.proofs.Reachability as graph
use Rattle.names.proofs.SameNames.{same_name}
use Rattle.pddl_syntax.specs.declared.types.Named.{Named}
use Rattle.pddl_syntax.specs.declared.types.Typed.{Typed}
use Rattle.pddl_syntax.specs.Words.{Name, is_same}
use Rattle.pddl_syntax.specs.Objects.{root, declares, some_supertype, leads}

-- the entries that lead up from one type, to a type that passes
abbrev leads_up : Name → (Name → Bool) → Typed → Bool
leads_up from passes entry = declares entry from && list_any (λ (parent : Named). passes parent.name) entry.types

types_graph : (types : List Typed) → IsGraph (some_supertype types) (map (λ entry. entry.name.name) types)
types_graph types = record {
  next_of = λ from passes some.
      let on = passing (leads_up from passes) types some in
      let parts = and_parts (declares on.item from) (list_any (λ (parent : Named). passes parent.name) on.item.types) on.passes in
      let above = passing (λ (parent : Named). passes parent.name) on.item.types parts.1 in
      record {
        next = above.item.name;
        passing = above.passes;
        edge = λ other passed.
            any_passes (leads_up from other) on.item types on.among
            (and_from (declares on.item from) (list_any (λ (parent : Named). other parent.name) on.item.types) parts.0
            (any_passes (λ (parent : Named). other parent.name) above.item on.item.types above.among passed));
      };
  start_of = λ from passes some.
      let on = passing (leads_up from passes) types some in
      let declared = (and_parts (declares on.item from) (list_any (λ (parent : Named). passes parent.name) on.item.types) on.passes).0 in
      let start = same_name on.item.name.name from (and_parts (is_same on.item.name.name from) (not (is_same from root)) declared).0 in
      subst (λ (name : Name). Among name (map (λ (entry : Typed). entry.name.name) types)) start (among_map (λ (entry : Typed). entry.name.name) on.item types on.among);
}

-- a chain of any number of entries leads no further than one of as many as there are
pub any_chain : (types : List Typed) (steps : ℕ) (from to : Name) → leads types steps from to ≡ true → leads types (length types) from to ≡ true
any_chain types steps from to chain =
    subst (λ (count : ℕ). leads types count from to ≡ true) (length-map types (λ (entry : Typed). entry.name.name))
    (graph.any_chain (some_supertype types) (map (λ (entry : Typed). entry.name.name) types) (types_graph types) steps from to chain)
