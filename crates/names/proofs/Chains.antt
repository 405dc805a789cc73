-- Chains of links: they join, none needs more links than there are, and where no link starts on a cycle each of them ends.
use Rattle.std.proofs.Common.{◌≡◌, ℕ, zero, suc, Bool, true, false, ◌&&◌, ◌⊎◌, inl, inr, List, map, length, refl, sym, ap, subst, arith}
use Rattle.std.specs.List.{list_any}
use Rattle.std.proofs.lemmas.Bool.{or_cases, or_right, and_from, and_parts}
use Rattle.std.proofs.lemmas.List.{length-map}
use Rattle.names.specs.Names.{Name, is_same}
use Rattle.names.proofs.SameNames.{same_name}
use Rattle.names.specs.Links.{Link, some_link, leads, is_on_cycle}
use Rattle.names.proofs.Reachability as graph
use Rattle.names.proofs.Reachability.{IsGraph, same_as}
use Rattle.lists.proofs.Items.{Among, among_map, taken_out, one_fewer, out_or_left, any_passes, passing}

-- ---- the first link

-- the link leads on from one name, and the chain behind it to the other
abbrev goes_on : List Link → ℕ → Name → Name → Link → Bool
goes_on links steps from to link = is_same link.from from && leads links steps link.to to

-- a link, and so many behind it
pub record First (links : List Link) (steps : ℕ) (from to : Name) : Type 0 where
  pub first : Link
  pub among : Among first links
  pub starts : first.from ≡ from
  pub chain : leads links steps first.to to ≡ true

-- a chain of no links
pub standing : (links : List Link) (steps : ℕ) (from to : Name) → from ≡ to → leads links steps from to ≡ true
standing links = graph.standing (some_link links)

pub with_first : (links : List Link) (steps : ℕ) (from to : Name) → First links steps from to → leads links (suc steps) from to ≡ true
with_first links steps from to on =
    or_right (is_same from to) (list_any (goes_on links steps from to) links)
    (any_passes (goes_on links steps from to) on.first links on.among (and_from (is_same on.first.from from) (leads links steps on.first.to to) (same_as on.first.from from on.starts) on.chain))

-- a chain has no link, or a first one
pub first_link : (links : List Link) (steps : ℕ) (from to : Name) → leads links (suc steps) from to ≡ true → (from ≡ to) ⊎ First links steps from to
first_link links steps from to chain = by (or_cases (is_same from to) (list_any (goes_on links steps from to) links) chain)
  where
    by : (is_same from to ≡ true) ⊎ (list_any (goes_on links steps from to) links ≡ true) → (from ≡ to) ⊎ First links steps from to
    by (inl same) = inl (same_name from to same)
    by (inr some) =
        let on = passing (goes_on links steps from to) links some in
        let parts = and_parts (is_same on.item.from from) (leads links steps on.item.to to) on.passes in
        inr (record { first = on.item; among = on.among; starts = same_name on.item.from from parts.0; chain = parts.1 })

-- ---- chains that join

-- a chain of some number of links
pub record Chain (links : List Link) (from to : Name) : Type 0 where
  pub steps : ℕ
  pub leads_there : leads links steps from to ≡ true

pub stepping : (links : List Link) (link : Link) (to : Name) → Among link links → Chain links link.to to → Chain links link.from to
stepping links link to among chain = record {
  steps = suc chain.steps;
  leads_there = with_first links chain.steps link.from to (record { first = link; among = among; starts = refl; chain = chain.leads_there });
}

from_steps : (links : List Link) (steps : ℕ) (from middle to : Name) → leads links steps from middle ≡ true → Chain links middle to → Chain links from to
from_steps links zero from middle to chain rest = subst (λ (name : Name). Chain links name to) (sym (same_name from middle chain)) rest
from_steps links (suc steps) from middle to chain rest =
    by (λ (next : Name) (behind : leads links steps next middle ≡ true). from_steps links steps next middle to behind rest) (first_link links steps from middle chain)
  where
    by : ((next : Name) → leads links steps next middle ≡ true → Chain links next to) → (from ≡ middle) ⊎ First links steps from middle → Chain links from to
    by behind (inl equal) = subst (λ (name : Name). Chain links name to) (sym equal) rest
    by behind (inr on) = subst (λ (name : Name). Chain links name to) on.starts (stepping links on.first to on.among (behind on.first.to on.chain))

pub joining : (links : List Link) (from middle to : Name) → Chain links from middle → Chain links middle to → Chain links from to
joining links from middle to first rest = from_steps links first.steps from middle to first.leads_there rest

-- ---- no chain needs more links than there are

-- links as the edges of a graph
links_graph : (links : List Link) → IsGraph (some_link links) (map (λ link. link.from) links)
links_graph links = record {
  next_of = λ from passes some.
      let on = passing (λ link. is_same link.from from && passes link.to) links some in
      let parts = and_parts (is_same on.item.from from) (passes on.item.to) on.passes in
      record {
        next = on.item.to;
        passing = parts.1;
        edge = λ other passed. any_passes (λ link. is_same link.from from && other link.to) on.item links on.among (and_from (is_same on.item.from from) (other on.item.to) parts.0 passed);
      };
  start_of = λ from passes some.
      let on = passing (λ link. is_same link.from from && passes link.to) links some in
      let start = same_name on.item.from from (and_parts (is_same on.item.from from) (passes on.item.to) on.passes).0 in
      subst (λ (name : Name). Among name (map (λ (link : Link). link.from) links)) start (among_map (λ (link : Link). link.from) on.item links on.among);
}

-- a chain of any number of links leads no further than one of as many as there are
pub any_chain : (links : List Link) (steps : ℕ) (from to : Name) → leads links steps from to ≡ true → leads links (length links) from to ≡ true
any_chain links steps from to chain =
    subst (λ (count : ℕ). leads links count from to ≡ true) (length-map links (λ (link : Link). link.from))
    (graph.any_chain (some_link links) (map (λ (link : Link). link.from) links) (links_graph links) steps from to chain)

-- ---- chains that end

-- each chain of links from the name has fewer links
abbrev pub Ends : List Link → ℕ → Name → Type 0
Ends links zero name = ⊥
Ends links (suc most) name = (link : Link) → Among link links → link.from ≡ name → Ends links most link.to

-- no link starts on a cycle
abbrev pub NoCycles : List Link → Type 0
NoCycles links = (link : Link) → Among link links → is_on_cycle links link.from ≡ false

module _ (links : List Link) (acyclic : NoCycles links) where
  -- a link, and any number behind it
  record Way (from to : Name) : Type 0 where
    steps : ℕ
    on : First links steps from to

  -- no way leads back to a name where a link starts
  no_way_back : (link : Link) → Among link links → Way link.from link.from → ⊥
  no_way_back link among way =
      let on = way.on in
      let chain = any_chain links way.steps on.first.to link.from on.chain in
      let cycle : is_on_cycle links link.from ≡ true =
      any_passes (goes_on links (length links) link.from link.from) on.first links on.among
      (and_from (is_same on.first.from link.from) (leads links (length links) on.first.to link.from) (same_as on.first.from link.from on.starts) chain) in
      absurd (cc (cycle, acyclic link among))

  -- Each link starts where a way leads to this name, or is unused. A chain that goes on uses one more link, and never comes back.
  abbrev Used : List Link → Name → Type 0
  Used unused name = (link : Link) → Among link links → Way link.from name ⊎ Among link unused

  use_next : (unused : List Link) (next : Link) → Among next links → (out : Among next unused) → Used unused next.from → Used (taken_out next unused out) next.to
  use_next unused next among out used link there = by (used link there)
    where
      last : Chain links next.from next.to
      last = stepping links next next.to among (record { steps = zero; leads_there = standing links zero next.to next.to refl })

      by_unused : (next ≡ link) ⊎ Among link (taken_out next unused out) → Way link.from next.to ⊎ Among link (taken_out next unused out)
      by_unused (inl same) = inl (record { steps = zero; on = record { first = next; among = among; starts = ap (λ (l : Link). l.from) same; chain = standing links zero next.to next.to refl } })
      by_unused (inr left) = inr left

      by : Way link.from next.from ⊎ Among link unused → Way link.from next.to ⊎ Among link (taken_out next unused out)
      by (inl way) =
          let longer = from_steps links way.steps way.on.first.to next.from next.to way.on.chain last in
          inl (record { steps = longer.steps; on = record { first = way.on.first; among = way.on.among; starts = way.on.starts; chain = longer.leads_there } })
      by (inr unused_yet) = by_unused (out_or_left next unused out link unused_yet)

  -- a link that leads on from the name is unused
  is_unused : (unused : List Link) (next : Link) → Among next links → Used unused next.from → Among next unused
  is_unused unused next among used = by (used next among)
    where
      by : Way next.from next.from ⊎ Among next unused → Among next unused
      by (inl way) = absurd (no_way_back next among way)
      by (inr there) = there

  ends_behind : (size : ℕ) (unused : List Link) (name : Name) → length unused ≡ size → Used unused name → Ends links (suc size) name
  ends_behind zero unused name sized used next among starts =
      let out = is_unused unused next among (subst (Used unused) (sym starts) used) in
      omega (arith, one_fewer next unused out, sized)
  ends_behind (suc size) unused name sized used next among starts =
      let used_there = subst (Used unused) (sym starts) used in
      let out = is_unused unused next among used_there in
      ends_behind size (taken_out next unused out) next.to (omega (arith, one_fewer next unused out, sized)) (use_next unused next among out used_there)

  -- each chain of links has no more links than there are
  pub chains_end : (name : Name) → Ends links (suc (length links)) name
  chains_end name = ends_behind (length links) links name refl (λ link among. inr among)
