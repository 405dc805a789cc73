-- Two searches that are checked show which links close a cycle.
use Rattle.std.proofs.Common.{◌≡◌, ℕ, zero, suc, ◌<◌, ◌≤◌, Bool, true, ◌&&◌, ◌||◌, ◌⊎◌, inl, inr, List, [], map, length, get_or, nat_lt, nat_eq, Option, refl, sym, ap, ◌∙◌, subst, arith}
use Rattle.std.specs.Cmp.{both_ways}
use Rattle.std.specs.List.{list_all, position_or_len}
use Rattle.std.proofs.lemmas.Bool.{or_cases, and_parts, eqb-true, ltb-true}
use Rattle.std.proofs.lemmas.List.{get_or-map, length-map}
use Rattle.std.proofs.lemmas.List.Folds.{list_all-map}
use Rattle.std.proofs.lemmas.Simd.{map-map}
use Rattle.names.specs.Names.{Name, is_same}
use Rattle.names.proofs.SameNames.{same_name}
use Rattle.names.specs.declared.arcs.Arc.{Arc}
use Rattle.names.specs.declared.components.Place.{Place}
use Rattle.names.specs.Arcs.{arc_at}
use Rattle.names.specs.Components.{place_at, has_one_root, rank, leads_on, leads_to_root, is_led_to, IsShown}
use Rattle.names.specs.Cycles.{closes, arc_of}
use Rattle.names.specs.Links.{Link, link, leads}
use Rattle.names.proofs.Chains.{First, first_link, Chain, standing, stepping, joining, any_chain}
use Rattle.lists.proofs.Items.{Among, among_at, all_passes, same_map}
use Rattle.names.proofs.Tables.{name_at}

-- ---- what the check shows

abbrev no_link : Link
no_link = link [] []

module _ (names : List Name) (links : List Link) (against along : List (Option Place))
    (shown : IsShown (length names) (map (arc_of names) links) against along) where
  abbrev arcs : List Arc
  arcs = map (arc_of names) links

  abbrev number : Name → ℕ
  number name = position_or_len (is_same name) names

  abbrev name_of : ℕ → Name
  name_of place = get_or names place []

  abbrev root : ℕ → ℕ
  root place = (place_at against place).root

  abbrev link_at : ℕ → Link
  link_at place = get_or links place no_link

  abbrev is_on : Link → Bool
  is_on one = leads_on (length names) against (arc_of names one)

  -- what the test of a link says
  record On (one : Link) : Type 0 where
    begins : number one.from < length names
    ends : number one.to < length names
    stays_or_rises : (has_one_root against (number one.from) (number one.to) ≡ true) ⊎ (nat_lt (rank against (number one.from)) (rank against (number one.to)) ≡ true)

  on_of : (one : Link) → Among one links → On one
  on_of one among =
      let from_within : Bool = nat_lt (number one.from) (length names) in
      let to_within : Bool = nat_lt (number one.to) (length names) in
      let same : Bool = has_one_root against (number one.from) (number one.to) in
      let rises : Bool = nat_lt (rank against (number one.from)) (rank against (number one.to)) in
      let all : list_all is_on links ≡ true = sym (list_all-map (leads_on (length names) against) (arc_of names) links) ∙ shown.on in
      let first = and_parts from_within (to_within && (same || rises)) (all_passes is_on one links among all) in
      let rest = and_parts to_within (same || rises) first.1 in
      record { begins = ltb-true (number one.from) (length names) first.0; ends = ltb-true (number one.to) (length names) rest.0; stays_or_rises = or_cases same rises rest.1 }

  -- ---- no chain leads to a smaller rank

  abbrev rank_of : Name → ℕ
  rank_of name = rank against (number name)

  link_rank : (one : Link) → On one → rank_of one.from ≤ rank_of one.to
  link_rank one on = by on.stays_or_rises
    where
      by : (has_one_root against (number one.from) (number one.to) ≡ true) ⊎ (nat_lt (rank_of one.from) (rank_of one.to) ≡ true) → rank_of one.from ≤ rank_of one.to
      by (inl same) =
          let equal : rank_of one.from ≡ rank_of one.to = ap (λ (r : ℕ). (place_at against r).order) (eqb-true (root (number one.from)) (root (number one.to)) same) in
          omega (arith, equal)
      by (inr rises) =
          let above : rank_of one.from < rank_of one.to = ltb-true (rank_of one.from) (rank_of one.to) rises in
          omega (arith, above)

  chain_rank : (steps : ℕ) (from to : Name) → leads links steps from to ≡ true → rank_of from ≤ rank_of to
  chain_rank zero from to chain =
      let equal : rank_of from ≡ rank_of to = ap rank_of (same_name from to chain) in
      omega (arith, equal)
  chain_rank (suc steps) from to chain = by (λ (next : Name) (behind : leads links steps next to ≡ true). chain_rank steps next to behind) (first_link links steps from to chain)
    where
      by : ((next : Name) → leads links steps next to ≡ true → rank_of next ≤ rank_of to) → (from ≡ to) ⊎ First links steps from to → rank_of from ≤ rank_of to
      by rest (inl same) =
          let equal : rank_of from ≡ rank_of to = ap rank_of same in
          omega (arith, equal)
      by rest (inr way) =
          let first : rank_of way.first.from ≤ rank_of way.first.to = link_rank way.first (on_of way.first way.among) in
          let behind : rank_of way.first.to ≤ rank_of to = rest way.first.to way.chain in
          let equal : rank_of way.first.from ≡ rank_of from = ap rank_of way.starts in
          omega (arith, first, behind, equal)

  -- ---- a number leads to its root, and its root to it

  at : (place : ℕ) → place < length links → Among (link_at place) links
  at place within = among_at links place no_link within

  on_at : (place : ℕ) → place < length links → On (link_at place)
  on_at place within = on_of (link_at place) (at place within)

  arc_is : (place : ℕ) → place < length links → arc_at arcs place ≡ arc_of names (link_at place)
  arc_is place within = get_or-map (arc_of names) links place no_link (record { from = 0; to = 0 }) within

  spelled : (name : Name) → number name < length names → name_of (number name) ≡ name
  spelled name within = name_at names name [] within

  -- The four tests of a place that a search came to by an arc, whose near end is the place: `near` and `far` are the ends of arcs.
  record Taken (near far : Arc → ℕ) (search : List (Option Place)) (place : ℕ) : Type 0 where
    within : (place_at search place).arc < length links
    near_is : near (arc_of names (link_at (place_at search place).arc)) ≡ place
    one_root : root (far (arc_of names (link_at (place_at search place).arc))) ≡ root place
    is_earlier : (place_at search (far (arc_of names (link_at (place_at search place).arc)))).order < (place_at search place).order

  taken : (near far : Arc → ℕ) (search : List (Option Place)) (place : ℕ) →
      (nat_lt (place_at search place).arc (length arcs)
      && (nat_eq (near (arc_at arcs (place_at search place).arc)) place
      && (has_one_root against (far (arc_at arcs (place_at search place).arc)) place
      && nat_lt (place_at search (far (arc_at arcs (place_at search place).arc))).order (place_at search place).order))) ≡ true →
      Taken near far search place
  taken near far search place tests =
      let arc : Arc = arc_at arcs (place_at search place).arc in
      let is_within : Bool = nat_lt (place_at search place).arc (length arcs) in
      let is_near : Bool = nat_eq (near arc) place in
      let same : Bool = has_one_root against (far arc) place in
      let earlier : Bool = nat_lt (place_at search (far arc)).order (place_at search place).order in
      let first = and_parts is_within (is_near && (same && earlier)) tests in
      let second = and_parts is_near (same && earlier) first.1 in
      let third = and_parts same earlier second.1 in
      let below : (place_at search place).arc < length arcs = ltb-true (place_at search place).arc (length arcs) first.0 in
      let inside : (place_at search place).arc < length links = omega (arith, below, length-map links (arc_of names)) in
      let is : arc_at arcs (place_at search place).arc ≡ arc_of names (link_at (place_at search place).arc) = arc_is (place_at search place).arc inside in
      record {
        within = inside;
        near_is = sym (ap near is) ∙ eqb-true (near arc) place second.0;
        one_root = sym (ap (λ (a : Arc). root (far a)) is) ∙ eqb-true (root (far arc)) (root place) third.0;
        is_earlier = subst (λ (a : Arc). (place_at search (far a)).order < (place_at search place).order) is (ltb-true (place_at search (far arc)).order (place_at search place).order third.1);
      }

  stay : (name : Name) → Chain links name name
  stay name = record { steps = 0; leads_there = standing links 0 name name refl }

  abbrev start : Arc → ℕ
  start arc = arc.from

  abbrev end : Arc → ℕ
  end arc = arc.to

  to_root : (fuel place : ℕ) → place < length names → (place_at against place).order < fuel → Chain links (name_of place) (name_of (root place))
  to_root zero place within small = absurd (omega (arith, small))
  to_root (suc fuel) place within small =
      by (λ (next : ℕ). to_root fuel next) (or_cases (nat_eq (root place) place) (leads_to_root arcs against place && is_led_to arcs against along place) (shown.joined place within))
    where
      Rest : Type 0
      Rest = (next : ℕ) → next < length names → (place_at against next).order < fuel → Chain links (name_of next) (name_of (root next))

      step : Rest → Taken start end against place → Chain links (name_of place) (name_of (root place))
      step rest came =
          let one : Link = link_at (place_at against place).arc in
          let on : On one = on_at (place_at against place).arc came.within in
          let order : (place_at against (number one.to)).order < fuel = omega (arith, small, came.is_earlier) in
          let behind : Chain links (name_of (number one.to)) (name_of (root (number one.to))) = rest (number one.to) on.ends order in
          let to_there : Chain links one.to (name_of (root place)) =
          subst (λ (r : ℕ). Chain links one.to (name_of r)) came.one_root (subst (λ (n : Name). Chain links n (name_of (root (number one.to)))) (spelled one.to on.ends) behind) in
          subst (λ (n : Name). Chain links n (name_of (root place))) (sym (spelled one.from on.begins) ∙ ap name_of came.near_is)
          (stepping links one (name_of (root place)) (at (place_at against place).arc came.within) to_there)

      by : Rest → (nat_eq (root place) place ≡ true) ⊎ ((leads_to_root arcs against place && is_led_to arcs against along place) ≡ true) → Chain links (name_of place) (name_of (root place))
      by rest (inl same) = subst (λ (r : ℕ). Chain links (name_of place) (name_of r)) (sym (eqb-true (root place) place same)) (stay (name_of place))
      by rest (inr two) = step rest (taken start end against place (and_parts (leads_to_root arcs against place) (is_led_to arcs against along place) two).0)

  from_root : (fuel place : ℕ) → place < length names → (place_at along place).order < fuel → Chain links (name_of (root place)) (name_of place)
  from_root zero place within small = absurd (omega (arith, small))
  from_root (suc fuel) place within small =
      by (λ (next : ℕ). from_root fuel next) (or_cases (nat_eq (root place) place) (leads_to_root arcs against place && is_led_to arcs against along place) (shown.joined place within))
    where
      Rest : Type 0
      Rest = (next : ℕ) → next < length names → (place_at along next).order < fuel → Chain links (name_of (root next)) (name_of next)

      step : Rest → Taken end start along place → Chain links (name_of (root place)) (name_of place)
      step rest came =
          let one : Link = link_at (place_at along place).arc in
          let on : On one = on_at (place_at along place).arc came.within in
          let order : (place_at along (number one.from)).order < fuel = omega (arith, small, came.is_earlier) in
          let before : Chain links (name_of (root (number one.from))) (name_of (number one.from)) = rest (number one.from) on.begins order in
          let to_here : Chain links (name_of (root place)) one.from =
          subst (λ (r : ℕ). Chain links (name_of r) one.from) came.one_root (subst (λ (n : Name). Chain links (name_of (root (number one.from))) n) (spelled one.from on.begins) before) in
          let last : Chain links one.from one.to = stepping links one one.to (at (place_at along place).arc came.within) (stay one.to) in
          subst (λ (n : Name). Chain links (name_of (root place)) n) (sym (spelled one.to on.ends) ∙ ap name_of came.near_is)
          (joining links (name_of (root place)) one.from one.to to_here last)

      by : Rest → (nat_eq (root place) place ≡ true) ⊎ ((leads_to_root arcs against place && is_led_to arcs against along place) ≡ true) → Chain links (name_of (root place)) (name_of place)
      by rest (inl same) = subst (λ (r : ℕ). Chain links (name_of r) (name_of place)) (sym (eqb-true (root place) place same)) (stay (name_of place))
      by rest (inr two) = step rest (taken end start along place (and_parts (leads_to_root arcs against place) (is_led_to arcs against along place) two).1)

  -- ---- a link closes a cycle where its ends have one root

  closed : (one : Link) → Among one links → has_one_root against (number one.from) (number one.to) ≡ closes links one
  closed one among = both_ways (has_one_root against (number one.from) (number one.to)) (closes links one) comes_back stays_here
    where
      on : On one
      on = on_of one among

      back : root (number one.from) ≡ root (number one.to) → Chain links one.to one.from
      back same =
          let up : Chain links (name_of (number one.to)) (name_of (root (number one.to))) =
          to_root (suc (place_at against (number one.to)).order) (number one.to) on.ends (omega arith) in
          let down : Chain links (name_of (root (number one.from))) (name_of (number one.from)) =
          from_root (suc (place_at along (number one.from)).order) (number one.from) on.begins (omega arith) in
          let whole : Chain links (name_of (number one.to)) (name_of (number one.from)) =
          joining links (name_of (number one.to)) (name_of (root (number one.to))) (name_of (number one.from)) up
          (subst (λ (r : ℕ). Chain links (name_of r) (name_of (number one.from))) same down) in
          subst (λ (n : Name). Chain links n one.from) (spelled one.to on.ends)
          (subst (λ (n : Name). Chain links (name_of (number one.to)) n) (spelled one.from on.begins) whole)

      comes_back : has_one_root against (number one.from) (number one.to) ≡ true → closes links one ≡ true
      comes_back same =
          let chain = back (eqb-true (root (number one.from)) (root (number one.to)) same) in
          any_chain links chain.steps one.to one.from chain.leads_there

      stays_here : closes links one ≡ true → has_one_root against (number one.from) (number one.to) ≡ true
      stays_here closing = by on.stays_or_rises
        where
          by : (has_one_root against (number one.from) (number one.to) ≡ true) ⊎ (nat_lt (rank_of one.from) (rank_of one.to) ≡ true) → has_one_root against (number one.from) (number one.to) ≡ true
          by (inl same) = same
          by (inr rises) =
              let above : rank_of one.from < rank_of one.to = ltb-true (rank_of one.from) (rank_of one.to) rises in
              let back_again : rank_of one.to ≤ rank_of one.from = chain_rank (length links) one.to one.from closing in
              absurd (omega (arith, above, back_again))

  pub shows : map (λ arc. has_one_root against arc.from arc.to) (map (arc_of names) links) ≡ map (closes links) links
  shows =
      map-map (λ (arc : Arc). has_one_root against arc.from arc.to) (arc_of names) links
      ∙ same_map (λ (one : Link). has_one_root against (number one.from) (number one.to)) (closes links) links closed

-- the same, as the code has it
pub shown_answers : (names : List Name) (links : List Link) (against along : List (Option Place)) (count : ℕ) (all checked asked : List Arc) (answers : List Bool) →
    count ≡ length names → all ≡ map (arc_of names) links → checked ≡ all → asked ≡ all → IsShown count checked against along →
    answers ≡ map (λ arc. has_one_root against arc.from arc.to) asked → answers ≡ map (closes links) links
shown_answers names links against along count all checked asked answers counted are first second shown answered =
    let right : IsShown (length names) (map (arc_of names) links) against along =
    subst (λ (n : ℕ). IsShown n (map (arc_of names) links) against along) counted (subst (λ (list : List Arc). IsShown count list against along) (first ∙ are) shown) in
    answered ∙ ap (λ (list : List Arc). map (λ (arc : Arc). has_one_root against arc.from arc.to) list) (second ∙ are) ∙ shows names links against along right
