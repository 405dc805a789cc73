-- The facts of a group at their first places, in order.
use Rattle.std.proofs.Common.{◌≡◌, ℕ, ◌<◌, true, false, eqb, ◌&&◌, Option, Some, None, List, [], ◌∷◌, map, length, get_or, refl, sym, ap, ◌∙◌, subst, inl, inr, arith}
use Rattle.std.specs.List.{All, AllPairs, Contains, cons_option, filter, filter_map, position_or_len, range_with_len, slice_get}
use Rattle.std.specs.List.Sorted.{IsStrictlyIncreasing}
use Rattle.std.specs.Option.{option_map_or}
use Rattle.std.specs.Ordering.{nat_cmp, ordering_then, is_eq, eq_by_cmp}
use Rattle.std.specs.Cmp.{nat_cmp_is, unsigned_ties}
use Rattle.std.specs.declared.cmp.Ordering.{Ordering}
use Rattle.std.specs.declared.cmp.Ordering.TheVariants.{Less, Equal, Greater}
use Rattle.std.proofs.lemmas.Bool.{eqb-true, eq-eqb, and_from, and_parts, false≢true, false_from_ne_true}
use Rattle.std.proofs.lemmas.List.Kept.{AllPairs-filter, AllPairs-from_increasing}
use Rattle.std.proofs.lemmas.List.Sums.{position_or_len_is}
use Rattle.lists.specs.Members.{is_among}
use Rattle.sas_task.specs.declared.parts.Pair.{Pair}
use Rattle.sas_task.specs.Orders.{pair_cmp}
use Rattle.sas_task.specs.Valid.{ComesBefore}
use Rattle.sas_task.specs.TotalOrders.{pair_total}
use Rattle.sas_task.specs.InOrder.{sorted}
use Rattle.lists.proofs.Ordered.{same_ordered}
use Rattle.sas_task.proofs.Sorted.{sorted_member, member_sorted, sorted_ordered}
use Rattle.lists.proofs.Members.{no_member, member_first, member_later, member_cases, member_flat_map, flat_map_member, member_range, range_member, member_map, map_member, member_filter, filter_member}
use Rattle.sas_task.specs.Pairs.{pair}
use Rattle.fdr_effects.specs.Places.{Cover, set_of, places, first_place, last_value}
use Rattle.fdr_effects.specs.Groups.{is_groups, group_of}
use Rattle.fdr_effects.proofs.Sets.{has_member, member_has, place_below, at_place}
use Rattle.fdr_effects.proofs.Placed.{place_is}
use Rattle.fdr_effects.proofs.Rising.{range_rises, pairs_flat_map, pairs_map}

-- a list with what is given, if anything is, before it
module _ {X Y : Type 0} (f : X → Option Y) (x : X) (xs : List X) (y : Y) where
  given_member : (more : List Y) (o : Option Y) → f x ≡ o → (Contains more y → (z : X) × Contains xs z × (f z ≡ Some y)) → Contains (cons_option o more) y → (z : X) × Contains (x ∷ xs) z × (f z ≡ Some y)
  given_member more (Some w) is later in' =
      elim (member_cases w y more in') [
        | inl same ↦ (x, member_first x xs, is ∙ ap (λ v. Some v) same)
        | inr in-more ↦ let z = later in-more in (z.0, member_later x z.0 xs z.1, z.2)
      ]
  given_member more None is later in' = let z = later in' in (z.0, member_later x z.0 xs z.1, z.2)

  member_given : (more : List Y) (o : Option Y) → Contains more y → Contains (cons_option o more) y
  member_given more (Some w) in' = member_later w y more in'
  member_given more None in' = in'

pub filter_map_member : {X Y : Type 0} (f : X → Option Y) (xs : List X) (y : Y) → Contains (filter_map f xs) y → (x : X) × Contains xs x × (f x ≡ Some y)
filter_map_member f [] y none = absurd (no_member y none)
filter_map_member f (x ∷ xs) y in' = given_member f x xs y (filter_map f xs) (f x) refl (λ later. filter_map_member f xs y later) in'

pub member_filter_map : {X Y : Type 0} (f : X → Option Y) (xs : List X) (x : X) (y : Y) → Contains xs x → f x ≡ Some y → Contains (filter_map f xs) y
member_filter_map f [] x y none is = absurd (no_member x none)
member_filter_map f (z ∷ xs) x y in' is =
    elim (member_cases z x xs in') [
      | inl same ↦ subst (λ o. Contains (cons_option o (filter_map f xs)) y) (sym (ap f same ∙ is)) (member_first y (filter_map f xs))
      | inr later ↦ member_given f z xs y (filter_map f xs) (f z) (member_filter_map f xs x y later is)
    ]

-- the first place is a place
pub first_listed : (cover : Cover) (f : ℕ) (p : Pair) → first_place cover f ≡ Some p → Contains (places cover f) p
first_listed cover f p is = by_case (places cover f) is
  where
    by_case : (ps : List Pair) → slice_get ps 0 ≡ Some p → Contains ps p
    by_case [] none = absurd cc
    by_case (q ∷ ps) same = let is : q ≡ p = cc in subst (Contains (q ∷ ps)) is (member_first q ps)

-- a pair that comes before another is less
before_less : (p q : Pair) → ComesBefore p q → pair_cmp p q ≡ Less
before_less p q (inl less) = ap (λ o. ordering_then o (nat_cmp p.val q.val)) (sym (nat_cmp_is p.var q.var Less less))
before_less p q (inr same) =
    ap (λ o. ordering_then o (nat_cmp p.val q.val)) (sym (nat_cmp_is p.var q.var Equal same.0)) ∙ sym (nat_cmp_is p.val q.val Less same.1)

both_equal : (a b : Ordering) → is_eq (ordering_then a b) ≡ (is_eq a && is_eq b)
both_equal Less b = refl
both_equal Equal b = refl
both_equal Greater b = refl

-- pairs that aren't told apart
tied : (p q : Pair) → (eqb p.var q.var && eqb p.val q.val) ≡ eq_by_cmp pair_cmp p q
tied p q =
    ap (λ b. b && eqb p.val q.val) (unsigned_ties p.var q.var)
    ∙ ap (λ b. is_eq (nat_cmp p.var q.var) && b) (unsigned_ties p.val q.val)
    ∙ sym (both_equal (nat_cmp p.var q.var) (nat_cmp p.val q.val))

tied_same : (p q : Pair) → eq_by_cmp pair_cmp p q ≡ true → p ≡ q
tied_same p q is =
    let parts = and_parts (eqb p.var q.var) (eqb p.val q.val) (tied p q ∙ is) in
    let var = eqb-true p.var q.var parts.0 in
    let val = eqb-true p.val q.val parts.1 in
    λ i. record { var = var i; val = val i }

module _ (cover : Cover) (group : List ℕ) where
  -- its facts in a variable
  abbrev pub places_in : ℕ → List Pair
  places_in var = map (pair var) (filter (is_groups cover group var) (range_with_len 0 (last_value cover var)))

  pub in_variable : (var : ℕ) (p : Pair) → Contains (places_in var) p → (p.var ≡ var) × (p.val < last_value cover var) × (is_groups cover group var p.val ≡ true)
  in_variable var p in' =
      let val = map_member (pair var) (filter (is_groups cover group var) (range_with_len 0 (last_value cover var))) p in' in
      let at = filter_member (is_groups cover group var) (range_with_len 0 (last_value cover var)) val.0 val.1 in
      subst (λ (q : Pair). (q.var ≡ var) × (q.val < last_value cover var) × (is_groups cover group var q.val ≡ true)) val.2 (refl, range_member (last_value cover var) val.0 at.0, at.1)

  pub group_in_order : AllPairs ComesBefore (group_of cover group).facts
  group_in_order =
      pairs_flat_map ComesBefore (λ x y. x < y) places_in (range_with_len 0 (length cover)) (range_rises (length cover)) (λ var.
      pairs_map ComesBefore (λ x y. x < y) (pair var) (filter (is_groups cover group var) (range_with_len 0 (last_value cover var))) (λ x y less. inr (refl, less))
      (AllPairs-filter (λ x y. x < y) (is_groups cover group var) (range_with_len 0 (last_value cover var)) (range_rises (last_value cover var))))
      (λ x y less a b a-in b-in. inl (in_order x y less a b a-in b-in))
    where
      in_order : (x y : ℕ) → x < y → (a b : Pair) → Contains (places_in x) a → Contains (places_in y) b → a.var < b.var
      in_order x y less a b a-in b-in =
          let u = (in_variable x a a-in).0 in
          let v = (in_variable y b b-in).0 in
          omega arith

  -- the first place of a fact of the group is among its facts
  pub first_in_group : (f : ℕ) (p : Pair) → Contains group f → first_place cover f ≡ Some p → Contains (group_of cover group).facts p
  first_in_group f p in' is =
      let at = place_is cover f p (first_listed cover f p is) in
      let inside : p.val < last_value cover p.var = subst (λ k. k < last_value cover p.var) at.value (place_below (set_of cover p.var) f at.member) in
      let here : get_or (set_of cover p.var) p.val 0 ≡ f = ap (λ k. get_or (set_of cover p.var) k 0) (sym at.value) ∙ at_place (set_of cover p.var) f at.member 0 in
      let is-first : option_map_or (λ q. eqb q.var p.var) (first_place cover f) false ≡ true = ap (λ o. option_map_or (λ (q : Pair). eqb q.var p.var) o false) is ∙ eq-eqb p.var p.var refl in
      let passes : is_groups cover group p.var p.val ≡ true = subst (λ g. (is_among eqb group g && option_map_or (λ q. eqb q.var p.var) (first_place cover g) false) ≡ true) (sym here) (and_from _ _ (member_has group f in') is-first) in
      member_flat_map places_in (range_with_len 0 (length cover)) p.var p (member_range (length cover) p.var at.below)
      (member_map (pair p.var) (filter (is_groups cover group p.var) (range_with_len 0 (last_value cover p.var))) p.val
      (member_filter (is_groups cover group p.var) (range_with_len 0 (last_value cover p.var)) p.val (member_range (last_value cover p.var) p.val inside) passes))

  module _ (apart : All IsStrictlyIncreasing cover) where
    -- a fact stands once in a set
    place_once : (set : List ℕ) → IsStrictlyIncreasing set → (val : ℕ) → val < length set → position_or_len (eqb (get_or set val 0)) set ≡ val
    place_once set up val within =
        position_or_len_is (eqb (get_or set val 0)) set val 0 (omega arith)
        (λ k before.
        let less = AllPairs-from_increasing set up k val 0 before within in
        false_from_ne_true (eqb (get_or set val 0) (get_or set k 0)) (λ h. let same = eqb-true (get_or set val 0) (get_or set k 0) h in absurd (omega arith)))
        (λ within'. eq-eqb (get_or set val 0) (get_or set val 0) refl)

    first_at : (ps : List Pair) (var : ℕ) → option_map_or (λ q. eqb q.var var) (slice_get ps 0) false ≡ true → (q : Pair) × (slice_get ps 0 ≡ Some q) × (q.var ≡ var)
    first_at [] var none = absurd (false≢true none)
    first_at (q ∷ ps) var is = (q, refl, eqb-true q.var var is)

    -- each of its facts stands at the first place
    pub group_first : (p : Pair) → Contains (group_of cover group).facts p → (f : ℕ) × Contains group f × (first_place cover f ≡ Some p)
    group_first p in' =
        let var = flat_map_member places_in (range_with_len 0 (length cover)) p in' in
        let at = in_variable var.0 p var.2 in
        let set = set_of cover var.0 in
        let f = get_or set p.val 0 in
        let both = and_parts (is_among eqb group f) _ at.2 in
        let first = first_at (places cover f) var.0 both.1 in
        let place = place_is cover f first.0 (first_listed cover f first.0 first.1) in
        let up : IsStrictlyIncreasing set = apart var.0 [] (range_member (length cover) var.0 var.1) in
        let val : first.0.val ≡ p.val = sym place.value ∙ ap (λ v. position_or_len (eqb f) (set_of cover v)) first.2 ∙ place_once set up p.val at.1 in
        let same : first.0 ≡ p = λ i. record { var = (first.2 ∙ sym at.0) i; val = val i } in
        (f, has_member group f both.0, first.1 ∙ ap (λ q. Some q) same)

    -- in order and without repeats, the first places are the group's facts
    pub grouped : sorted pair_cmp (filter_map (first_place cover) group) ≡ (group_of cover group).facts
    grouped =
        let first = filter_map (first_place cover) group in
        let facts = (group_of cover group).facts in
        same_ordered (λ p q. pair_cmp p q ≡ Less) (λ p q less more. let e = pair_total.antisymm p q in absurd cc) (sorted pair_cmp first) facts
        (sorted_ordered pair_cmp pair_total first) (λ i j d before within. before_less (get_or facts i d) (get_or facts j d) (group_in_order i j d before within))
        (λ p in'. let f = filter_map_member (first_place cover) group p (sorted_member pair_cmp pair_total first p in') in first_in_group f.0 p f.1 f.2)
        (λ p in'.
        let f = group_first p in' in
        member_sorted pair_cmp pair_total first (λ p q p-in q-in equal. tied_same p q (ap is_eq equal)) p (member_filter_map (first_place cover) group f.0 p f.1 f.2))
