-- The places of facts.
use Rattle.std.proofs.Common.{◌≡◌, ℕ, ◌<◌, true, eqb, length, get_or, Some, refl, sym, ◌∙◌, subst, arith}
use Rattle.std.specs.List.{Contains, filter, range_with_len, position_or_len}
use Rattle.std.proofs.lemmas.Bool.{eqb-true, eq-eqb}
use Rattle.std.proofs.lemmas.List.Elements.{Contains-get_or}
use Rattle.std.proofs.lemmas.Option.{slice_get-get_or}
use Rattle.lists.specs.Members.{is_among}
use Rattle.sas_task.specs.declared.parts.Pair.{Pair}
use Rattle.lists.proofs.Members.{member_range, range_member, member_map, map_member, member_filter, filter_member, any_member, member_any}
use Rattle.ground_task.specs.declared.types.Cond.{Cond}
use Rattle.planning.specs.Task.{State}
use Rattle.sas_task.specs.Pairs.{pair}
use Rattle.fdr_effects.specs.Places.{Cover, set_of, places, first_place, stands_in, value_in}
use Rattle.reached_task.specs.Exclusive.{AtMostOne}
use Rattle.fdr_effects.proofs.Sets.{has_member, member_has, place_of_true, true_at_place}

-- of each set at most one fact is true in the state
abbrev pub AreExclusive : Cover → State ℕ → Type 0
AreExclusive cover state = (var : ℕ) → var < length cover → AtMostOne state (set_of cover var)

-- the fact has a place
abbrev pub Stands : Cover → ℕ → Type 0
Stands cover f = 0 < length (places cover f)

-- each literal's fact has
pub record AllStand (cover : Cover) (literals : Cond ℕ) : Type 0 where
  pub positive : (f : ℕ) → Contains literals.positive f → Stands cover f
  pub negative : (f : ℕ) → Contains literals.negative f → Stands cover f

-- the variable has the fact, at this value
pub record IsPlace (cover : Cover) (f : ℕ) (p : Pair) : Type 0 where
  pub below : p.var < length cover
  pub member : Contains (set_of cover p.var) f
  pub value : position_or_len (eqb f) (set_of cover p.var) ≡ p.val

module _ (cover : Cover) (f : ℕ) where
  abbrev pub place_in : ℕ → Pair
  place_in var = pair var (position_or_len (eqb f) (set_of cover var))

  pub place_is : (p : Pair) → Contains (places cover f) p → IsPlace cover f p
  place_is p in' =
      let v = map_member place_in (filter (λ var. is_among eqb (set_of cover var) f) (range_with_len 0 (length cover))) p in' in
      let at = filter_member (λ var. is_among eqb (set_of cover var) f) (range_with_len 0 (length cover)) v.0 v.1 in
      subst (IsPlace cover f) v.2 (record { below = range_member (length cover) v.0 at.0; member = has_member (set_of cover v.0) f at.1; value = refl })

  pub place_at : (var : ℕ) → var < length cover → Contains (set_of cover var) f → Contains (places cover f) (place_in var)
  place_at var below in' =
      member_map place_in (filter (λ var. is_among eqb (set_of cover var) f) (range_with_len 0 (length cover))) var
      (member_filter (λ var. is_among eqb (set_of cover var) f) (range_with_len 0 (length cover)) var (member_range (length cover) var below) (member_has (set_of cover var) f in'))

  pub stands_of : (p : Pair) → Contains (places cover f) p → Stands cover f
  stands_of p in' = let low : in'.0 < length (places cover f) = in'.1 in omega arith

  -- the fact stands in the variables of its places
  pub place_stands : (p : Pair) → Contains (places cover f) p → stands_in cover f p.var ≡ true
  place_stands p in' = member_any (λ q. eqb q.var p.var) (places cover f) p in' (eq-eqb p.var p.var refl)

  pub stands_place : (var : ℕ) → stands_in cover f var ≡ true → (p : Pair) × Contains (places cover f) p × (p.var ≡ var)
  stands_place var is = let p = any_member (λ q. eqb q.var var) (places cover f) is in (p.0, p.1, eqb-true p.0.var var p.2)

  pub stands_below : (var : ℕ) → stands_in cover f var ≡ true → var < length cover
  stands_below var is = let p = stands_place var is in subst (λ v. v < length cover) p.2 (place_is p.0 p.1).below

  pub stands_member : (var : ℕ) → stands_in cover f var ≡ true → Contains (set_of cover var) f
  stands_member var is = let p = stands_place var is in subst (λ v. Contains (set_of cover v) f) p.2 (place_is p.0 p.1).member

  pub member_stands : (var : ℕ) → var < length cover → Contains (set_of cover var) f → stands_in cover f var ≡ true
  member_stands var below in' = place_stands (place_in var) (place_at var below in')

  -- the first place
  abbrev pub first : Pair
  first = get_or (places cover f) 0 (pair 0 0)

  pub first_in : Stands cover f → Contains (places cover f) first
  first_in stands = Contains-get_or (places cover f) 0 (pair 0 0) stands

  pub first_is : Stands cover f → first_place cover f ≡ Some first
  first_is stands = slice_get-get_or (places cover f) 0 (pair 0 0) stands

  module _ (state : State ℕ) where
    pub value_of_true : AreExclusive cover state → (p : Pair) → Contains (places cover f) p → state f ≡ true → value_in cover state p.var ≡ p.val
    value_of_true one p in' is =
        let at = place_is p in' in
        place_of_true (set_of cover p.var) f at.member state (one p.var at.below) is ∙ at.value

    pub true_of_value : (p : Pair) → Contains (places cover f) p → value_in cover state p.var ≡ p.val → state f ≡ true
    true_of_value p in' is =
        let at = place_is p in' in
        true_at_place (set_of cover p.var) f at.member state (is ∙ sym at.value)
