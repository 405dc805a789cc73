-- Lists of marks, place by place.
use Rattle.std.proofs.Common.{◌≡◌, ℕ, ◌+◌, ◌<◌, ◌≤◌, Bool, true, false, not, ◌&&◌, List, [], ◌∷◌, map, fold, length, get_or, refl, sym, ap, ◌∙◌, subst, inl, inr, arith}
use Rattle.std.specs.Prelude.{min}
use Rattle.std.specs.List.{Contains, list_all, range_with_len}
use Rattle.std.proofs.lemmas.Bool.{cases_lt, false≢true}
use Rattle.std.proofs.lemmas.List.{get_or_past, get_or_default}
use Rattle.std.proofs.lemmas.List.FromFn.{get_or-map-range_with_len, length-map-range_with_len}
use Rattle.lists.proofs.Members.{member_filter, filter_member, member_range}
use Rattle.pass_h2.specs.MarkLists.{common, without, places}

and_false : (b : Bool) → (b && false) ≡ false
and_false true = refl
and_false false = refl

-- in a list of marks made of two others
module _ (front back : List Bool) (test : Bool → Bool → Bool) (i : ℕ) where
  abbrev made : List Bool
  made = map (λ i. test (get_or front i false) (get_or back i false)) (range_with_len 0 (min (length front) (length back)))

  below : i < min (length front) (length back) → get_or made i false ≡ test (get_or front i false) (get_or back i false)
  below low =
      let e : 0 + i ≡ i = omega arith in
      get_or-map-range_with_len (λ i. test (get_or front i false) (get_or back i false)) 0 (min (length front) (length back)) i i false low e

  past : min (length front) (length back) ≤ i → get_or made i false ≡ false
  past high = get_or_past made i false (subst (λ n. n ≤ i) (sym (length-map-range_with_len (λ i. test (get_or front i false) (get_or back i false)) 0 (min (length front) (length back)))) high)

pub common_at : (front back : List Bool) (i : ℕ) → get_or (common front back) i false ≡ (get_or front i false && get_or back i false)
common_at front back i =
    elim (cases_lt i (min (length front) (length back))) [
      | inl low ↦ below front back (λ a b. a && b) i low
      | inr high ↦ past front back (λ a b. a && b) i high ∙ sym (none high)
    ]
  where
    none : min (length front) (length back) ≤ i → (get_or front i false && get_or back i false) ≡ false
    none high =
        elim (cases_lt i (length front)) [
          | inr out ↦ ap (λ a. a && get_or back i false) (get_or_past front i false out)
          | inl low ↦ ap (λ b. get_or front i false && b) (get_or_past back i false (omega (arith, high, low))) ∙ and_false (get_or front i false)
        ]

pub without_at : (front back : List Bool) (i : ℕ) → get_or (without front back) i false ≡ (get_or front i false && not (get_or back i true))
without_at front back i =
    elim (cases_lt i (length front)) [
      | inr out ↦ past front back (λ a b. a && not b) i (omega (arith, out)) ∙ sym (ap (λ a. a && not (get_or back i true)) (get_or_past front i false out))
      | inl in-front ↦ elim (cases_lt i (length back)) [
        | inr out ↦ past front back (λ a b. a && not b) i (omega (arith, out)) ∙ sym (ap (λ b. get_or front i false && not b) (get_or_past back i true out) ∙ and_false (get_or front i false))
        | inl in-back ↦ below front back (λ a b. a && not b) i (omega (arith, in-front, in-back)) ∙ ap (λ b. get_or front i false && not b) (get_or_default back i false true in-back)
      ]
    ]

-- a place with a mark is among the places
pub marked_place : (marks : List Bool) (i : ℕ) → get_or marks i false ≡ true → Contains (places marks) i
marked_place marks i is =
    elim (cases_lt i (length marks)) [
      | inl low ↦ member_filter (λ i. get_or marks i false) (range_with_len 0 (length marks)) i (member_range (length marks) i low) is
      | inr out ↦ absurd (false≢true (sym (get_or_past marks i false out) ∙ is))
    ]

pub place_marked : (marks : List Bool) (i : ℕ) → Contains (places marks) i → get_or marks i false ≡ true
place_marked marks i in' = (filter_member (λ i. get_or marks i false) (range_with_len 0 (length marks)) i in').1

-- what some lists of marks have in common with another
pub common_of_all : (row : ℕ → List Bool) (js : List ℕ) (start : List Bool) (i : ℕ) → get_or (fold (λ marks j. common marks (row j)) start js) i false ≡ (get_or start i false && list_all (λ j. get_or (row j) i false) js)
common_of_all row [] start i = sym (and_true (get_or start i false))
  where
    and_true : (b : Bool) → (b && true) ≡ b
    and_true true = refl
    and_true false = refl
common_of_all row (j ∷ js) start i =
    common_of_all row js (common start (row j)) i ∙ ap (λ b. b && list_all (λ j. get_or (row j) i false) js) (common_at start (row j) i)
    ∙ and_again (get_or start i false) (get_or (row j) i false) (list_all (λ j. get_or (row j) i false) js)
  where
    and_again : (a b c : Bool) → ((a && b) && c) ≡ (a && (b && c))
    and_again true b c = refl
    and_again false b c = refl
