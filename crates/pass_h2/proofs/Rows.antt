-- Marks in rows: one mark more.
use Rattle.std.proofs.Common.{◌≡◌, ℕ, ◌+◌, ◌<◌, ◌≤◌, Bool, true, false, cond, List, [], length, get_or, set, ◌⊎◌, sym, ap, ◌∙◌, subst, inl, inr, arith}
use Rattle.std.specs.List.{sum_by}
use Rattle.std.proofs.lemmas.Bool.{cases_eq, cases_lt}
use Rattle.std.proofs.lemmas.List.{length-set, get_or-set_same, get_or-set_other, get_or_past}
use Rattle.std.proofs.lemmas.List.Sums.{sum_by-set}
use Rattle.pass_h2.specs.Finds.{mark_or, with_place}

-- whether two numbers are these two
pub same_pair : (i j a b : ℕ) → ((a ≡ i) × (b ≡ j)) ⊎ ((a ≡ i) → (b ≡ j) → ⊥)
same_pair i j a b =
    elim (cases_eq a i) [
      | inr differ ↦ inr (λ is-a is-b. differ is-a)
      | inl is-a ↦ elim (cases_eq b j) [
        | inr differ ↦ inr (λ is-a is-b. differ is-b)
        | inl is-b ↦ inl (is-a, is-b)
      ]
    ]

abbrev pub bit : Bool → ℕ
bit mark = cond mark 0 1

-- how many places of the rows have no mark
abbrev pub open_in : List (List Bool) → ℕ
open_in rows = sum_by (λ row. sum_by bit row) rows

-- what isn't as it is where nothing stands has a place
pub has_place : (other : Bool) (rows : List (List Bool)) (h l : ℕ) → (mark_or other rows h l ≡ other → ⊥) → (h < length rows) × (l < length (get_or rows h []))
has_place other rows h l differs =
    elim (cases_lt l (length (get_or rows h []))) [
      | inr past ↦ absurd (differs (get_or_past (get_or rows h []) l other past))
      | inl low ↦ elim (cases_lt h (length rows)) [
        | inl in-rows ↦ (in-rows, low)
        | inr out ↦ absurd (no_row (get_or rows h []) (get_or_past rows h [] out) low)
      ]
    ]
  where
    no_row : (row : List Bool) → row ≡ [] → l < length row → ⊥
    no_row row none low = let below : l < 0 = subst (λ r. l < length r) none low in omega (arith, below)

module _ (rows : List (List Bool)) (h l : ℕ) (in-rows : h < length rows) (in-row : l < length (get_or rows h [])) where
  abbrev row : List Bool
  row = get_or rows h []

  abbrev after : List (List Bool)
  after = with_place rows h l

  own_row : get_or after h [] ≡ set row l true
  own_row = get_or-set_same rows h (set row l true) [] in-rows

  pub marked_here : (other : Bool) → mark_or other after h l ≡ true
  marked_here other = ap (λ r. get_or r l other) own_row ∙ get_or-set_same row l true other in-row

  pub marked_there : (other : Bool) (h' l' : ℕ) → ((h' ≡ h) → (l' ≡ l) → ⊥) → mark_or other after h' l' ≡ mark_or other rows h' l'
  marked_there other h' l' apart =
      elim (cases_eq h' h) [
        | inr differ ↦ ap (λ r. get_or r l' other) (get_or-set_other rows h h' (set row l true) [] differ)
        | inl same ↦
            ap (λ n. mark_or other after n l') same ∙ ap (λ r. get_or r l' other) own_row ∙ get_or-set_other row l l' true other (λ e. apart same e)
            ∙ ap (λ n. mark_or other rows n l') (sym same)
      ]

  pub same_count : length after ≡ length rows
  same_count = length-set rows h (set row l true)

  pub row_lengths : (i : ℕ) → length (get_or after i []) ≡ length (get_or rows i [])
  row_lengths i =
      elim (cases_eq i h) [
        | inr differ ↦ ap length (get_or-set_other rows h i (set row l true) [] differ)
        | inl same ↦ ap (λ n. length (get_or after n [])) same ∙ ap length own_row ∙ length-set row l true ∙ ap (λ n. length (get_or rows n [])) (sym same)
      ]

  -- the places without a mark, before and after
  counted : open_in after + bit (get_or row l true) ≡ open_in rows
  counted =
      let outer = sum_by-set (λ row. sum_by bit row) rows h (set row l true) [] in-rows in
      let inner = sum_by-set bit row l true true in-row in
      omega (arith, outer, inner)

  pub no_more_open : open_in after ≤ open_in rows
  no_more_open = let e = counted in omega (arith, e)

  pub fewer_open : get_or row l true ≡ false → open_in after < open_in rows
  fewer_open is-open =
      let e = counted in
      let one : bit (get_or row l true) ≡ 1 = ap bit is-open in
      omega (arith, e, one)
