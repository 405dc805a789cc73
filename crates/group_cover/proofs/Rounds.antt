-- One set more, and what it covers.
use Rattle.std.proofs.Common.{◌≡◌, ℕ, ◌+◌, ◌≤◌, Bool, true, false, not, ◌||◌, List, [], ◌∷◌, ◌++◌, append_assoc, append-nil, cond, map, length, inl, inr, refl, sym, ap, ◌∙◌, subst, arith, nat_eq}
use Rattle.std.specs.List.{list_any, filter, range_with_len}
use Rattle.std.specs.Cmp.{nat_eq_equiv}
use Rattle.std.proofs.Math.Bool.{or-false}
use Rattle.std.proofs.lemmas.List.{map-append}
use Rattle.std.proofs.lemmas.List.Elements.{filter-append}
use Rattle.lists.proofs.LoopSteps.{range_next}
use Rattle.lists.proofs.Members.{filter_every, filter_none}
use Rattle.std.proofs.lemmas.Bool.{true≢false, cases_Bool, or_left, or_right, not_from_true}
use Rattle.lists.proofs.Items.{Among, among_contains, among_filter, any_append, any_passes, filter_yes, filter_no}
use Rattle.group_cover.specs.Cover.{is_covered, uncovered, part_of, count, single, IsBest, IsPart, AreParts}

-- the facts of one set more are covered too
pub covered-more : (sets : List (List ℕ)) (set : List ℕ) (fact : ℕ) → is_covered (sets ++ set ∷ []) fact ≡ (is_covered sets fact || list_any (nat_eq fact) set)
covered-more sets set fact = any_append (list_any (nat_eq fact)) sets (set ∷ []) ∙ ap (λ b. is_covered sets fact || b) (or-false (list_any (nat_eq fact) set))

-- a stronger test keeps at most as many
keeps-fewer : (test other : ℕ → Bool) (xs : List ℕ) → ((x : ℕ) → test x ≡ true → other x ≡ true) → length (filter test xs) ≤ length (filter other xs)
keeps-fewer test other [] stronger = omega arith
keeps-fewer test other (x ∷ xs) stronger = by (test x) (other x) (stronger x) (keeps-fewer test other xs stronger)
  where
    by : (b c : Bool) → (b ≡ true → c ≡ true) → length (filter test xs) ≤ length (filter other xs) → length (cond b (x ∷ filter test xs) (filter test xs)) ≤ length (cond c (x ∷ filter other xs) (filter other xs))
    by true true both rest = omega (arith, rest)
    by true false both rest = absurd (true≢false (sym (both refl)))
    by false true both rest = omega (arith, rest)
    by false false both rest = rest

pub count-falls : (sets : List (List ℕ)) (set group : List ℕ) → count (sets ++ set ∷ []) group ≤ count sets group
count-falls sets set group = keeps-fewer (λ fact. not (is_covered (sets ++ set ∷ []) fact)) (λ fact. not (is_covered sets fact)) group still
  where
    open_before : (before more : Bool) → not (before || more) ≡ true → not before ≡ true
    open_before false more is = refl
    open_before true more is = is

    still : (fact : ℕ) → not (is_covered (sets ++ set ∷ []) fact) ≡ true → not (is_covered sets fact) ≡ true
    still fact is = open_before (is_covered sets fact) (list_any (nat_eq fact) set) (sym (ap not (covered-more sets set fact)) ∙ is)

pub all-open : (group : List ℕ) → count [] group ≡ length group
all-open group = ap (λ (l : List ℕ). length l) (filter_every (λ fact. not (is_covered [] fact)) group (λ fact in'. refl))

pub at-most-all : (sets : List (List ℕ)) (group : List ℕ) → count sets group ≤ length group
at-most-all sets group =
    let fewer = keeps-fewer (λ fact. not (is_covered sets fact)) (λ fact. not (is_covered [] fact)) group (λ fact is. refl) in
    let all = all-open group in
    omega (arith, fewer, all)

-- what is open of a group is in its set
open-in-part : (full : Bool) (sets : List (List ℕ)) (group : List ℕ) (fact : ℕ) → Among fact group → is_covered sets fact ≡ false → Among fact (part_of full sets group)
open-in-part true sets group fact there isnt = there
open-in-part false sets group fact there isnt = among_filter (λ fact. not (is_covered sets fact)) fact group there (ap not isnt)

-- a group whose set is added has no uncovered fact
pub part-closes : (full : Bool) (sets : List (List ℕ)) (group : List ℕ) → count (sets ++ part_of full sets group ∷ []) group ≡ 0
part-closes full sets group = ap (λ (l : List ℕ). length l) (filter_none (λ fact. not (is_covered (sets ++ part_of full sets group ∷ []) fact)) group (λ fact in'. closed fact (among_contains group fact in')))
  where
    closed : (fact : ℕ) → Among fact group → not (is_covered (sets ++ part_of full sets group ∷ []) fact) ≡ false
    closed fact there = elim (cases_Bool (is_covered sets fact)) [
      | inl is ↦ not_from_true _ (covered-more sets (part_of full sets group) fact ∙ or_left (is_covered sets fact) (list_any (nat_eq fact) (part_of full sets group)) is)
      | inr isnt ↦
          let added = open-in-part full sets group fact there isnt in
          not_from_true _ (covered-more sets (part_of full sets group) fact ∙ or_right (is_covered sets fact) (list_any (nat_eq fact) (part_of full sets group)) (any_passes (nat_eq fact) fact (part_of full sets group) added (nat_eq_equiv.refl fact)))
    ]

-- ---- sets in turn

parts-more : (full : Bool) (groups before sets : List (List ℕ)) (set : List ℕ) → AreParts full groups before sets → IsPart full groups (before ++ sets) set → AreParts full groups before (sets ++ set ∷ [])
parts-more full groups before [] set parts part = (subst (λ s. IsPart full groups s set) (append-nil before) part, tt)
parts-more full groups before (first ∷ sets) set parts part =
    (parts.0, parts-more full groups (before ++ first ∷ []) sets set parts.1 (subst (λ s. IsPart full groups s set) (sym (append_assoc before (first ∷ []) sets)) part))

pub round-goes : (full : Bool) (groups sets : List (List ℕ)) (group set : List ℕ) (after : List (List ℕ)) → AreParts full groups [] sets → IsBest groups sets group → set ≡ part_of full sets group → after ≡ sets ++ set ∷ [] → AreParts full groups [] after
round-goes full groups sets group set after parts best part made =
    subst (AreParts full groups []) (sym made) (parts-more full groups [] sets set parts (record { group = group; best = best; part = part }))

-- ---- a set for each fact that is left

module _ (sets : List (List ℕ)) (fact : ℕ) where
  next : uncovered sets (range_with_len 0 (fact + 1)) ≡ uncovered sets (range_with_len 0 fact) ++ uncovered sets (fact ∷ [])
  next =
      let e : 0 + fact ≡ fact = omega arith in
      ap (uncovered sets) (range_next 0 fact ∙ ap (λ (n : ℕ). range_with_len 0 fact ++ n ∷ []) e) ∙ filter-append (λ f. not (is_covered sets f)) (range_with_len 0 fact) (fact ∷ [])

  pub single-taken : (before after : List (List ℕ)) → before ≡ map single (uncovered sets (range_with_len 0 fact)) → is_covered sets fact ≡ false → after ≡ before ++ single fact ∷ [] →
      after ≡ map single (uncovered sets (range_with_len 0 (fact + 1)))
  single-taken before after held isnt made =
      made ∙ ap (λ b. b ++ single fact ∷ []) held ∙ sym (map-append single (uncovered sets (range_with_len 0 fact)) (fact ∷ []))
      ∙ ap (map single) (ap (λ (l : List ℕ). uncovered sets (range_with_len 0 fact) ++ l) (sym (filter_yes (λ f. not (is_covered sets f)) fact [] (ap not isnt))) ∙ sym next)

  pub single-left : (before : List (List ℕ)) → before ≡ map single (uncovered sets (range_with_len 0 fact)) → is_covered sets fact ≡ true → before ≡ map single (uncovered sets (range_with_len 0 (fact + 1)))
  single-left before held is =
      held ∙ ap (map single) (sym (append-nil (uncovered sets (range_with_len 0 fact))) ∙ ap (λ (l : List ℕ). uncovered sets (range_with_len 0 fact) ++ l) (sym (filter_no (λ f. not (is_covered sets f)) fact [] (ap not is))) ∙ sym next)
