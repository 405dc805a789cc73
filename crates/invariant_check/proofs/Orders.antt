-- The orders of positions are what the iterator over permutations gives, and a part is put in by its place.
use Rattle.std.proofs.Common.{◌≡◌, ℕ, zero, suc, ◌+◌, ◌-◌, ◌<◌, ◌≤◌, Bool, true, false, not, cond, ltb, List, [], ◌∷◌, ◌++◌, map, length, get_or, refl, sym, ap, ◌∙◌, subst, arith, append_assoc, length-append, inl, inr, Global}
use Rattle.std.specs.Vec.{vec_len}
use Rattle.std.specs.Prelude.{nat_eq, nat_lt, Option, Some, None, if◌then◌else◌}
use Rattle.std.specs.Option.{unwrap_or}
use Rattle.std.specs.List.{IsDistinct, AllByRecursion, flat_map, position, position_or_len, remove, insert}
use Rattle.std.proofs.lemmas.Bool.{ltb-false, false_from_ne_true, eqb-true, eq-eqb}
use Rattle.std.specs.Cmp.{nat_eq_equiv}
use Rattle.std.proofs.lemmas.Grind.{get_or_default_zero}
use Rattle.std.proofs.lemmas.List.{map-append}
use Rattle.std.proofs.lemmas.List.Edits.{length-remove}
use Rattle.std.proofs.lemmas.List.Elements.{All-from_recursion}
use Rattle.std.proofs.lemmas.List.Sums.{prefix_len-le-length}
use Rattle.std.proofs.lemmas.Simd.{map-map}
use Rattle.lists.proofs.Items.{Among, map_flat_map}
use Rattle.lists.proofs.NoRepeats.{Once}
use Rattle.itertools.specs.Odometer.{ways, numbers}
use Rattle.itertools.specs.declared.combinations.Permutations.{Permutations}
use Rattle.itertools.specs.Pool.{unranked, permutation_left, ClonesAt}
use Rattle.contradictions.specs.declared.types.Part.{Part}
use Rattle.invariant_check.specs.Extensions.{left_by, without, orders, part_at, put_in}
use Rattle.invariant_check.proofs.PartsOf.{once_left}
use Rattle.std.proofs.Math.Seq.{get_or-append_seam}

-- ---- the first place that passes

pub or_len : {X : Type 0} (test : X → Bool) (xs : List X) → unwrap_or (position test xs) (length xs) ≡ position_or_len test xs
or_len test xs = by (ltb (position_or_len test xs) (length xs)) refl
  where
    by : (b : Bool) → ltb (position_or_len test xs) (length xs) ≡ b → unwrap_or (cond b (Some (position_or_len test xs)) None) (length xs) ≡ position_or_len test xs
    by true is = refl
    by false is = omega (arith, ltb-false (position_or_len test xs) (length xs) is, prefix_len-le-length (λ x. not (test x)) xs)

-- ---- a part put in

pub put_in-is : (part : Part) (others : List Part) → put_in part others ≡ insert others (position_or_len (λ other. nat_lt part.predicate other.predicate) others) part
put_in-is part [] = refl
put_in-is part (other ∷ others) = by (nat_lt part.predicate other.predicate) (position_or_len (λ other. nat_lt part.predicate other.predicate) others) (put_in-is part others)
  where
    by : (b : Bool) (k : ℕ) → put_in part others ≡ insert others k part → (if b then part ∷ other ∷ others else other ∷ put_in part others) ≡ insert (other ∷ others) (cond (not b) (1 + k) 0) part
    by true k is = refl
    by false k is = ap (λ l. other ∷ l) is ∙ (let e : suc k ≡ 1 + k = omega arith in ap (λ n. insert (other ∷ others) n part) e)

-- ---- lists taken apart at an item

remove-at : (before : List ℕ) (x : ℕ) (rest : List ℕ) → remove (before ++ x ∷ rest) (length before) ≡ before ++ rest
remove-at [] x rest = refl
remove-at (y ∷ before) x rest = ap (λ l. y ∷ l) (remove-at before x rest)

-- ---- what holds of each item

module _ {X : Type 0} (P : X → Type 0) where
  each-append : (xs ys : List X) → AllByRecursion P xs → AllByRecursion P ys → AllByRecursion P (xs ++ ys)
  each-append [] ys each more = more
  each-append (x ∷ xs) ys each more = (each.0, each-append xs ys each.1 more)

  each-remove : (xs : List X) (d : ℕ) → AllByRecursion P xs → AllByRecursion P (remove xs d)
  each-remove [] zero each = each
  each-remove [] (suc d) each = each
  each-remove (x ∷ xs) zero each = each.1
  each-remove (x ∷ xs) (suc d) each = (each.0, each-remove xs d each.1)

each-map : {X Y : Type 0} (P : Y → Type 0) (f : X → Y) (xs : List X) → AllByRecursion (λ x. P (f x)) xs → AllByRecursion P (map f xs)
each-map P f [] each = tt
each-map P f (x ∷ xs) each = (each.0, each-map P f xs each.1)

each-beside : {X : Type 0} (A : Type 0) (P : X → Type 0) (xs : List X) → A → AllByRecursion P xs → AllByRecursion (λ x. A × P x) xs
each-beside A P [] a each = tt
each-beside A P (x ∷ xs) a each = ((a, each.0), each-beside A P xs a each.1)

each-flat : {X : Type 0} (P : X → Type 0) (F : ℕ → List X) (from count bound : ℕ) → from + count ≤ bound → ((d : ℕ) → d < bound → AllByRecursion P (F d)) → AllByRecursion P (flat_map F (numbers from count))
each-flat P F from zero bound within each = tt
each-flat P F from (suc count) bound within each =
    each-append P (F from) (flat_map F (numbers (from + 1) count)) (each from (omega (arith, within))) (each-flat P F (from + 1) count bound (omega (arith, within)) each)

-- ---- positions that are apart

-- none of them is x
abbrev Lacks : ℕ → List ℕ → Type 0
Lacks x ys = AllByRecursion (λ y. nat_eq x y ≡ false) ys

-- no two of them are the same
abbrev pub Apart : List ℕ → Type 0
Apart [] = Unit {0}
Apart (x ∷ xs) = Lacks x xs × Apart xs

pub apart-from_distinct : (xs : List ℕ) → IsDistinct nat_eq xs → Apart xs
unfolding IsDistinct
apart-from_distinct [] distinct = tt
apart-from_distinct (x ∷ xs) distinct = (distinct.0, apart-from_distinct xs distinct.1)

pub distinct-from_apart : (xs : List ℕ) → Apart xs → IsDistinct nat_eq xs
unfolding IsDistinct
distinct-from_apart [] apart = tt
distinct-from_apart (x ∷ xs) apart = (apart.0, distinct-from_apart xs apart.1)

without-none : (x : ℕ) (ys : List ℕ) → Lacks x ys → without x ys ≡ ys
without-none x [] none = refl
without-none x (y ∷ ys) none =
    ap (λ b. if not b then y ∷ without x ys else without x ys) (nat_eq_equiv.symm y x ∙ none.0) ∙ ap (λ l. y ∷ l) (without-none x ys none.1)

lacks-at : (y : ℕ) (before : List ℕ) (x : ℕ) (rest : List ℕ) → Lacks y (before ++ x ∷ rest) → nat_eq y x ≡ false
lacks-at y [] x rest none = none.0
lacks-at y (z ∷ before) x rest none = lacks-at y before x rest none.1

without-at : (before : List ℕ) (x : ℕ) (rest : List ℕ) → Apart (before ++ x ∷ rest) → without x (before ++ x ∷ rest) ≡ before ++ rest
without-at [] x rest apart =
    ap (λ b. if not b then x ∷ without x rest else without x rest) (eq-eqb x x refl) ∙ without-none x rest apart.0
without-at (y ∷ before) x rest apart =
    ap (λ b. if not b then y ∷ without x (before ++ x ∷ rest) else without x (before ++ x ∷ rest)) (lacks-at y before x rest apart.0)
    ∙ ap (λ l. y ∷ l) (without-at before x rest apart.1)

-- ---- orders by the places of a pool

abbrev pub low : List ℕ → ℕ
low chosen = 0

abbrev pub high : ℕ → List ℕ → ℕ
high count chosen = count - length chosen

module _ (at : ℕ → ℕ) where
  apart-remove : (free : List ℕ) (d : ℕ) → Apart (map at free) → Apart (map at (remove free d))
  apart-remove [] zero apart = tt
  apart-remove [] (suc d) apart = tt
  apart-remove (x ∷ free) zero apart = apart.1
  apart-remove (x ∷ free) (suc d) apart = (lacks free d apart.0, apart-remove free d apart.1)
    where
      lacks : (free : List ℕ) (d : ℕ) → Lacks (at x) (map at free) → Lacks (at x) (map at (remove free d))
      lacks [] zero none = tt
      lacks [] (suc d) none = tt
      lacks (y ∷ free) zero none = none.1
      lacks (y ∷ free) (suc d) none = (none.0, lacks free d none.1)

  -- what is done at each place that is left is done for each item there
  by_place : (F : ℕ → List (List ℕ)) (H : ℕ → List ℕ → List (List ℕ)) (free before rest : List ℕ) → before ++ rest ≡ free → Apart (map at free) →
      ((d : ℕ) → d < length free → F d ≡ H (at (get_or free d 0)) (map at (remove free d))) →
      flat_map F (numbers (length before) (length rest)) ≡ flat_map (λ y. H y (without y (map at free))) (map at rest)
  by_place F H free before [] whole apart same = refl
  by_place F H free before (x ∷ rest) whole apart same =
      let within : length before < length free = omega (arith, length-append before (x ∷ rest), ap length whole) in
      let split : map at (before ++ x ∷ rest) ≡ map at before ++ at x ∷ map at rest = map-append at before (x ∷ rest) in
      let left : map at (remove free (length before)) ≡ without (at x) (map at free) =
      ap (λ l. map at (remove l (length before))) (sym whole)
      ∙ ap (map at) (remove-at before x rest)
      ∙ map-append at before rest
      ∙ sym (without-at (map at before) (at x) (map at rest) (subst Apart (ap (map at) (sym whole) ∙ split) apart))
      ∙ ap (without (at x)) (sym split ∙ ap (map at) whole) in
      let here : at (get_or free (length before) 0) ≡ at x = ap (λ l. at (get_or l (length before) 0)) (sym whole) ∙ ap at (get_or-append_seam before x rest 0) in
      let first : F (length before) ≡ H (at x) (without (at x) (map at free)) =
      same (length before) within ∙ ap (λ y. H y (map at (remove free (length before)))) here ∙ ap (H (at x)) left in
      let more : length before + 1 ≡ length (before ++ x ∷ []) = omega (arith, length-append before (x ∷ [])) in
      ap (λ l. l ++ flat_map F (numbers (length before + 1) (length rest))) first
      ∙ ap (λ n. H (at x) (without (at x) (map at free)) ++ flat_map F (numbers n (length rest))) more
      ∙ ap (λ l. H (at x) (without (at x) (map at free)) ++ l) (by_place F H free (before ++ x ∷ []) rest (append_assoc before (x ∷ []) rest ∙ whole) apart same)

  in_order : (count m : ℕ) (free chosen : List ℕ) → Apart (map at free) → length free ≡ count - length chosen →
      map (λ ds. map at (unranked free ds)) (ways low (high count) m chosen) ≡ orders (map at free) m
  in_order count zero free chosen apart size = refl
  in_order count (suc m) free chosen apart size =
      let next = λ (d : ℕ). ways low (high count) m (chosen ++ d ∷ []) in
      let f = λ (ds : List ℕ). map at (unranked free ds) in
      let many : count - length chosen - 0 ≡ length free = omega (arith, size) in
      ap (λ k. map f (flat_map (λ d. map (λ ds. d ∷ ds) (next d)) (numbers 0 k))) many
      ∙ map_flat_map f (λ d. map (λ ds. d ∷ ds) (next d)) (numbers 0 (length free))
      ∙ by_place (λ d. map f (map (λ ds. d ∷ ds) (next d))) (λ y others. map (λ ds. y ∷ ds) (orders others m)) free [] free refl apart (λ d below.
      let fewer : length (remove free d) ≡ count - length (chosen ++ d ∷ []) = omega (arith, length-remove free d below, length-append chosen (d ∷ []), size) in
      map-map f (λ ds. d ∷ ds) (next d)
      ∙ sym (map-map (λ ds. at (get_or free d 0) ∷ ds) (λ ds. map at (unranked (remove free d) ds)) (next d))
      ∙ ap (map (λ ds. at (get_or free d 0) ∷ ds)) (in_order count m (remove free d) (chosen ++ d ∷ []) (apart-remove free d apart) fewer))

-- what stands at the chosen places
abbrev pub read : List ℕ → List ℕ → List ℕ
read positions ds = map (λ d. get_or positions d 0) (unranked (numbers 0 (length positions)) ds)

at_all : (before rest : List ℕ) → map (λ d. get_or (before ++ rest) d 0) (numbers (length before) (length rest)) ≡ rest
at_all before [] = refl
at_all before (x ∷ rest) =
    let more : length before + 1 ≡ length (before ++ x ∷ []) = omega (arith, length-append before (x ∷ [])) in
    ap (λ y. y ∷ map (λ d. get_or (before ++ x ∷ rest) d 0) (numbers (length before + 1) (length rest))) (get_or-append_seam before x rest 0)
    ∙ ap (λ n. x ∷ map (λ d. get_or (before ++ x ∷ rest) d 0) (numbers n (length rest))) more
    ∙ ap (λ l. x ∷ map (λ d. get_or l d 0) (numbers (length (before ++ x ∷ [])) (length rest))) (sym (append_assoc before (x ∷ []) rest))
    ∙ ap (λ l. x ∷ l) (at_all (before ++ x ∷ []) rest)

length-numbers : (a n : ℕ) → length (numbers a n) ≡ n
length-numbers a zero = refl
length-numbers a (suc n) = let rest = length-numbers (a + 1) n in omega (arith, rest)

pub all_orders : (positions : List ℕ) (m : ℕ) → Apart positions → map (read positions) (ways low (high (length positions)) m []) ≡ orders positions m
all_orders positions m apart =
    let all = at_all [] positions in
    in_order (λ d. get_or positions d 0) (length positions) m (numbers 0 (length positions)) [] (subst Apart (sym all) apart) (omega (arith, length-numbers 0 (length positions)))
    ∙ ap (λ l. orders l m) all

-- ---- chosen places stand in the pool

abbrev pub Within : ℕ → List ℕ → Type 0
Within count places = AllByRecursion (λ place. place < count) places

inside : (count m : ℕ) (free chosen : List ℕ) → Within count free → length free ≡ count - length chosen →
    AllByRecursion (λ ds. Within count (unranked free ds)) (ways low (high count) m chosen)
inside count zero free chosen within size = (tt, tt)
inside count (suc m) free chosen within size =
    let next = λ (d : ℕ). ways low (high count) m (chosen ++ d ∷ []) in
    each-flat (λ ds. Within count (unranked free ds)) (λ d. map (λ ds. d ∷ ds) (next d)) 0 (count - length chosen - 0) (length free) (omega (arith, size)) (λ d below.
    let fewer : length (remove free d) ≡ count - length (chosen ++ d ∷ []) = omega (arith, length-remove free d below, length-append chosen (d ∷ []), size) in
    each-map (λ ds. Within count (unranked free ds)) (λ ds. d ∷ ds) (next d)
    (each-beside (get_or free d 0 < count) (λ ds. Within count (unranked (remove free d) ds)) (next d) (All-from_recursion (λ place. place < count) free within d 0 below)
    (inside count m (remove free d) (chosen ++ d ∷ []) (each-remove (λ place. place < count) free d within) fewer)))

numbers-within : (a n count : ℕ) → a + n ≤ count → Within count (numbers a n)
numbers-within a zero count fit = tt
numbers-within a (suc n) count fit = (omega (arith, fit), numbers-within (a + 1) n count (omega (arith, fit)))

-- each list of choices reads the pool inside
abbrev pub AllInside : ℕ → List (List ℕ) → Type 0
AllInside count left = AllByRecursion (λ ds. Within count (unranked (numbers 0 count) ds)) left

pub all_inside : (count m : ℕ) → AllInside count (ways low (high count) m [])
all_inside count m = inside count m (numbers 0 count) [] (numbers-within 0 count count (omega arith)) (omega (arith, length-numbers 0 count))

-- clones of what stands at places in the pool
pub clones-are : (pool places items : List ℕ) → Within (length pool) places → ClonesAt (λ x y. y ≡ x) pool places items → items ≡ map (λ d. get_or pool d 0) places
clones-are pool [] [] within clones = refl
clones-are pool [] (item ∷ items) within clones = absurd clones
clones-are pool (place ∷ places) [] within clones = absurd clones
clones-are pool (place ∷ places) (item ∷ items) within clones =
    ap (λ x. x ∷ items) (clones.0 ∙ get_or_default_zero pool place item within.0) ∙ ap (λ l. get_or pool place 0 ∷ l) (clones-are pool places items within.1 clones.1)

-- ---- the positions left to parameters are apart

apart-from_once : (xs : List ℕ) → Once xs → Apart xs
apart-from_once [] once = tt
apart-from_once (x ∷ xs) once = (lacks xs once.0, apart-from_once xs once.1)
  where
    lacks : (ys : List ℕ) → (Among x ys → ⊥) → Lacks x ys
    lacks [] none = tt
    lacks (y ∷ ys) none = (false_from_ne_true (nat_eq x y) (λ is. none (inl (sym (eqb-true x y is)))), lacks ys (λ there. none (inr there)))

pub left_by-distinct : (arity : ℕ) (counted : Option ℕ) → IsDistinct nat_eq (left_by arity counted)
left_by-distinct arity counted = distinct-from_apart (left_by arity counted) (apart-from_once (left_by arity counted) (once_left arity counted))

-- ---- one more order

pub one_more : {X : Type 0} (f : List ℕ → X) (before after start : List X) (left later : List (List ℕ)) (way : List ℕ) (item : X) →
    after ≡ before ++ item ∷ [] → left ≡ way ∷ later → item ≡ f way → before ++ map f left ≡ start → after ++ map f later ≡ start
one_more f before after start left later way item pushed next is whole =
    ap (λ l. l ++ map f later) pushed
    ∙ append_assoc before (item ∷ []) (map f later)
    ∙ ap (λ x. before ++ x ∷ map f later) is
    ∙ ap (λ l. before ++ map f l) (sym next)
    ∙ whole

-- the choices of an iterator over permutations that has not begun
pub left_at_start : (it : Permutations ℕ Global) (k : ℕ) → permutation_left it ≡ ways (λ _. 0) (λ chosen. vec_len it.pool - length chosen) k [] →
    permutation_left it ≡ ways low (high (length it.pool.items)) k []
left_at_start it k begun = begun ∙ ap (λ n. ways low (high n) k []) it.pool.ok.0

-- all parts that come of it
pub all_parts : (predicate : ℕ) (counted : Option ℕ) (pool positions : List ℕ) (k : ℕ) → pool ≡ positions → IsDistinct nat_eq positions →
    map (λ ds. part_at predicate counted (read pool ds)) (ways low (high (length pool)) k []) ≡ map (part_at predicate counted) (orders positions k)
all_parts predicate counted pool positions k same distinct =
    sym (map-map (part_at predicate counted) (read pool) (ways low (high (length pool)) k []))
    ∙ ap (map (part_at predicate counted)) (all_orders pool k (subst Apart (sym same) (apart-from_distinct positions distinct)) ∙ ap (λ l. orders l k) same)
