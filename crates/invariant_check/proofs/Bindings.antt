-- Places and literals of two rows that are renamed apart, and of a row whose variables are given terms, under bindings.
use Rattle.std.proofs.Common.{◌≡◌, ℕ, suc, zero, ◌+◌, ◌-◌, Bool, true, false, not, ◌&&◌, List, [], ◌∷◌, ◌++◌, map, length, get_or, inl, inr, refl, sym, ap, ◌∙◌, subst, arith}
use Rattle.std.specs.Prelude.{nat_eq, nat_lt, if◌then◌else◌}
use Rattle.std.specs.List.{list_any, list_all, filter}
use Rattle.std.proofs.lemmas.Bool.{true≢false, and_parts, and_from, eqb-true, eq-eqb, ltb-true, ltb-false, lt-ltb}
use Rattle.std.proofs.lemmas.List.{get_or_append_left}
use Rattle.std.proofs.Math.Seq.{get_or-append_right}
use Rattle.lists.proofs.Items.{Among, all_passes, any_passes, passing, map_source, filter_among, flat_map_piece}
use Rattle.normal_task.specs.declared.task.Literal.{Literal}
use Rattle.normal_task.specs.declared.task.Literal.TheVariants.{Holds, Equal}
use Rattle.normal_task.specs.declared.task.Normal.{Normal}
use Rattle.normal_task.specs.declared.task.Place.{Place}
use Rattle.normal_task.specs.declared.task.Place.TheVariants.{Variable, Object}
use Rattle.normal_task.specs.Lawful.{is_place, is_literal, is_predicate, has_arity}
use Rattle.normal_task.specs.Meaning.{atom_of, State, Binding, object_at, objects_at, answers, is_met, are_met, choices}
use Rattle.normal_task.proofs.Chosen.{is_choice}
use Rattle.normal_task.specs.Within.{place_within, literal_within}
use Rattle.normal_task.proofs.Alls.{all-weaker}
use Rattle.contradictions.specs.Contradictory.{objects_of, is_among}
use Rattle.contradictions.specs.GivenTerms.{with_terms, literal_with}
use Rattle.contradictions.proofs.SamePlaces.{get_or_map, same_place, same_places}
use Rattle.invariant_check.specs.Accepted.{is_same_literal, is_listed, fits, terms}

-- ---- lawful literals

pub place-within : (task : Normal) (bound : ℕ) (place : Place) → is_place task bound place ≡ true → place_within bound place ≡ true
place-within task bound (Variable number) is = is
place-within task bound (Object object) is = refl

pub literal-within : (task : Normal) (bound : ℕ) (literal : Literal) → is_literal task bound literal ≡ true → literal_within bound literal ≡ true
literal-within task bound (Holds positive predicate places) is =
    all-weaker (is_place task bound) (place_within bound) (place-within task bound) places (and_parts (is_predicate task (has_arity task (length places)) predicate) (list_all (is_place task bound) places) is).1
literal-within task bound (Equal positive left right) is =
    let parts = and_parts (is_place task bound left) (is_place task bound right) is in
    and_from (place_within bound left) (place_within bound right) (place-within task bound left parts.0) (place-within task bound right parts.1)

-- a greater bound
pub place-more : (bound more : ℕ) (place : Place) → place_within bound place ≡ true → place_within (bound + more) place ≡ true
place-more bound more (Variable number) is = let below = ltb-true number bound is in lt-ltb number (bound + more) (omega (arith, below))
place-more bound more (Object object) is = refl

pub literal-more : (bound more : ℕ) (literal : Literal) → literal_within bound literal ≡ true → literal_within (bound + more) literal ≡ true
literal-more bound more (Holds positive predicate places) is = all-weaker (place_within bound) (place_within (bound + more)) (place-more bound more) places is
literal-more bound more (Equal positive left right) is =
    let parts = and_parts (place_within bound left) (place_within bound right) is in
    and_from (place_within (bound + more) left) (place_within (bound + more) right) (place-more bound more left parts.0) (place-more bound more right parts.1)

-- ---- what stands at places

-- with terms for the row's own variables
place-given : (objects values : Binding) (given : List Place) (place : Place) →
    object_at (objects ++ values) (with_terms (length objects) given place) ≡ object_at (objects ++ map (object_at (objects ++ values)) given) place
place-given objects values given (Object object) = refl
place-given objects values given (Variable number) = by (nat_lt number (length objects)) refl
  where
    by : (b : Bool) → nat_lt number (length objects) ≡ b →
        object_at (objects ++ values) (if b then Variable number else get_or given (number - length objects) (Object 0)) ≡ get_or (objects ++ map (object_at (objects ++ values)) given) number 0
    by true e = let l = ltb-true number (length objects) e in get_or_append_left objects values 0 number l ∙ sym (get_or_append_left objects (map (object_at (objects ++ values)) given) 0 number l)
    by false e =
        let l = ltb-false number (length objects) e in
        get_or_map (object_at (objects ++ values)) given (number - length objects) (Object 0) ∙ sym (get_or-append_right objects (map (object_at (objects ++ values)) given) number 0 l)

pub places-given : (objects values : Binding) (given places : List Place) →
    objects_at (objects ++ values) (map (with_terms (length objects) given) places) ≡ objects_at (objects ++ map (object_at (objects ++ values)) given) places
places-given objects values given [] = refl
places-given objects values given (place ∷ places) =
    let here = place-given objects values given place in
    let rest = places-given objects values given places in
    cc (here, rest)

met-given : (full : State) (objects values : Binding) (given : List Place) (literal : Literal) →
    is_met full (objects ++ values) (literal_with (length objects) given literal) ≡ is_met full (objects ++ map (object_at (objects ++ values)) given) literal
met-given full objects values given (Holds positive predicate places) = ap (λ (os : List ℕ). answers positive (full (atom_of predicate os))) (places-given objects values given places)
met-given full objects values given (Equal positive left right) =
    let one = place-given objects values given left in
    let other = place-given objects values given right in
    ap (λ (n : ℕ). answers positive (nat_eq n (object_at (objects ++ values) (with_terms (length objects) given right)))) one
    ∙ ap (λ (n : ℕ). answers positive (nat_eq (object_at (objects ++ map (object_at (objects ++ values)) given) left) n)) other

pub all-met-given : (full : State) (objects values : Binding) (given : List Place) (literals : List Literal) →
    are_met full (objects ++ values) (map (literal_with (length objects) given) literals) ≡ are_met full (objects ++ map (object_at (objects ++ values)) given) literals
all-met-given full objects values given [] = refl
all-met-given full objects values given (literal ∷ literals) =
    let here = met-given full objects values given literal in
    let rest = all-met-given full objects values given literals in
    cc (here, rest)

-- ---- listed literals

same-sign : (a b : Bool) → (if a then b else not b) ≡ true → a ≡ b
same-sign true true is = refl
same-sign true false is = absurd (true≢false (sym is))
same-sign false true is = absurd (true≢false (sym is))
same-sign false false is = refl

pub same_literal : (a b : Literal) → is_same_literal a b ≡ true → a ≡ b
same_literal (Holds s p xs) (Holds t q ys) is =
    let outer = and_parts ((if s then t else not t) && nat_eq p q) _ is in
    let inner = and_parts (if s then t else not t) (nat_eq p q) outer.0 in
    let signs = same-sign s t inner.0 in
    let predicates = eqb-true p q inner.1 in
    let places = same_places xs ys outer.1 in
    cc (signs, predicates, places)
same_literal (Holds s p xs) (Equal t x y) is = absurd (true≢false (sym is))
same_literal (Equal s x y) (Holds t p xs) is = absurd (true≢false (sym is))
same_literal (Equal s x y) (Equal t z w) is =
    let outer = and_parts ((if s then t else not t) && _) _ is in
    let inner = and_parts (if s then t else not t) _ outer.0 in
    let signs = same-sign s t inner.0 in
    let left = same_place x z inner.1 in
    let right = same_place y w outer.1 in
    cc (signs, left, right)

pub listed-passes : (test : Literal → Bool) (literals : List Literal) → list_all test literals ≡ true → (literal : Literal) → is_listed literals literal ≡ true → test literal ≡ true
listed-passes test literals all literal is =
    let found = passing (is_same_literal literal) literals is in
    subst (λ (l : Literal). test l ≡ true) (sym (same_literal literal found.item found.passes)) (all_passes test found.item literals found.among all)

-- ---- choices

-- each term's object is one that it ranges over
pub choice-typed : (ranges : List (List ℕ)) (binding : Binding) → is_choice ranges binding ≡ true → (term : Place) → is_among (objects_of ranges term) (object_at binding term) ≡ true
choice-typed ranges binding is (Object object) = any_passes (nat_eq object) object (object ∷ []) (inl refl) (eq-eqb object object refl)
choice-typed [] [] is (Variable number) = refl
choice-typed [] (o ∷ binding) is (Variable number) = absurd (true≢false (sym is))
choice-typed (range ∷ ranges) [] is (Variable number) = absurd (true≢false (sym is))
choice-typed (range ∷ ranges) (o ∷ binding) is (Variable zero) = (and_parts (list_any (nat_eq o) range) (is_choice ranges binding) is).0
choice-typed (range ∷ ranges) (o ∷ binding) is (Variable (suc number)) = choice-typed ranges binding (and_parts (list_any (nat_eq o) range) (is_choice ranges binding) is).1 (Variable number)

-- terms that fit give objects of the ranges
pub fittings-choose : (task : Normal) (ranges : List (List ℕ)) (binding : Binding) → is_choice ranges binding ≡ true → (variables : List (List ℕ)) (given : List Place) →
    Among given (choices (map (λ range. filter (fits ranges range) (terms task ranges)) variables)) → is_choice variables (map (object_at binding) given) ≡ true
fittings-choose task ranges binding typed [] given (inl none) = subst (λ (g : List Place). is_choice [] (map (object_at binding) g) ≡ true) none refl
fittings-choose task ranges binding typed [] given (inr never) = absurd never
fittings-choose task ranges binding typed (range ∷ variables) given there =
    let found = flat_map_piece (λ item. map (λ others. item ∷ others) (choices (map (λ range. filter (fits ranges range) (terms task ranges)) variables))) (filter (fits ranges range) (terms task ranges)) given there in
    let rest = map_source (λ (others : List Place). found.source ∷ others) (choices (map (λ range. filter (fits ranges range) (terms task ranges)) variables)) given found.inside in
    let fit = (filter_among (fits ranges range) found.source (terms task ranges) found.among).1 in
    let here = contained range (objects_of ranges found.source) fit (object_at binding found.source) (choice-typed ranges binding typed found.source) in
    let more = fittings-choose task ranges binding typed variables rest.source rest.among in
    subst (λ (g : List Place). is_choice (range ∷ variables) (map (object_at binding) g) ≡ true) rest.gives
    (and_from (list_any (nat_eq (object_at binding found.source)) range) (is_choice variables (map (object_at binding) rest.source)) here more)
  where
    contained : (range objects : List ℕ) → list_all (is_among range) objects ≡ true → (object : ℕ) → is_among objects object ≡ true → is_among range object ≡ true
    contained range objects all object is =
        let found = passing (nat_eq object) objects is in
        subst (λ (n : ℕ). is_among range n ≡ true) (sym (eqb-true object found.item found.passes)) (all_passes (is_among range) found.item objects found.among all)
