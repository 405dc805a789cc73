-- Lists with one object of each list.
use Rattle.std.proofs.Common.{◌≡◌, ℕ, Bool, true, false, ◌&&◌, ◌||◌, List, [], ◌∷◌, ◌++◌, map, length, take, refl, sym, ap, ◌∙◌}
use Rattle.std.specs.Prelude.{nat_eq}
use Rattle.std.specs.List.{list_any}
use Rattle.std.specs.Cmp.Lexicographic.{pointwise}
use Rattle.std.specs.Cmp.{nat_eq_equiv}
use Rattle.std.proofs.lemmas.Bool.{eqb-true}
use Rattle.std.proofs.Math.Bool.{or-false, and_assoc}
use Rattle.normal_task.specs.Meaning.{choices}
use Rattle.normal_task.proofs.Anys.{any-map, any-flat_map, any-same, any-none, any-and_left}

-- the objects are one of each list
abbrev pub is_choice : List (List ℕ) → List ℕ → Bool
is_choice [] [] = true
is_choice [] (object ∷ others) = false
is_choice (range ∷ more) [] = false
is_choice (range ∷ more) (object ∷ others) = list_any (nat_eq object) range && is_choice more others

pub any-choices_cons : (test : List ℕ → Bool) (range : List ℕ) (more : List (List ℕ)) →
    list_any test (choices (range ∷ more)) ≡ list_any (λ object. list_any (λ others. test (object ∷ others)) (choices more)) range
any-choices_cons test range more =
    any-flat_map test (λ object. map (λ others. object ∷ others) (choices more)) range
    ∙ any-same (λ object. list_any test (map (λ others. object ∷ others) (choices more))) (λ object. list_any (λ others. test (object ∷ others)) (choices more))
    (λ object. any-map test (λ (others : List ℕ). object ∷ others) (choices more)) range

-- a choice of two lists of lists is a choice of each
pub any-choices_append : (test : List ℕ → Bool) (xs ys : List (List ℕ)) →
    list_any test (choices (xs ++ ys)) ≡ list_any (λ os. list_any (λ ps. test (os ++ ps)) (choices ys)) (choices xs)
any-choices_append test [] ys = sym (or-false (list_any test (choices ys)))
any-choices_append test (x ∷ xs) ys =
    any-choices_cons test x (xs ++ ys)
    ∙ any-same (λ object. list_any (λ others. test (object ∷ others)) (choices (xs ++ ys)))
    (λ object. list_any (λ os. list_any (λ ps. test ((object ∷ os) ++ ps)) (choices ys)) (choices xs))
    (λ object. any-choices_append (λ others. test (object ∷ others)) xs ys) x
    ∙ sym (any-choices_cons (λ os. list_any (λ ps. test (os ++ ps)) (choices ys)) x xs)

pub eq-itself : (n : ℕ) → nat_eq n n ≡ true
eq-itself n = nat_eq_equiv.refl n

swap_eq : (a b : ℕ) → nat_eq a b ≡ true → nat_eq b a ≡ true
swap_eq a b e = ap (λ x. nat_eq b x) (eqb-true a b e) ∙ eq-itself b

-- the items that are the one asked for
any-equal : (p : ℕ) (g : ℕ → Bool) (range : List ℕ) → list_any (λ x. nat_eq x p && g x) range ≡ (list_any (nat_eq p) range && g p)
any-equal p g [] = refl
any-equal p g (x ∷ range) = by (nat_eq x p) (nat_eq p x) refl refl (any-equal p g range)
  where
    distributed : (b c d : Bool) → ((b && d) || (c && d)) ≡ ((b || c) && d)
    distributed true true true = refl
    distributed true true false = refl
    distributed true false true = refl
    distributed true false false = refl
    distributed false c d = refl

    by : (a b : Bool) → nat_eq x p ≡ a → nat_eq p x ≡ b → list_any (λ x. nat_eq x p && g x) range ≡ (list_any (nat_eq p) range && g p) →
        ((nat_eq x p && g x) || list_any (λ x. nat_eq x p && g x) range) ≡ ((nat_eq p x || list_any (nat_eq p) range) && g p)
    by true true e f rest =
        let here : g x ≡ g p = ap g (eqb-true x p e) in
        cc (e, f, rest, here, distributed true (list_any (nat_eq p) range) (g p))
    by true false e f rest = let back = swap_eq x p e in absurd cc
    by false true e f rest = let back = swap_eq p x f in absurd cc
    by false false e f rest = cc (e, f, rest)

-- a choice whose first objects are given
pub any-choices_shown : (test : List ℕ → Bool) (xs ys : List (List ℕ)) (given : List ℕ) →
    list_any (λ objects. pointwise nat_eq (take (length xs) objects) given && test objects) (choices (xs ++ ys))
    ≡ (is_choice xs given && list_any (λ ps. test (given ++ ps)) (choices ys))
any-choices_shown test [] ys [] = any-same (λ objects. pointwise nat_eq (take 0 objects) [] && test objects) test (λ objects. at_nothing objects) (choices ys)
  where
    at_nothing : (objects : List ℕ) → (pointwise nat_eq (take 0 objects) [] && test objects) ≡ test objects
    at_nothing [] = refl
    at_nothing (o ∷ objects) = refl
any-choices_shown test [] ys (g ∷ given) = any-same (λ objects. pointwise nat_eq (take 0 objects) (g ∷ given) && test objects) (λ objects. false) (λ objects. at_nothing objects) (choices ys) ∙ any-none (choices ys)
  where
    at_nothing : (objects : List ℕ) → (pointwise nat_eq (take 0 objects) (g ∷ given) && test objects) ≡ false
    at_nothing [] = refl
    at_nothing (o ∷ objects) = refl
any-choices_shown test (x ∷ xs) ys [] =
    any-choices_cons (λ objects. pointwise nat_eq (take (length (x ∷ xs)) objects) [] && test objects) x (xs ++ ys)
    ∙ any-same (λ object. list_any (λ others. pointwise nat_eq (take (length (x ∷ xs)) (object ∷ others)) [] && test (object ∷ others)) (choices (xs ++ ys))) (λ object. false) (λ object. any-none (choices (xs ++ ys))) x
    ∙ any-none x
any-choices_shown test (x ∷ xs) ys (g ∷ given) =
    any-choices_cons (λ objects. pointwise nat_eq (take (length (x ∷ xs)) objects) (g ∷ given) && test objects) x (xs ++ ys)
    ∙ any-same (λ object. list_any (λ others. pointwise nat_eq (take (length (x ∷ xs)) (object ∷ others)) (g ∷ given) && test (object ∷ others)) (choices (xs ++ ys)))
    (λ object. nat_eq object g && (is_choice xs given && list_any (λ ps. test (object ∷ (given ++ ps))) (choices ys))) (λ object. one object (any-choices_shown (λ others. test (object ∷ others)) xs ys given)) x
    ∙ any-equal g (λ object. is_choice xs given && list_any (λ ps. test (object ∷ (given ++ ps))) (choices ys)) x
    ∙ sym (and_assoc (list_any (nat_eq g) x) (is_choice xs given) (list_any (λ ps. test (g ∷ (given ++ ps))) (choices ys)))
  where
    one : (object : ℕ) → list_any (λ others. pointwise nat_eq (take (length xs) others) given && test (object ∷ others)) (choices (xs ++ ys)) ≡ (is_choice xs given && list_any (λ ps. test (object ∷ (given ++ ps))) (choices ys)) → list_any (λ others. pointwise nat_eq (take (length (x ∷ xs)) (object ∷ others)) (g ∷ given) && test (object ∷ others)) (choices (xs ++ ys))
        ≡ (nat_eq object g && (is_choice xs given && list_any (λ ps. test (object ∷ (given ++ ps))) (choices ys)))
    one object rest =
        any-same (λ others. pointwise nat_eq (take (length (x ∷ xs)) (object ∷ others)) (g ∷ given) && test (object ∷ others))
        (λ others. nat_eq object g && (pointwise nat_eq (take (length xs) others) given && test (object ∷ others)))
        (λ others. and_assoc (nat_eq object g) (pointwise nat_eq (take (length xs) others) given) (test (object ∷ others))) (choices (xs ++ ys))
        ∙ any-and_left (nat_eq object g) (λ others. pointwise nat_eq (take (length xs) others) given && test (object ∷ others)) (choices (xs ++ ys))
        ∙ ap (λ b. nat_eq object g && b) rest

-- being a choice is being one of the choices
pub choice-any : (lists : List (List ℕ)) (objects : List ℕ) → is_choice lists objects ≡ list_any (λ os. pointwise nat_eq os objects) (choices lists)
choice-any [] [] = refl
choice-any [] (o ∷ objects) = refl
choice-any (range ∷ lists) [] =
    sym
    (any-choices_cons (λ os. pointwise nat_eq os []) range lists
    ∙ any-same (λ object. list_any (λ others. pointwise nat_eq (object ∷ others) []) (choices lists)) (λ object. false) (λ object. any-none (choices lists)) range
    ∙ any-none range)
choice-any (range ∷ lists) (o ∷ objects) =
    ap (λ b. list_any (nat_eq o) range && b) (choice-any lists objects)
    ∙ sym
    (any-choices_cons (λ os. pointwise nat_eq os (o ∷ objects)) range lists
    ∙ any-same (λ object. list_any (λ others. pointwise nat_eq (object ∷ others) (o ∷ objects)) (choices lists)) (λ object. nat_eq object o && list_any (λ others. pointwise nat_eq others objects) (choices lists))
    (λ object. any-and_left (nat_eq object o) (λ others. pointwise nat_eq others objects) (choices lists)) range
    ∙ any-equal o (λ object. list_any (λ others. pointwise nat_eq others objects) (choices lists)) range)
