-- Ground atoms that are told to be the same are equal, as names are.
pub use Rattle.names.proofs.SameNames.{same_name}
use Rattle.std.proofs.Common.{◌≡◌, Bool, true, List, [], ◌∷◌, refl, ap, ◌∙◌}
use Rattle.std.specs.Cmp.Lexicographic.{pointwise}
use Rattle.std.proofs.lemmas.Bool.{and_parts}
use Rattle.pddl_syntax.specs.Words.{Name, is_same}
use Rattle.pddl_syntax.specs.Holds.{GroundAtom, is_same_atom}

pub same_items : {A : Type 0} (test : A → A → Bool) → ((x y : A) → test x y ≡ true → x ≡ y) → (xs ys : List A) → pointwise test xs ys ≡ true → xs ≡ ys
same_items test sound [] [] e = refl
same_items test sound [] (y ∷ ys) e = absurd cc
same_items test sound (x ∷ xs) [] e = absurd cc
same_items test sound (x ∷ xs) (y ∷ ys) e =
    let here = sound x y (and_parts (test x y) (pointwise test xs ys) e).0 in
    let rest = same_items test sound xs ys (and_parts (test x y) (pointwise test xs ys) e).1 in
    cc (here, rest)

pub same_atom : (a b : GroundAtom) → is_same_atom a b ≡ true → a ≡ b
same_atom a b e =
    let names = same_name a.predicate b.predicate (and_parts (is_same a.predicate b.predicate) (pointwise is_same a.objects b.objects) e).0 in
    let objects = same_items is_same same_name a.objects b.objects (and_parts (is_same a.predicate b.predicate) (pointwise is_same a.objects b.objects) e).1 in
    let one : GroundAtom → Name → GroundAtom = λ atom predicate. record { predicate = predicate; objects = atom.objects } in
    ap (one a) names ∙ ap (λ (os : List Name). record { predicate = b.predicate; objects = os }) objects
