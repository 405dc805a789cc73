-- The first fault, step by step as the code goes.
use Rattle.std.proofs.Common.{◌≡◌, Ok, Err, refl}
use Rattle.pddl_syntax.specs.Outcome.{Reading, Reads, Faults, made, both, own, first, Outcome}
use Rattle.pddl_syntax.specs.Shapes.{Check}

infixl 10 ◌>>=◌
abbrev pub ◌>>=◌ : {A B : Type 0} → Outcome A → (A → Outcome B) → Outcome B
(Ok x) >>= f = f x
(Err e) >>= f = Err e

pub first_made : {A B : Type 0} (f : A → B) (r : Reading A) → first (made f r) ≡ (first r >>= λ x. Ok (f x))
first_made f (Reads x) = refl
first_made f (Faults fault more) = refl

pub first_both : {A B C : Type 0} (f : A → B → C) (r : Reading A) (s : Reading B) → first (both f r s) ≡ (first r >>= λ x. first s >>= λ y. Ok (f x y))
first_both f (Reads x) (Reads y) = refl
first_both f (Reads x) (Faults fault more) = refl
first_both f (Faults fault more) (Reads y) = refl
first_both f (Faults fault more) (Faults other others) = refl

-- a list's own fault comes before those of its members
pub first_own_made : {A B : Type 0} (f : A → B) (check : Check) (r : Reading A) → first (own check (made f r)) ≡ (first (own check r) >>= λ x. Ok (f x))
first_own_made f (Ok none) (Reads x) = refl
first_own_made f (Ok none) (Faults fault more) = refl
first_own_made f (Err fault) r = refl

pub first_own_both : {A B C : Type 0} (f : A → B → C) (check : Check) (r : Reading A) (s : Reading B) →
    first (own check (both f r s)) ≡ (first (own check r) >>= λ x. first s >>= λ y. Ok (f x y))
first_own_both f (Ok none) r s = first_both f r s
first_own_both f (Err fault) r s = refl

-- a title has no value of its own
pub first_titled : {A B C : Type 0} (f : B → C) (title : Check) (name : A) (r : Reading B) →
    first (both (λ named x. f x) (own title (Reads name)) r) ≡ first (own title (made f r))
first_titled f (Ok none) name (Reads x) = refl
first_titled f (Ok none) name (Faults fault more) = refl
first_titled f (Err fault) name (Reads x) = refl
first_titled f (Err fault) name (Faults other more) = refl
