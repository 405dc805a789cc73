-- Fronts of lists, and reads of them.
use Rattle.std.proofs.Common.{◌≡◌, ℕ, zero, suc, ◌<◌, inl, inr, List, [], ◌∷◌, length, get_or, take, arith}
use Rattle.lists.proofs.Items.{Among}

-- what stands before a place
pub before_place : {X : Type 0} (xs : List X) (n : ℕ) (other x : X) → Among x (take n xs) → (i : ℕ) × (i < n) × (i < length xs) × (get_or xs i other ≡ x)
before_place xs zero other x none = absurd none
before_place [] (suc n) other x none = absurd none
before_place (y ∷ ys) (suc n) other x (inl here) = (0, omega arith, omega arith, here)
before_place (y ∷ ys) (suc n) other x (inr there) = let rest = before_place ys n other x there in (suc rest.0, omega (arith, rest.1), omega (arith, rest.2), rest.3)

pub among_take : {X : Type 0} (n : ℕ) (xs : List X) (x : X) → Among x (take n xs) → Among x xs
among_take zero xs x none = absurd none
among_take (suc n) [] x none = absurd none
among_take (suc n) (y ∷ ys) x (inl here) = inl here
among_take (suc n) (y ∷ ys) x (inr there) = inr (among_take n ys x there)
