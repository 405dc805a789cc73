-- Names, and maps from them.
use Rattle.std.proofs.Common.{◌≡◌, ℕ, Bool, true, false, List, refl}
use Rattle.std.specs.declared.cmp.Ordering.TheVariants.{Less, Equal, Greater}
use Rattle.std.specs.Ordering.{nat_cmp, eq_by_cmp}
use Rattle.std.specs.Cmp.{eq_by_cmp_equiv}
use Rattle.std.specs.Cmp.Lexicographic.{slice_cmp, nat_list_cmp_total}
use Rattle.std.specs.FinMap.{FinMap, get, same_map, slice_cmp-IsAntisymmetric, nat_cmp-IsAntisymmetric}

-- whether two names are one
abbrev pub same_name : List ℕ → List ℕ → Bool
same_name = eq_by_cmp (slice_cmp nat_cmp)

same_true : (q n : List ℕ) → same_name q n ≡ true → q ≡ n
same_true q n is = elim (slice_cmp nat_cmp q n) as (λ r. slice_cmp nat_cmp q n ≡ r → q ≡ n) [
  | Less ↦ λ e. absurd (let no : false ≡ true = rw e at is in cc)
  | Equal ↦ λ e. slice_cmp-IsAntisymmetric nat_cmp-IsAntisymmetric q n e
  | Greater ↦ λ e. absurd (let no : false ≡ true = rw e at is in cc)
] refl

pub same_name-self : (n : List ℕ) → same_name n n ≡ true
same_name-self n = (eq_by_cmp_equiv nat_list_cmp_total).refl n

-- by whether two names are one
pub by_name : {A : Type 0} (q n : List ℕ) → (q ≡ n → same_name q n ≡ true → A) → (same_name q n ≡ false → A) → A
by_name {A} q n equal other = elim (same_name q n) as (λ b. same_name q n ≡ b → A) [ true ↦ λ e. equal (same_true q n e) e | false ↦ other ] refl

-- two maps that answer alike are equal
pub alike : {X : Type 0} (m n : FinMap (slice_cmp nat_cmp) X) → ((q : List ℕ) → get m q ≡ get n q) → m ≡ n
alike = same_map nat_list_cmp_total (slice_cmp-IsAntisymmetric nat_cmp-IsAntisymmetric)
