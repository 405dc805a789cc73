-- What holds of new predicates, each with its number.
use Rattle.std.proofs.Common.{◌≡◌, ℕ, suc, ◌+◌, List, [], ◌∷◌, ◌++◌, length, subst, arith}
use Rattle.normal_task.specs.Parts.{Fresh}

module _ (P : ℕ → Fresh → Type 0) where
  -- it holds of each of these, which are numbered on from here
  abbrev pub Numbered : ℕ → List Fresh → Type 0
  Numbered next [] = Unit {0}
  Numbered next (fresh ∷ more) = P next fresh × Numbered (suc next) more

  pub numbered-left : (next : ℕ) (first second : List Fresh) → Numbered next (first ++ second) → Numbered next first
  numbered-left next [] second all = tt
  numbered-left next (fresh ∷ first) second all = (all.0, numbered-left (suc next) first second all.1)

  pub numbered-right : (next : ℕ) (first second : List Fresh) → Numbered next (first ++ second) → Numbered (next + length first) second
  numbered-right next [] second all = subst (λ (n : ℕ). Numbered n second) (let same : next ≡ next + length {A = Fresh} [] = omega arith in same) all
  numbered-right next (fresh ∷ first) second all =
      subst (λ (n : ℕ). Numbered n second) (let same : suc next + length first ≡ next + length (fresh ∷ first) = omega arith in same) (numbered-right (suc next) first second all.1)

  pub numbered-both : (next : ℕ) (first second : List Fresh) → Numbered next first → Numbered (next + length first) second → Numbered next (first ++ second)
  numbered-both next [] second one other = subst (λ (n : ℕ). Numbered n second) (let same : next + length {A = Fresh} [] ≡ next = omega arith in same) other
  numbered-both next (fresh ∷ first) second one other =
      (one.0, numbered-both (suc next) first second one.1 (subst (λ (n : ℕ). Numbered n second) (let same : next + length (fresh ∷ first) ≡ suc next + length first = omega arith in same) other))

  -- the second and the third of three lists, which are numbered from 0
  pub numbered-second : (first second third : List Fresh) → Numbered 0 (first ++ (second ++ third)) → Numbered (length first) second
  numbered-second first second third all =
      subst (λ (n : ℕ). Numbered n second) (let same : 0 + length first ≡ length first = omega arith in same) (numbered-left (0 + length first) second third (numbered-right 0 first (second ++ third) all))

  pub numbered-third : (first second third : List Fresh) → Numbered 0 (first ++ (second ++ third)) → Numbered (length first + length second) third
  numbered-third first second third all =
      subst (λ (n : ℕ). Numbered n third) (let same : 0 + length first + length second ≡ length first + length second = omega arith in same)
      (numbered-right (0 + length first) second third (numbered-right 0 first (second ++ third) all))

-- of which nothing is asked
abbrev pub Any : ℕ → Fresh → Type 0
Any next fresh = Unit {0}

pub numbered-any : (next : ℕ) (fresh : List Fresh) → Numbered Any next fresh
numbered-any next [] = tt
numbered-any next (first ∷ fresh) = (tt, numbered-any (suc next) fresh)
