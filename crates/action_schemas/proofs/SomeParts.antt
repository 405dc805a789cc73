-- Whether conditions have parts: products that aren't 0.
use Rattle.std.proofs.Common.{◌≡◌, ℕ, zero, suc, ◌+◌, ◌*◌, ◌<◌, Bool, true, false, List, [], ◌∷◌, ◌++◌, map, take, length, get_or, refl, sym, ap, ◌∙◌, arith}
use Rattle.std.specs.Prelude.{◌&&◌, nat_lt}
use Rattle.std.proofs.lemmas.Bool.{lt-ltb}
use Rattle.std.proofs.lemmas.List.{map-append}
use Rattle.pddl_lexer.specs.declared.position.At.{At}
use Rattle.pddl_syntax.specs.declared.types.Condition.{Condition}
use Rattle.pddl_syntax.specs.declared.types.Condition.TheVariants as conditions
use Rattle.pddl_syntax.proofs.ConditionCases.{fold-Imply}
use Rattle.fault_positions.specs.Sizes.{Size, product, paired, size_step, size_of}
use Rattle.normal_rows.proofs.TurnSteps.{twice-next}

some_times : (a b : ℕ) → nat_lt 0 (a * b) ≡ (nat_lt 0 a && nat_lt 0 b)
some_times zero b = ap (nat_lt 0) (let none : 0 * b ≡ 0 = omega arith in none)
some_times (suc a) zero = ap (nat_lt 0) (let none : suc a * 0 ≡ 0 = omega arith in none) ∙ sym (ap (λ (b : Bool). b && false) (lt-ltb 0 (suc a) (omega arith)))
some_times (suc a) (suc b) =
    lt-ltb 0 (suc a * suc b) (grind arith)
    ∙ sym (ap (λ (c : Bool). c && nat_lt 0 (suc b)) (lt-ltb 0 (suc a) (omega arith)) ∙ lt-ltb 0 (suc b) (omega arith))

times_one : (n : ℕ) → n * 1 ≡ n
times_one n = omega arith

and_assoc : (a b c : Bool) → (a && (b && c)) ≡ ((a && b) && c)
and_assoc true b c = refl
and_assoc false b c = refl

some_product : (numbers : List ℕ) (number : ℕ) → nat_lt 0 (product (numbers ++ number ∷ [])) ≡ (nat_lt 0 (product numbers) && nat_lt 0 number)
some_product [] number = ap (nat_lt 0) (times_one number)
some_product (first ∷ numbers) number =
    some_times first (product (numbers ++ number ∷ []))
    ∙ ap (λ (b : Bool). nat_lt 0 first && b) (some_product numbers number)
    ∙ and_assoc (nat_lt 0 first) (nat_lt 0 (product numbers)) (nat_lt 0 number)
    ∙ sym (ap (λ (b : Bool). b && nat_lt 0 number) (some_times first (product numbers)))

-- ---- one round of a loop over the members
module _ (positive : Bool) (members : List Condition) (i : ℕ) (member : Condition) (within : i < length members) (is : member ≡ get_or members i member) where
  abbrev sizes : List Condition → List Size
  sizes list = map (λ (size : Bool → Size). size positive) (map size_of list)

  abbrev all : List Condition → Bool
  all list = nat_lt 0 (paired (sizes list)).parts

  abbrev here : Bool
  here = nat_lt 0 (size_of member positive).parts

  all_next : all (take (i + 1) members) ≡ (all (take i members) && here)
  all_next =
      ap (λ (l : List Size). nat_lt 0 (paired l).parts) (twice-next (λ (size : Bool → Size). size positive) size_of members i member within is)
      ∙ ap (λ (l : List ℕ). nat_lt 0 (product l)) (map-append (λ (size : Size). size.parts) (sizes (take i members)) (size_of member positive ∷ []))
      ∙ some_product (map (λ (size : Size). size.parts) (sizes (take i members))) (size_of member positive).parts

  pub all_stays : (before : Bool) → before ≡ all (take i members) → before ≡ true → here ≡ all (take (i + 1) members)
  all_stays before held so = sym (all_next ∙ ap (λ (b : Bool). b && here) (sym held ∙ so))

  pub all_ends : (before : Bool) → before ≡ all (take i members) → before ≡ false → false ≡ all (take (i + 1) members)
  all_ends before held so = sym (all_next ∙ ap (λ (b : Bool). b && here) (sym held ∙ so))

-- ---- an implication that is denied
pub implies_both : (premise conclusion : Condition) (at : At) (condition left right : Condition) (positive : Bool) → condition ≡ conditions.Imply premise conclusion at → positive ≡ false → left ≡ premise → right ≡ conclusion →
    nat_lt 0 (size_of condition positive).parts ≡ (nat_lt 0 (size_of left true).parts && nat_lt 0 (size_of right false).parts)
implies_both premise conclusion at condition left right positive is negative is_left is_right =
    ap (λ (c : Condition). nat_lt 0 (size_of c positive).parts) is
    ∙ ap (λ (b : Bool). nat_lt 0 (size_of (conditions.Imply premise conclusion at) b).parts) negative
    ∙ ap (λ (f : Bool → Size). nat_lt 0 (f false).parts) (fold-Imply (Bool → Size) size_step premise conclusion at)
    ∙ some_times (size_of premise true).parts ((size_of conclusion false).parts * 1)
    ∙ ap (λ (n : ℕ). nat_lt 0 (size_of premise true).parts && nat_lt 0 n) (times_one (size_of conclusion false).parts)
    ∙ sym (ap (λ (c : Condition). nat_lt 0 (size_of c true).parts && nat_lt 0 (size_of right false).parts) is_left
    ∙ ap (λ (c : Condition). nat_lt 0 (size_of premise true).parts && nat_lt 0 (size_of c false).parts) is_right)
