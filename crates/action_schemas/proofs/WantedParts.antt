-- Parts that are made only where they are wanted.
use Rattle.std.proofs.Common.{◌≡◌, ℕ, ◌+◌, Bool, true, false, List, [], ◌∷◌, ◌++◌, map, length, refl, sym, ap, ◌∙◌, arith}
use Rattle.std.specs.Prelude.{◌&&◌, nat_lt, if◌then◌else◌}
use Rattle.std.specs.List.{list_all}
use Rattle.std.proofs.lemmas.Bool.{ltb-false, true≢false}
use Rattle.pddl_syntax.specs.declared.types.Domain.{Domain}
use Rattle.pddl_syntax.specs.declared.types.Problem.{Problem}
use Rattle.fault_positions.specs.Sizes.{size_of}
use Rattle.action_schemas.specs.declared.effects.Required.{Required}
use Rattle.normal_task.specs.declared.parts.Part.{Part}
use Rattle.normal_task.specs.declared.parts.Fresh.{Fresh}
use Rattle.normal_task.specs.Parts.{Made, all_of, paired}
use Rattle.action_schemas.specs.Cuts.{combined, wanted_of, cut_of, cuts_of}
use Rattle.action_schemas.proofs.CutSteps.{member-more, two-are}

-- a list of no items
pub no_items : {A : Type 0} (items : List A) (n : ℕ) → length items ≡ n → nat_lt 0 n ≡ false → items ≡ []
no_items [] n are none = refl
no_items (item ∷ items) n are none = absurd (omega (arith, ltb-false 0 n none, are))

pub itself-and-true : (b : Bool) → b ≡ (b && true)
itself-and-true true = refl
itself-and-true false = refl

-- one round of a loop over members
pub member-wanted : (wanted every made_all : Bool) → made_all ≡ (wanted && every) → (around : ℕ) (done after : List (ℕ → Made Part)) (make : ℕ → Made Part) (grows : after ≡ done ++ make ∷ []) (next : ℕ)
    (items : List Part) (fresh : List Fresh) (are : (items ≡ (wanted_of wanted (combined every around done next)).items) × (fresh ≡ (combined every around done next).fresh))
    (start : ℕ) (starts : start ≡ next + length fresh) (made_items : List Part) (made_fresh : List Fresh) (is_made : (made_items ≡ (wanted_of wanted (make start)).items) × (made_fresh ≡ (make start).fresh))
    (items' : List Part) (fresh' : List Fresh) → items' ≡ (if made_all then paired around items made_items else items ++ made_items) → fresh' ≡ fresh ++ made_fresh →
    (items' ≡ (wanted_of wanted (combined every around after next)).items) × (fresh' ≡ (combined every around after next).fresh)
member-wanted true every made_all same around done after make grows next items fresh are start starts made_items made_fresh is_made items' fresh' grown fresh_grown =
    member-more every around done after make grows next items fresh are start starts made_items made_fresh is_made items' fresh'
    (grown ∙ ap (λ (b : Bool). if b then paired around items made_items else items ++ made_items) same) fresh_grown
member-wanted false every made_all same around done after make grows next items fresh are start starts made_items made_fresh is_made items' fresh' grown fresh_grown = (
  grown ∙ ap (λ (b : Bool). if b then paired around items made_items else items ++ made_items) same ∙ ap (λ (l : List Part). l ++ made_items) are.0 ∙ is_made.0,
  (member-more every around done after make grows next (combined every around done next).items fresh (refl, are.1) start starts (make start).items made_fresh (refl, is_made.1)
      (if every then paired around (combined every around done next).items (make start).items else (combined every around done next).items ++ (make start).items) fresh' refl fresh_grown).1,
)

-- two members
pub two-wanted : (wanted : Bool) (around : ℕ) (one other : ℕ → Made Part) (next : ℕ)
    (first_items : List Part) (first_fresh : List Fresh) (first_is : (first_items ≡ (wanted_of wanted (one next)).items) × (first_fresh ≡ (one next).fresh))
    (start : ℕ) (starts : start ≡ next + length first_fresh) (second_items : List Part) (second_fresh : List Fresh) (second_is : (second_items ≡ (wanted_of wanted (other start)).items) × (second_fresh ≡ (other start).fresh))
    (every made_all : Bool) → made_all ≡ (wanted && every) → (items : List Part) (fresh : List Fresh) → items ≡ (if made_all then paired around first_items second_items else first_items ++ second_items) → fresh ≡ first_fresh ++ second_fresh →
    (items ≡ (wanted_of wanted (combined every around (one ∷ other ∷ []) next)).items) × (fresh ≡ (combined every around (one ∷ other ∷ []) next).fresh)
two-wanted true around one other next first_items first_fresh first_is start starts second_items second_fresh second_is every made_all same items fresh are grown =
    two-are around one other next first_items first_fresh first_is start starts second_items second_fresh second_is every items fresh
    (are ∙ ap (λ (b : Bool). if b then paired around first_items second_items else first_items ++ second_items) same) grown
two-wanted false around one other next first_items first_fresh first_is start starts second_items second_fresh second_is every made_all same items fresh are grown = (
  are ∙ ap (λ (b : Bool). if b then paired around first_items second_items else first_items ++ second_items) same ∙ ap (λ (l : List Part). l ++ second_items) first_is.0 ∙ second_is.0,
  (two-are around one other next (one next).items first_fresh (refl, first_is.1) start starts (other start).items second_fresh (refl, second_is.1) every
      (if every then paired around (one next).items (other start).items else (one next).items ++ (other start).items) fresh refl grown).1,
)

-- ---- what is required around an effect

paired-none : (around : ℕ) (firsts : List Part) → paired around firsts [] ≡ []
paired-none around [] = refl
paired-none around (first ∷ firsts) = paired-none around firsts

module _ (domain : Domain) (problem : Problem) (around : ℕ) (many : (one : Required) (next : ℕ) → length (cut_of domain problem one around next).items ≡ (size_of one.condition.now true).parts) where
  abbrev has_some : Required → Bool
  has_some one = nat_lt 0 (size_of one.condition.now true).parts

  abbrev makes : List Required → List (ℕ → Made Part)
  makes required = map (λ (cut : ℕ → ℕ → Made Part). cut around) (cuts_of domain problem required)

  abbrev AreNone : List Required → Type 0
  AreNone required = (next : ℕ) → list_all has_some required ≡ false → (all_of around (makes required) next).items ≡ []

  one_required : (one : Required) (more : List Required) → AreNone more → (next : ℕ) (b : Bool) → has_some one ≡ b → (b && list_all has_some more) ≡ false → (all_of around (makes (one ∷ more)) next).items ≡ []
  one_required one more rest next true is none =
      ap (paired around (cut_of domain problem one around next).items) (rest (next + length (cut_of domain problem one around next).fresh) none)
      ∙ paired-none around (cut_of domain problem one around next).items
  one_required one more rest next false is none =
      ap (λ (l : List Part). paired around l (all_of around (makes more) (next + length (cut_of domain problem one around next).fresh)).items)
      (no_items (cut_of domain problem one around next).items (size_of one.condition.now true).parts (many one next) is)

  -- no pairings are left where one condition has no parts
  pub none_required : (required : List Required) → AreNone required
  none_required [] next none = absurd (true≢false none)
  none_required (one ∷ more) next none = one_required one more (none_required more) next (has_some one) refl none

  pub all_required : (required : List Required) (next : ℕ) → (wanted_of (list_all has_some required) (all_of around (makes required) next)).items ≡ (all_of around (makes required) next).items
  all_required required next = by (list_all has_some required) refl
    where
      by : (b : Bool) → list_all has_some required ≡ b → (wanted_of b (all_of around (makes required) next)).items ≡ (all_of around (makes required) next).items
      by true is = refl
      by false is = sym (none_required required next is)
