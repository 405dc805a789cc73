-- The sizes of conditions that are made of others, up to a cap.
use Rattle.std.proofs.Common.{◌≡◌, ℕ, ◌+◌, ◌<◌, Bool, true, false, List, [], ◌∷◌, ◌++◌, map, take, length, get_or, sym, ap, ◌∙◌}
use Rattle.std.proofs.lemmas.List.{take_more, map-append}
use Rattle.pddl_lexer.specs.declared.position.At.{At}
use Rattle.pddl_syntax.specs.declared.types.Condition.{Condition}
use Rattle.pddl_syntax.specs.declared.types.Condition.TheVariants.{Imply, Forall, Exists}
use Rattle.pddl_syntax.specs.declared.types.Typed.{Typed}
use Rattle.pddl_syntax.proofs.ConditionCases.{fold-Imply, fold-Forall, fold-Exists}
use Rattle.fault_positions.specs.declared.sizes.CappedSize.{CappedSize}
use Rattle.fault_positions.specs.CappedSizes.{capped, paired_with, listed_with, replaced_at}
use Rattle.fault_positions.specs.Sizes.{Size, size_step, size_of, paired, listed}
use Rattle.fault_positions.proofs.Capping.{capped_replaced, capped_paired, capped_paired_two, capped_listed, capped_listed_two}

-- ---- an implication: `first` and `second` are what was found of its parts
module _ (premise conclusion : Condition) (at : At) (condition left right : Condition) (is : condition ≡ Imply premise conclusion at) (is_left : left ≡ premise) (is_right : right ≡ conclusion)
    (positive : Bool) (first second made : CappedSize) where
  imply_is : (truth : Bool) → positive ≡ truth → size_of condition positive ≡ size_of (Imply premise conclusion at) truth
  imply_is truth same = ap (λ c. size_of c positive) is ∙ ap (size_of (Imply premise conclusion at)) same

  pub imply_listed : positive ≡ true → first ≡ capped (size_of left false) → second ≡ capped (size_of right true) → made ≡ listed_with first second → made ≡ capped (size_of condition positive)
  imply_listed same found_first found_second joined =
      joined
      ∙ ap (λ s. listed_with s second) (found_first ∙ ap (λ c. capped (size_of c false)) is_left)
      ∙ ap (listed_with (capped (size_of premise false))) (found_second ∙ ap (λ c. capped (size_of c true)) is_right)
      ∙ capped_listed_two (size_of premise false) (size_of conclusion true)
      ∙ sym (ap (λ (f : Bool → Size). capped (f true)) (fold-Imply (Bool → Size) size_step premise conclusion at))
      ∙ sym (ap capped (imply_is true same))

  pub imply_paired : positive ≡ false → first ≡ capped (size_of left true) → second ≡ capped (size_of right false) → made ≡ paired_with first second → made ≡ capped (size_of condition positive)
  imply_paired same found_first found_second joined =
      joined
      ∙ ap (λ s. paired_with s second) (found_first ∙ ap (λ c. capped (size_of c true)) is_left)
      ∙ ap (paired_with (capped (size_of premise true))) (found_second ∙ ap (λ c. capped (size_of c false)) is_right)
      ∙ capped_paired_two (size_of premise true) (size_of conclusion false)
      ∙ sym (ap (λ (f : Bool → Size). capped (f false)) (fold-Imply (Bool → Size) size_step premise conclusion at))
      ∙ sym (ap capped (imply_is false same))

-- ---- a quantifier that is replaced: `body` is what was found of its replacement's body
module _ (variables : List Typed) (inside : Condition) (at : At) (condition within : Condition) (is_inside : within ≡ inside) (positive : Bool) (body made : CappedSize) where
  pub forall_replaced : condition ≡ Forall variables inside at → positive ≡ true → body ≡ capped (size_of within false) → made ≡ replaced_at body at → made ≡ capped (size_of condition positive)
  forall_replaced is same found replaced =
      replaced
      ∙ ap (λ s. replaced_at s at) (found ∙ ap (λ c. capped (size_of c false)) is_inside)
      ∙ sym (capped_replaced (size_of inside false) at)
      ∙ sym (ap (λ (f : Bool → Size). capped (f true)) (fold-Forall (Bool → Size) size_step variables inside at))
      ∙ sym (ap (λ c. capped (size_of c positive)) is ∙ ap (λ b. capped (size_of (Forall variables inside at) b)) same)

  pub exists_replaced : condition ≡ Exists variables inside at → positive ≡ false → body ≡ capped (size_of within true) → made ≡ replaced_at body at → made ≡ capped (size_of condition positive)
  exists_replaced is same found replaced =
      replaced
      ∙ ap (λ s. replaced_at s at) (found ∙ ap (λ c. capped (size_of c true)) is_inside)
      ∙ sym (capped_replaced (size_of inside true) at)
      ∙ sym (ap (λ (f : Bool → Size). capped (f false)) (fold-Exists (Bool → Size) size_step variables inside at))
      ∙ sym (ap (λ c. capped (size_of c positive)) is ∙ ap (λ b. capped (size_of (Exists variables inside at) b)) same)

-- ---- one round of a loop over the members
module _ (positive : Bool) (members : List Condition) (i : ℕ) (member : Condition) (within : i < length members) (is : member ≡ get_or members i member) (before here now : CappedSize)
    (found : here ≡ capped (size_of member positive)) where
  abbrev sizes : List Condition → List Size
  sizes conditions = map (λ (size : Bool → Size). size positive) (map size_of conditions)

  sizes_more : sizes (take (i + 1) members) ≡ sizes (take i members) ++ size_of member positive ∷ []
  sizes_more =
      ap sizes (take_more members i member within ∙ ap (λ (c : Condition). take i members ++ c ∷ []) (sym is))
      ∙ ap (map (λ (size : Bool → Size). size positive)) (map-append size_of (take i members) (member ∷ []))
      ∙ map-append (λ (size : Bool → Size). size positive) (map size_of (take i members)) (size_of member ∷ [])

  pub paired_after : before ≡ capped (paired (sizes (take i members))) → now ≡ paired_with before here → now ≡ capped (paired (sizes (take (i + 1) members)))
  paired_after held made =
      made
      ∙ ap (λ s. paired_with s here) held
      ∙ ap (paired_with (capped (paired (sizes (take i members))))) found
      ∙ sym (capped_paired (sizes (take i members)) (size_of member positive))
      ∙ sym (ap (λ (all : List Size). capped (paired all)) sizes_more)

  pub listed_after : before ≡ capped (listed (sizes (take i members))) → now ≡ listed_with before here → now ≡ capped (listed (sizes (take (i + 1) members)))
  listed_after held made =
      made
      ∙ ap (λ s. listed_with s here) held
      ∙ ap (listed_with (capped (listed (sizes (take i members))))) found
      ∙ sym (capped_listed (sizes (take i members)) (size_of member positive))
      ∙ sym (ap (λ (all : List Size). capped (listed all)) sizes_more)
