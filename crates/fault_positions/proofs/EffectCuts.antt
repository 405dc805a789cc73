-- The conditions in an effect, with the parts of those around them counted up to a cap.
use Rattle.std.proofs.Common.{◌≡◌, ℕ, ◌+◌, ◌*◌, ◌<◌, true, nat_le, List, [], ◌∷◌, ◌++◌, map, take, length, get_or, Option, refl, sym, ap, ◌∙◌, if◌then◌else◌}
use Rattle.std.specs.Prelude.{min}
use Rattle.std.specs.List.{flat_map}
use Rattle.std.proofs.lemmas.List.Folds.{flat_map-map}
use Rattle.pddl_lexer.specs.declared.position.At.{At}
use Rattle.pddl_syntax.specs.declared.types.Condition.{Condition}
use Rattle.pddl_syntax.specs.declared.types.Effect.{Effect}
use Rattle.pddl_syntax.specs.declared.types.Effect.TheVariants.{When}
use Rattle.pddl_syntax.proofs.ConditionCases.{Each}
use Rattle.pddl_syntax.proofs.EffectCases.{effect_by_cases, fold-Nothing, fold-Add, fold-Delete, fold-And, fold-When, fold-Forall, fold-Increase}
use Rattle.fault_positions.specs.declared.sizes.CappedSize.{CappedSize}
use Rattle.fault_positions.specs.CappedSizes.{cap, capped, of_parts, paired_with, first_at}
use Rattle.fault_positions.specs.Positions.{earlier, earliest}
use Rattle.fault_positions.specs.Sizes.{Cut, size_of, position_of, cuts_beside, effect_step, effect_cuts, most_parts, too_large}
use Rattle.lists.proofs.LoopSteps.{flat_map_next}
use Rattle.fault_positions.proofs.Capping.{cap_left, cap_right, le_cap, large_cut, too_large_append, first_append, size_with, first_of_cut}

-- ---- only so many of the parts around count

abbrev pub IsCapped : Effect → Type 0
IsCapped e = (around : ℕ) → too_large (effect_cuts e around) ≡ too_large (effect_cuts e (min around cap))

through : (f g : ℕ → List Cut) → f ≡ g → (a b : ℕ) → too_large (g a) ≡ too_large (g b) → too_large (f a) ≡ too_large (f b)
through f g same a b held = ap (λ (h : ℕ → List Cut). too_large (h a)) same ∙ held ∙ sym (ap (λ (h : ℕ → List Cut). too_large (h b)) same)

abbrev of_members : List Effect → ℕ → List Cut
of_members members around = flat_map (λ (cuts : ℕ → List Cut). cuts around) (map effect_cuts members)

members_capped : (members : List Effect) → Each IsCapped members → (around : ℕ) → too_large (of_members members around) ≡ too_large (of_members members (min around cap))
members_capped [] each around = refl
members_capped (member ∷ members) each around =
    too_large_append (effect_cuts member around) (of_members members around)
    ∙ ap (λ positions. positions ++ too_large (of_members members around)) (each.0 around)
    ∙ ap (λ positions. too_large (effect_cuts member (min around cap)) ++ positions) (members_capped members each.1 around)
    ∙ sym (too_large_append (effect_cuts member (min around cap)) (of_members members (min around cap)))

same_small : (around parts : ℕ) → nat_le (around * parts) most_parts ≡ nat_le (min around cap * parts) most_parts
same_small around parts =
    sym (le_cap most_parts (around * parts))
    ∙ ap (λ n. nat_le n most_parts) (cap_left cap around parts)
    ∙ le_cap most_parts (min around cap * parts)

beside_capped : (condition : Condition) (around : ℕ) → too_large (cuts_beside around condition) ≡ too_large (cuts_beside (min around cap) condition)
beside_capped condition around =
    let size = size_of condition true in
    large_cut (around * size.parts) (position_of condition) size.replaced
    ∙ ap (λ small. if small then too_large size.replaced else position_of condition ∷ too_large size.replaced) (same_small around size.parts)
    ∙ sym (large_cut (min around cap * size.parts) (position_of condition) size.replaced)

when_capped : (condition : Condition) (inside : Effect) → IsCapped inside → (around : ℕ) →
    too_large (cuts_beside around condition ++ effect_cuts inside (around * (size_of condition true).parts))
    ≡ too_large (cuts_beside (min around cap) condition ++ effect_cuts inside (min around cap * (size_of condition true).parts))
when_capped condition inside held around =
    let parts = (size_of condition true).parts in
    too_large_append (cuts_beside around condition) (effect_cuts inside (around * parts))
    ∙ ap (λ positions. positions ++ too_large (effect_cuts inside (around * parts))) (beside_capped condition around)
    ∙ ap (λ positions. too_large (cuts_beside (min around cap) condition) ++ positions)
    (held (around * parts) ∙ ap (λ n. too_large (effect_cuts inside n)) (cap_left cap around parts) ∙ sym (held (min around cap * parts)))
    ∙ sym (too_large_append (cuts_beside (min around cap) condition) (effect_cuts inside (min around cap * parts)))

pub effect_capped : (e : Effect) → IsCapped e
effect_capped = effect_by_cases IsCapped (record {
  at_nothing = λ at around. through _ _ (fold-Nothing (ℕ → List Cut) effect_step at) around (min around cap) refl;
  at_add = λ atom around. through _ _ (fold-Add (ℕ → List Cut) effect_step atom) around (min around cap) refl;
  at_delete = λ atom around. through _ _ (fold-Delete (ℕ → List Cut) effect_step atom) around (min around cap) refl;
  at_and = λ members at each around. through _ _ (fold-And (ℕ → List Cut) effect_step members at) around (min around cap) (members_capped members each around);
  at_when = λ condition inside at held around. through _ _ (fold-When (ℕ → List Cut) effect_step condition inside at) around (min around cap) (when_capped condition inside held around);
  at_forall = λ variables inside at held around. through _ _ (fold-Forall (ℕ → List Cut) effect_step variables inside at) around (min around cap) (held around);
  at_increase = λ term cost at around. through _ _ (fold-Increase (ℕ → List Cut) effect_step term cost at) around (min around cap) refl;
})

-- ---- a condition beside others

pub first_beside : (around : ℕ) (condition : Condition) → earliest (too_large (cuts_beside around condition)) ≡ first_at (paired_with (of_parts around) (capped (size_of condition true))) (position_of condition)
first_beside around condition =
    let size = size_of condition true in
    first_of_cut (around * size.parts) (position_of condition) size.replaced
    ∙ ap (λ n. first_at (size_with n (earliest (too_large size.replaced))) (position_of condition)) (cap_right cap around size.parts)

-- a `when`: `first_here` and `first_inside` are what was found of its condition and of its inside
module _ (condition : Condition) (inside : Effect) (at : At) (effect within : Effect) (is : effect ≡ When condition inside at) (is_inside : within ≡ inside) (around : ℕ) where
  abbrev joined : CappedSize
  joined = paired_with (of_parts around) (capped (size_of condition true))

  pub first_in_when : (outer here size : CappedSize) (place : At) (first_here first_inside now : Option At) → outer ≡ of_parts around → here ≡ capped (size_of condition true) → size ≡ paired_with outer here →
      place ≡ position_of condition → first_here ≡ first_at size place → first_inside ≡ earliest (too_large (effect_cuts within size.parts)) → now ≡ earlier first_here first_inside →
      now ≡ earliest (too_large (effect_cuts effect around))
  first_in_when outer here size place first_here first_inside now is_outer is_here is_size is_place found_here found_inside made =
      let parts = (size_of condition true).parts in
      let size_is : size ≡ joined = is_size ∙ ap (λ s. paired_with s here) is_outer ∙ ap (paired_with (of_parts around)) is_here in
      let here_is : first_here ≡ earliest (too_large (cuts_beside around condition)) =
      found_here ∙ ap (λ s. first_at s place) size_is ∙ ap (first_at joined) is_place ∙ sym (first_beside around condition) in
      let inside_is : first_inside ≡ earliest (too_large (effect_cuts inside (around * parts))) =
      found_inside
      ∙ ap (λ (s : CappedSize). earliest (too_large (effect_cuts within s.parts))) size_is
      ∙ ap (λ e. earliest (too_large (effect_cuts e joined.parts))) is_inside
      ∙ ap (λ n. earliest (too_large (effect_cuts inside n))) (sym (cap_right cap around parts))
      ∙ sym (ap earliest (effect_capped inside (around * parts))) in
      made
      ∙ ap (λ first. earlier first first_inside) here_is
      ∙ ap (earlier (earliest (too_large (cuts_beside around condition)))) inside_is
      ∙ sym (first_append (cuts_beside around condition) (effect_cuts inside (around * parts)))
      ∙ sym (ap (λ (f : ℕ → List Cut). earliest (too_large (f around))) (fold-When (ℕ → List Cut) effect_step condition inside at))
      ∙ sym (ap (λ e. earliest (too_large (effect_cuts e around))) is)

-- ---- one round of a loop

module _ {X : Type 0} (cuts_of : X → List Cut) (items : List X) (i : ℕ) (item : X) (within : i < length items) (is : item ≡ get_or items i item) where
  pub cuts_after : (before here now : Option At) → before ≡ earliest (too_large (flat_map cuts_of (take i items))) → here ≡ earliest (too_large (cuts_of item)) → now ≡ earlier before here →
      now ≡ earliest (too_large (flat_map cuts_of (take (i + 1) items)))
  cuts_after before here now held found made =
      made
      ∙ ap (λ first. earlier first here) held
      ∙ ap (earlier (earliest (too_large (flat_map cuts_of (take i items))))) found
      ∙ sym (first_append (flat_map cuts_of (take i items)) (cuts_of item))
      ∙ sym (ap (λ cuts. earliest (too_large cuts)) (flat_map_next items i item within is cuts_of))

module _ (around : ℕ) (members : List Effect) (i : ℕ) (member : Effect) (within : i < length members) (is : member ≡ get_or members i member) where
  alone : (few : List Effect) → of_members few around ≡ flat_map (λ e. effect_cuts e around) few
  alone few = flat_map-map (λ (cuts : ℕ → List Cut). cuts around) effect_cuts few

  pub members_after : (before here now : Option At) → before ≡ earliest (too_large (of_members (take i members) around)) → here ≡ earliest (too_large (effect_cuts member around)) → now ≡ earlier before here →
      now ≡ earliest (too_large (of_members (take (i + 1) members) around))
  members_after before here now held found made =
      cuts_after (λ e. effect_cuts e around) members i member within is before here now (held ∙ ap (λ cuts. earliest (too_large cuts)) (alone (take i members))) found made
      ∙ sym (ap (λ cuts. earliest (too_large cuts)) (alone (take (i + 1) members)))
