-- What is built for add effects, or for a delete effect, is the case of the definition.
use Rattle.std.proofs.Common.{◌≡◌, ℕ, Bool, true, false, ◌&&◌, ◌||◌, List, [], ◌∷◌, ◌++◌, map, length, sym, ap, ◌∙◌}
use Rattle.std.specs.Prelude.{nat_eq, zip}
use Rattle.std.specs.List.{list_all}
use Rattle.normal_task.specs.declared.task.EffectRow.{EffectRow}
use Rattle.normal_task.specs.declared.task.Literal.{Literal}
use Rattle.normal_task.specs.declared.task.Literal.TheVariants.{Holds}
use Rattle.normal_task.specs.declared.task.Normal.{Normal}
use Rattle.normal_task.specs.declared.task.Place.{Place}
use Rattle.normal_task.specs.declared.task.Place.TheVariants.{Object}
use Rattle.normal_task.specs.declared.task.Schema.{Schema}
use Rattle.normal_task.specs.Parts.{moved, moved_place}
use Rattle.contradictions.specs.declared.types.Candidate.{Candidate}
use Rattle.contradictions.specs.declared.types.Part.{Part}
use Rattle.contradictions.specs.Candidates.{at_positions}
use Rattle.contradictions.specs.Contradictory.{are_same_terms, has_contradiction, in_one_class, all_pairs, standing}
use Rattle.contradictions.specs.GivenTerms.{with_terms, literal_with}
use Rattle.contradictions.specs.Renamings.{denied_atom}
use Rattle.invariant_check.specs.Accepted.{denied, ranges_with, instance_of, is_light_beside, is_listed, apart_from}
use Rattle.invariant_check.specs.Attempts.{is_at_instance, are_one_or_apart, leaves_deleted, are_fitting, balances_given}

pub apart_by_classes : (candidate : Candidate) (ranges : List (List ℕ)) (literals : List Literal) (pairs : List (Place × Place)) (instance : List Place) (predicate : ℕ) (places : List Place) (other : ℕ) (others : List Place) (same : Place → Place → Bool) →
    same ≡ in_one_class (all_pairs literals pairs) → (nat_eq predicate other && are_same_terms same places others) ≡ false →
    has_contradiction same candidate ranges literals (standing literals pairs instance) instance ≡ are_one_or_apart candidate ranges literals pairs instance predicate places other others
apart_by_classes candidate ranges literals pairs instance predicate places other others same tells two =
    ap (λ b. b || has_contradiction same candidate ranges literals (standing literals pairs instance) instance) (sym two)
    ∙ ap (λ same. nat_eq predicate other && are_same_terms same places others || has_contradiction same candidate ranges literals (standing literals pairs instance) instance) tells

-- ---- two add effects

module _ (candidate : Candidate) (schema : Schema) (part : Part) (e : EffectRow) (other : Part) (f : EffectRow) where
  pub two_adds : (ranges : List (List ℕ)) (literals condition : List Literal) (pairs : List (Place × Place)) (instance second places : List Place) →
      ranges ≡ ranges_with schema e f → condition ≡ map (moved (length schema.parameters) (length e.variables)) f.condition → places ≡ map (moved_place (length schema.parameters) (length e.variables)) f.places →
      literals ≡ schema.condition ++ (e.condition ++ (condition ++ denied e ∷ denied_atom f.predicate places ∷ [])) → instance ≡ instance_of part e → second ≡ at_positions (Object 0) other.places places → pairs ≡ zip instance second →
      are_one_or_apart candidate ranges literals pairs instance e.predicate e.places f.predicate places ≡ is_light_beside candidate schema part e other f
  two_adds ranges literals condition pairs instance second places r c p l i s z =
      ap (λ ranges. are_one_or_apart candidate ranges literals pairs instance e.predicate e.places f.predicate places) r
      ∙ ap (λ literals. are_one_or_apart candidate (ranges_with schema e f) literals pairs instance e.predicate e.places f.predicate places) (l ∙ ap (λ condition. schema.condition ++ (e.condition ++ (condition ++ denied e ∷ denied_atom f.predicate places ∷ []))) c)
      ∙ ap (λ pairs. of_pairs pairs instance places) (z ∙ ap (λ second. zip instance second) s)
      ∙ ap (λ instance. of_pairs (zip instance (at_positions (Object 0) other.places places)) instance places) i
      ∙ ap (λ places. of_pairs (zip (instance_of part e) (at_positions (Object 0) other.places places)) (instance_of part e) places) p
    where
      of_pairs : List (Place × Place) → List Place → List Place → Bool
      of_pairs pairs instance places =
          are_one_or_apart candidate (ranges_with schema e f) (schema.condition ++ (e.condition ++ (map (moved (length schema.parameters) (length e.variables)) f.condition ++ denied e ∷ denied_atom f.predicate places ∷ []))) pairs instance e.predicate e.places f.predicate places

-- ---- a delete effect with terms for its own variables

module _ (task : Normal) (candidate : Candidate) (schema : Schema) (e : EffectRow) (required : List Literal) (instance : List Place) (d : EffectRow) (given : List Place) where
  abbrev can_balance : List Place → List Literal → Bool
  can_balance places condition =
      is_at_instance candidate instance d.predicate places && is_listed required (Holds true d.predicate places) && list_all (is_listed required) condition && are_fitting task (schema.parameters ++ e.variables) given d.variables

  abbrev left_deleted : List Place → Bool
  left_deleted places = list_all (λ a. leaves_deleted candidate schema e required instance d.predicate places (apart_from schema e a)) schema.effects

  pub with_given : (places : List Place) (condition : List Literal) (can : Bool) → places ≡ map (with_terms (length schema.parameters) given) d.places → condition ≡ map (literal_with (length schema.parameters) given) d.condition →
      can ≡ can_balance places condition → can ≡ true → left_deleted places ≡ balances_given task candidate schema e required instance d given
  with_given places condition can p c is yes' =
      ap (λ b. b && left_deleted places) (sym yes' ∙ is) ∙ ap (λ places. can_balance places condition && left_deleted places) p
      ∙ ap (λ condition. can_balance (map (with_terms (length schema.parameters) given) d.places) condition && left_deleted (map (with_terms (length schema.parameters) given) d.places)) c
