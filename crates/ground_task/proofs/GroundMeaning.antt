-- The ground task means what its normal task means.
use Rattle.std.proofs.Common.{◌≡◌, ℕ, true, false, not, cond, inl, inr, List, ◌++◌, Option, Some, None, refl, sym, ap, ◌∙◌, subst}
use Rattle.std.specs.Prelude.{filter, unwrap_or, slice_get, IsPermutation}
use Rattle.std.specs.List.{flat_map, All}
use Rattle.std.specs.Option.{option_map}
use Rattle.std.proofs.lemmas.Bool.{cases_Bool, true≢false, not-false}
use Rattle.std.proofs.lemmas.Option.{none-some, same_Some}
use Rattle.std.proofs.lemmas.List.Elements.{All-contains}
use Rattle.std.proofs.lemmas.List.Sorted.{Contains-permutation, IsPermutation-sym}
use Rattle.planning.specs.Same.{MeansTheSame}
use Rattle.planning.proofs.SameRuns.{means_through}
use Rattle.normal_task.specs.declared.task.EffectRow.{EffectRow as EffectSchema}
use Rattle.normal_task.specs.declared.task.GroundAtom.{GroundAtom}
use Rattle.normal_task.specs.declared.task.Normal.{Normal}
use Rattle.normal_task.specs.declared.task.PredicateRow.{PredicateRow}
use Rattle.normal_task.specs.declared.task.Schema.{Schema}
use Rattle.normal_task.specs.Meaning.{choices}
use Rattle.normal_task.specs.Meaning.{normal_task}
use Rattle.ground_task.specs.declared.types.Ground.{Ground}
use Rattle.ground_task.specs.GroundTask.{is_derived, is_fixed, ground_task}
use Rattle.ground_task.specs.Literals.{EffectRow, ActionRow, LiteralTask, meaning}
use Rattle.ground_task.specs.Ranked.{IsRanked}
use Rattle.ground_task.specs.Settled.{Settling, kept_actions, kept_axioms, IsSettled, Shows}
use Rattle.ground_task.specs.Instances.{effects_of, effect_of, all_fit, action_of, is_instance, actions_of, instance_task, static_settling, IsGroundTask}
use Rattle.ground_task.specs.Statics.{KeepsStatics}
use Rattle.lists.proofs.Items.{Among, contains_among, map_source, flat_map_piece, map_itself, slice_among}
use Rattle.lists.specs.SameMembers.{SameMembers}
use Rattle.ground_task.proofs.NormalSteps.{Equal_states}
use Rattle.ground_task.proofs.NormalSteps as instances
use Rattle.ground_task.proofs.Settling.{Names, Stays}
use Rattle.ground_task.proofs.Settling as settling
use Rattle.normal_task.proofs.OnceEach.{same_atom}

module _ (task : Normal) (result : Ground) (statics : KeepsStatics task) (is : IsGroundTask task result) where
  abbrev by : Settling GroundAtom GroundAtom
  by = static_settling task

  abbrev one : LiteralTask GroundAtom
  one = instance_task task

  abbrev two : LiteralTask GroundAtom
  two = ground_task result

  members : {X : Type 0} (xs ys : List X) → IsPermutation xs ys → SameMembers xs ys
  members xs ys moved x = (Contains-permutation xs ys x moved, Contains-permutation ys xs x (IsPermutation-sym xs ys moved))

  pub settled : IsSettled by one two
  settled = record {
    init = is.init ∙ sym (map_itself (filter by.keeps task.init));
    actions = members (kept_actions by one.actions) two.actions is.actions;
    axioms = members (kept_axioms by one.axioms) two.axioms is.axioms;
    goal = is.goal;
  }

  -- a static predicate isn't derived
  not_both : (predicate : ℕ) → is_fixed task.predicates predicate ≡ true → unwrap_or (option_map (λ (row : PredicateRow). row.derived) (slice_get task.predicates predicate)) false ≡ false
  not_both predicate fixed = by_row (slice_get task.predicates predicate) refl
    where
      by_row : (o : Option PredicateRow) → slice_get task.predicates predicate ≡ o → unwrap_or (option_map (λ (row : PredicateRow). row.derived) (slice_get task.predicates predicate)) false ≡ false
      by_row None e = ap (λ o. unwrap_or (option_map (λ (row : PredicateRow). row.derived) o) false) e
      by_row (Some row) e =
          ap (λ o. unwrap_or (option_map (λ (row : PredicateRow). row.derived) o) false) e
          ∙ All-contains (λ (row : PredicateRow). row.fixed ≡ true → row.derived ≡ false) task.predicates row statics.basic (contains_among task.predicates row (slice_among task.predicates predicate row e))
          (ap (λ o. unwrap_or (option_map (λ (row : PredicateRow). row.fixed) o) false) (sym e) ∙ fixed)

  basic : (a : GroundAtom) → by.keeps a ≡ false → is_derived task.predicates a ≡ false
  basic a out = not_both a.predicate (not-false (is_fixed task.predicates a.predicate) out)

  -- no effect is on a static atom
  kept_effect : (row : ActionRow GroundAtom) → Among row one.actions → (e : EffectRow GroundAtom) → Among e row.effects → by.keeps e.atom ≡ true
  kept_effect row among e among_e =
      let piece = flat_map_piece (actions_of task) task.schemas row among in
      let schema = piece.source in
      let from = map_source (action_of task schema) (filter (λ objects. is_instance task schema objects) (choices schema.parameters)) row piece.inside in
      let inside : Among e (flat_map (effects_of from.source) schema.effects) = subst (λ (r : ActionRow GroundAtom). Among e r.effects) (sym from.gives) among_e in
      let piece' = flat_map_piece (effects_of from.source) schema.effects e inside in
      let effect = piece'.source in
      let from' = map_source (effect_of from.source effect) (filter (λ objects. all_fit (from.source ++ objects) effect.condition) (choices effect.variables)) e piece'.inside in
      let free : is_fixed task.predicates effect.predicate ≡ false =
      All-contains (λ (row : EffectSchema). is_fixed task.predicates row.predicate ≡ false) schema.effects effect
      (All-contains (λ (schema : Schema). All (λ (row : EffectSchema). is_fixed task.predicates row.predicate ≡ false) schema.effects) task.schemas schema statics.effects (contains_among task.schemas schema piece.among))
      (contains_among schema.effects effect piece'.among) in
      ap (λ (r : EffectRow GroundAtom). not (is_fixed task.predicates r.atom.predicate)) (sym from'.gives) ∙ ap not free

  stays : Stays by one
  stays = record {
    init = λ a out. refl;
    effects = λ row among opened e among_e opened_e out. absurd (true≢false (sym (kept_effect row among e among_e) ∙ out));
    derived = λ a out derived. absurd (true≢false (sym derived ∙ basic a out));
    axioms = λ row among out derived. absurd (true≢false (sym derived ∙ basic row.atom out));
    full = λ state full settled is_full a out. is_full.basic a (basic a out) ∙ settled a out;
  }

  pub names : Names by one two
  names = record {
    back = λ a. cond (by.keeps a) (Some a) None;
    back_kept = back_kept;
    named_back = λ a kept. ap (λ b. cond b (Some a) None) kept;
    same_is = same_atom;
    same_is' = same_atom;
    same_named = λ a b in_a in_b. refl;
    derived_named = λ a kept. ap (λ predicates. is_derived predicates a) is.predicates;
  }
    where
      back_kept : (b a : GroundAtom) → cond (by.keeps b) (Some b) None ≡ Some a → (by.keeps a ≡ true) × (a ≡ b)
      back_kept b a e = elim (cases_Bool (by.keeps b)) [
        | inl kept ↦ let same = same_Some b a (sym (ap (λ t. cond t (Some b) None) kept) ∙ e) in (ap by.keeps (sym same) ∙ kept, sym same)
        | inr out ↦ absurd (none-some a (sym (ap (λ t. cond t (Some b) None) out) ∙ e))
      ]

  pub same_meaning : MeansTheSame (normal_task task) (meaning two) (Shows by)
  same_meaning =
      means_through (normal_task task) (meaning one) (meaning two) Equal_states (Shows by) (Shows by)
      (λ s u shows. (s, (λ a. refl), shows))
      (λ s m u equal shows. record { kept = λ a kept. shows.kept a kept ∙ equal a; settled = λ a out. sym (equal a) ∙ shows.settled a out })
      (instances.same_meaning task) (settling.same_meaning by one two settled names stays)

  pub no_recursion : IsRanked one → IsRanked two
  no_recursion ranked = settling.still_ranked by one two settled names ranked
