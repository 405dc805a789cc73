-- The normal task of a checked pair keeps its static predicates.
use Rattle.std.proofs.Common.{◌≡◌, ℕ, suc, ◌+◌, Bool, true, false, not, ◌&&◌, ◌⊎◌, inl, inr, List, [], ◌∷◌, ◌++◌, map, length, get_or, Option, refl, sym, ap, ◌∙◌, subst, arith}
use Rattle.std.specs.Prelude.{unwrap_or}
use Rattle.std.specs.List.{list_any, flat_map, All}
use Rattle.std.specs.Option.{option_map}
use Rattle.std.proofs.lemmas.Bool.{and_parts, true≢false, not-true}
use Rattle.std.proofs.Math.Bool.{and-false}
use Rattle.pddl_syntax.specs.declared.types.Action.{Action}
use Rattle.pddl_syntax.specs.declared.types.Atom.{Atom}
use Rattle.pddl_syntax.specs.declared.types.Domain.{Domain}
use Rattle.pddl_syntax.specs.declared.types.Effect.{Effect}
use Rattle.pddl_syntax.specs.declared.types.Named.{Named}
use Rattle.pddl_syntax.specs.declared.types.Problem.{Problem}
use Rattle.pddl_syntax.specs.Words.{Name, is_same}
use Rattle.pddl_syntax.specs.Holds as holds
use Rattle.pddl_syntax.proofs.ConditionCases.{Each}
use Rattle.pddl_syntax.proofs.Steps.{name_same}
use Rattle.fault_positions.specs.Mentions.{Mention, Variables, Derives, Asked, Written, Function, Compared, written_predicates, in_condition, in_effect, effect_step, in_action}
use Rattle.type_checker.specs.Faults.{check_faults}
use Rattle.lists.proofs.Items.{Among, among_at, among_left, among_right, among_which, map_source, all_passes, any_passes, within_left}
use Rattle.normal_task.specs.declared.task.EffectRow.{EffectRow}
use Rattle.normal_task.specs.declared.task.PredicateRow.{PredicateRow}
use Rattle.normal_task.specs.declared.task.Schema.{Schema}
use Rattle.normal_task.specs.Numbers.{predicate_number, ranges_of}
use Rattle.normal_task.specs.declared.parts.Fresh.{Fresh}
use Rattle.normal_task.specs.declared.parts.Part.{Part}
use Rattle.normal_task.specs.Parts.{Scope, Made, in_turn}
use Rattle.normal_task.specs.Normalised.{Rows, effect_row, written, row_with_variables, row_step, rows_of, moved_row, schema, precondition_parts, effect_rows, schemas, fresh_predicates, declared_row, is_changed, all_fresh, normal}
use Rattle.normal_task.proofs.MadeInTurn.{maker}
use Rattle.normal_task.proofs.Mentioned.{is_declared, is_known_mention}
use Rattle.type_checker.proofs.EffectFolds.{by_folds}
use Rattle.normal_task.proofs.FullStatesMatch.{heads-length, number-below, head-told}
use Rattle.normal_task.proofs.Faultless.{action_mentioned}
use Rattle.ground_task.specs.GroundTask.{is_fixed}
use Rattle.ground_task.specs.Statics.{KeepsStatics}

pub all_if : {X : Type 0} (P : X → Type 0) (xs : List X) → ((x : X) → Among x xs → P x) → All P xs
all_if P xs each k d below = each (get_or xs k d) (among_at xs k d below)

module _ (domain : Domain) (problem : Problem) where
  -- the predicate is written by what is mentioned
  pub record IsWritten (mentions : List Mention) (predicate : ℕ) : Type 0 where
    pub mention : Mention
    pub among : Among mention mentions
    pub named : Named
    pub inside : Among named (written_predicates mention)
    pub same : predicate_number domain named.name ≡ predicate

  wider : (xs ys : List Mention) → ((m : Mention) → Among m xs → Among m ys) → (predicate : ℕ) → IsWritten xs predicate → IsWritten ys predicate
  wider xs ys more predicate is = record { mention = is.mention; among = more is.mention is.among; named = is.named; inside = is.inside; same = is.same }

  abbrev OnWritten : Rows domain problem → Unit {0} → Unit {0} → List Mention → Type 0
  OnWritten rows unused unused' mentions =
      (required : List (ℕ → ℕ → Made Part)) (scope : Scope) (around next : ℕ) (row : EffectRow) → Among row (rows required scope around next).items → IsWritten mentions row.predicate

  abbrev On : Effect → Type 0
  On effect = OnWritten (rows_of domain problem effect) tt tt (in_effect effect)

  on_atom : (adds : Bool) (atom : Atom) → OnWritten (written domain problem adds atom) tt tt (Written atom ∷ [])
  on_atom adds atom required scope around next row among =
      let from = map_source (effect_row domain problem adds atom scope) _ row among in
      record { mention = Written atom; among = inl refl; named = atom.predicate; inside = inl refl; same = ap (λ (r : EffectRow). r.predicate) from.gives }

  on_members : (members : List Effect) → Each On members → (required : List (ℕ → ℕ → Made Part)) (scope : Scope) (around next : ℕ) (row : EffectRow) →
      Among row (in_turn (map (λ member. member required scope around) (map (rows_of domain problem) members)) next).items → IsWritten (flat_map (λ mentions. mentions) (map in_effect members)) row.predicate
  on_members [] each required scope around next row among = absurd among
  on_members (member ∷ members) each required scope around next row among =
      by (on_members members each.1 required scope around later row) (among_which row first.items (in_turn (map (λ member. member required scope around) (map (rows_of domain problem) members)) later).items among)
    where
      first : Made EffectRow
      first = rows_of domain problem member required scope around next

      later : ℕ
      later = next + length first.fresh

      rest : List Mention
      rest = flat_map (λ mentions. mentions) (map in_effect members)

      by : (Among row (in_turn (map (λ member. member required scope around) (map (rows_of domain problem) members)) later).items → IsWritten rest row.predicate) →
          Among row first.items ⊎ Among row (in_turn (map (λ member. member required scope around) (map (rows_of domain problem) members)) later).items → IsWritten (in_effect member ++ rest) row.predicate
      by behind (inl here) = wider (in_effect member) (in_effect member ++ rest) (λ m among. among_left m (in_effect member) rest among) row.predicate (each.0 required scope around next row here)
      by behind (inr there) = wider rest (in_effect member ++ rest) (λ m among. among_right m (in_effect member) rest among) row.predicate (behind there)

  pub on_effect : (effect : Effect) → On effect
  on_effect = by_folds (Rows domain problem) (Unit {0}) (Unit {0}) (List Mention) (row_step domain problem) (λ layer. tt) (λ layer. tt) effect_step OnWritten record {
    at_nothing = λ at required scope around next row among. absurd among;
    at_add = λ atom. on_atom true atom;
    at_delete = λ atom. on_atom false atom;
    at_and = λ members at held required scope around next row among. on_members members held required scope around next row among;
    at_when = λ condition inside at held required scope around next row among.
        wider (in_effect inside) (in_condition condition ++ in_effect inside) (λ m among. among_right m (in_condition condition) (in_effect inside) among) row.predicate (held _ scope around next row among);
    at_forall = λ variables inside at held required scope around next row among.
        let from = map_source (row_with_variables domain problem (ranges_of domain problem variables)) _ row among in
        let here = held required _ _ next from.source from.among in
        subst (IsWritten (Variables variables ∷ in_effect inside)) (ap (λ (r : EffectRow). r.predicate) from.gives)
        (wider (in_effect inside) (Variables variables ∷ in_effect inside) (λ m among. inr among) from.source.predicate here);
    at_increase = λ term cost at required scope around next row among. absurd among;
  }

  -- ---- rows of predicates

  abbrev stays : Name → Bool
  stays name = not (holds.is_derived domain name) && not (is_changed domain problem name)

  fixed_is : (name : Name) → is_declared domain problem name ≡ true → is_fixed (normal domain problem).predicates (predicate_number domain name) ≡ stays name
  fixed_is name known =
      ap (λ (o : Option PredicateRow). unwrap_or (option_map (λ (row : PredicateRow). row.fixed) o) false)
      (within_left (map (declared_row domain problem) domain.predicates) (fresh_predicates domain problem 0 (all_fresh domain problem)) (predicate_number domain name) (omega (arith, heads-length domain problem, number-below domain problem name known)))
      ∙ head-told domain problem (λ row. row.fixed) stays (λ head. refl) domain.predicates name known

  -- ---- no effect is on a static predicate

  pub named_declared : (mention : Mention) (named : Named) → Among named (written_predicates mention) → is_known_mention domain problem mention ≡ true → is_declared domain problem named.name ≡ true
  named_declared (Variables variables) named among known = absurd among
  named_declared (Derives head) named among known = absurd among
  named_declared (Asked atom) named among known = absurd among
  named_declared (Function term) named among known = absurd among
  named_declared (Compared left right) named among known = absurd among
  named_declared (Written atom) named (inr none) known = absurd none
  named_declared (Written atom) named (inl here) known =
      ap (λ (n : Named). is_declared domain problem n.name) (sym here)
      ∙ (and_parts (is_declared domain problem atom.predicate.name) true (and_parts (is_declared domain problem atom.predicate.name && true) _ known).0).0

  changed_by : (action : Action) → Among action domain.actions → (predicate : ℕ) → (is : IsWritten (in_effect action.effect) predicate) → is_changed domain problem is.named.name ≡ true
  changed_by action among predicate is =
      any_passes (λ (a : Action). list_any (λ mention. list_any (λ (named : Named). is_same named.name is.named.name) (written_predicates mention)) (in_effect a.effect)) action domain.actions among
      (any_passes (λ mention. list_any (λ (named : Named). is_same named.name is.named.name) (written_predicates mention)) is.mention (in_effect action.effect) is.among
      (any_passes (λ (named : Named). is_same named.name is.named.name) is.named (written_predicates is.mention) is.inside (name_same is.named.name)))

  module _ (none : check_faults domain problem ≡ []) where
    effect_free : (made : Schema) → Among made (normal domain problem).schemas → (row : EffectRow) → Among row made.effects → is_fixed (normal domain problem).predicates row.predicate ≡ false
    effect_free made among row among_row =
        let turn = maker (schemas domain problem) domain.actions 0 made among in
        let action = turn.source in
        let later = turn.next + length (precondition_parts domain problem action turn.next).fresh in
        let rows = (effect_rows domain problem action later).items in
        let from = map_source (schema domain problem action rows) (precondition_parts domain problem action turn.next).items made turn.inside in
        let among' = subst (λ (s : Schema). Among row s.effects) (sym from.gives) among_row in
        let moved = map_source (moved_row domain problem (length action.parameters) (length from.source.variables)) rows row among' in
        let is = on_effect action.effect _ _ _ later moved.source moved.among in
        let known = all_passes (is_known_mention domain problem) is.mention (in_action action)
        (inr (among_right is.mention (in_condition action.precondition) (in_effect action.effect) is.among)) (action_mentioned domain problem none action turn.among) in
        let declared = named_declared is.mention is.named is.inside known in
        ap (λ (r : EffectRow). is_fixed (normal domain problem).predicates r.predicate) (sym moved.gives)
        ∙ ap (is_fixed (normal domain problem).predicates) (sym is.same)
        ∙ fixed_is is.named.name declared
        ∙ ap (λ b. not (holds.is_derived domain is.named.name) && not b) (changed_by action turn.among moved.source.predicate is)
        ∙ and-false (not (holds.is_derived domain is.named.name))

    abbrev IsBasicRow : PredicateRow → Type 0
    IsBasicRow row = row.fixed ≡ true → row.derived ≡ false

    fresh_basic : (next : ℕ) (fresh : List Fresh) (row : PredicateRow) → Among row (fresh_predicates domain problem next fresh) → IsBasicRow row
    fresh_basic next [] row among = absurd among
    fresh_basic next (first ∷ fresh) row (inl here) = λ fixed. absurd (true≢false (sym fixed ∙ ap (λ (r : PredicateRow). r.fixed) (sym here)))
    fresh_basic next (first ∷ fresh) row (inr there) = fresh_basic (suc next) fresh row there

    head_basic : (row : PredicateRow) → Among row (map (declared_row domain problem) domain.predicates) → IsBasicRow row
    head_basic row among fixed =
        let from = map_source (declared_row domain problem) domain.predicates row among in
        let both = ap (λ (r : PredicateRow). r.fixed) from.gives ∙ fixed in
        ap (λ (r : PredicateRow). r.derived) (sym from.gives) ∙ not-true (holds.is_derived domain from.source.name.name) (and_parts (not (holds.is_derived domain from.source.name.name)) _ both).0

    -- no effect is on a static predicate, and none is derived
    pub statics_kept : KeepsStatics (normal domain problem)
    statics_kept = record {
      basic = all_if IsBasicRow (normal domain problem).predicates
          (λ row among. by row (among_which row (map (declared_row domain problem) domain.predicates) (fresh_predicates domain problem 0 (all_fresh domain problem)) among));
      effects = all_if _ (normal domain problem).schemas (λ made among. all_if _ made.effects (λ row among_row. effect_free made among row among_row));
    }
      where
        by : (row : PredicateRow) → Among row (map (declared_row domain problem) domain.predicates) ⊎ Among row (fresh_predicates domain problem 0 (all_fresh domain problem)) → IsBasicRow row
        by row (inl head) = head_basic row head
        by row (inr fresh) = fresh_basic 0 (all_fresh domain problem) row fresh
