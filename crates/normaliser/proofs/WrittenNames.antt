-- The predicates that an effect is on, beside what it mentions.
use Rattle.std.proofs.Common.{◌≡◌, ℕ, suc, ◌+◌, ◌<◌, Bool, true, false, not, ◌&&◌, ◌||◌, List, [], ◌∷◌, ◌++◌, map, take, length, get_or, codes, decimal, refl, sym, ap, ◌∙◌, append_assoc, arith}
use Rattle.std.specs.List.{list_any, flat_map}
use Rattle.pddl_syntax.specs.declared.types.Action.{Action}
use Rattle.pddl_syntax.specs.declared.types.Condition.{Condition}
use Rattle.pddl_syntax.specs.declared.types.Cost.{Cost}
use Rattle.pddl_syntax.specs.declared.types.Cost.TheVariants as costs
use Rattle.pddl_syntax.specs.declared.types.Derived.{Derived}
use Rattle.pddl_syntax.specs.declared.types.Domain.{Domain}
use Rattle.pddl_syntax.specs.declared.types.Effect.{Effect}
use Rattle.pddl_syntax.specs.declared.types.Head.{Head}
use Rattle.pddl_syntax.specs.declared.types.Named.{Named}
use Rattle.pddl_syntax.specs.declared.types.Problem.{Problem}
use Rattle.pddl_syntax.specs.Holds.{is_derived}
use Rattle.pddl_syntax.specs.Words.{Name, is_same}
use Rattle.pddl_syntax.proofs.ConditionCases as c
use Rattle.pddl_syntax.proofs.ConditionCases.{Each, condition_by_cases}
use Rattle.pddl_syntax.proofs.EffectCases as e
use Rattle.pddl_syntax.proofs.EffectCases.{effect_by_cases}
use Rattle.std.proofs.lemmas.Bool.{or_from}
use Rattle.lists.proofs.Items.{any_append, same_any, same_map}
use Rattle.std.proofs.lemmas.List.{length-take-le}
use Rattle.lists.proofs.LoopSteps.{take_next}
use Rattle.fault_positions.specs.Arguments.{AreThose}
use Rattle.fault_positions.specs.Mentions.{Mention, written_predicates, in_condition, condition_step, in_cost, in_effect, effect_step}
use Rattle.normal_task.specs.declared.parts.Fresh.{Fresh}
use Rattle.normal_task.specs.declared.task.PredicateRow.{PredicateRow}
use Rattle.normaliser.specs.Rows.{row_of}
use Rattle.normaliser.specs.IsWritten.{is_written, is_written_step}
use Rattle.normal_task.specs.Normalised.{is_changed, declared_row, fresh_predicates}

module _ (name : Name) where
  abbrev is_on : Mention → Bool
  is_on mention = list_any (λ (named : Named). is_same named.name name) (written_predicates mention)

  abbrev WritesNone : Condition → Type 0
  WritesNone condition = list_any is_on (in_condition condition) ≡ false

  members-none : (members : List Condition) → Each WritesNone members → list_any is_on (flat_map (λ mentions. mentions) (map in_condition members)) ≡ false
  members-none [] each = refl
  members-none (member ∷ members) each =
      any_append is_on (in_condition member) (flat_map (λ mentions. mentions) (map in_condition members))
      ∙ or_from (list_any is_on (in_condition member)) (list_any is_on (flat_map (λ mentions. mentions) (map in_condition members))) each.0 (members-none members each.1)

  -- a condition writes nothing
  condition-none : (condition : Condition) → WritesNone condition
  condition-none = condition_by_cases WritesNone record {
    at_true = λ at. ap (list_any is_on) (c.fold-True (List Mention) condition_step at);
    at_atom = λ atom. ap (list_any is_on) (c.fold-Atom (List Mention) condition_step atom);
    at_equal = λ left right at. ap (list_any is_on) (c.fold-Equal (List Mention) condition_step left right at);
    at_not = λ inside at held. ap (list_any is_on) (c.fold-Not (List Mention) condition_step inside at) ∙ held;
    at_and = λ members at held. ap (list_any is_on) (c.fold-And (List Mention) condition_step members at) ∙ members-none members held;
    at_or = λ members at held. ap (list_any is_on) (c.fold-Or (List Mention) condition_step members at) ∙ members-none members held;
    at_imply = λ premise conclusion at held held_too.
        ap (list_any is_on) (c.fold-Imply (List Mention) condition_step premise conclusion at)
        ∙ any_append is_on (in_condition premise) (in_condition conclusion)
        ∙ or_from (list_any is_on (in_condition premise)) (list_any is_on (in_condition conclusion)) held held_too;
    at_forall = λ variables inside at held. ap (list_any is_on) (c.fold-Forall (List Mention) condition_step variables inside at) ∙ held;
    at_exists = λ variables inside at held. ap (list_any is_on) (c.fold-Exists (List Mention) condition_step variables inside at) ∙ held;
  }

  abbrev Tells : Effect → Type 0
  Tells effect = list_any is_on (in_effect effect) ≡ is_written effect name

  one : (b : Bool) → ((b || false) || false) ≡ b
  one true = refl
  one false = refl

  members-tell : (members : List Effect) → Each Tells members → list_any is_on (flat_map (λ mentions. mentions) (map in_effect members)) ≡ list_any (λ member. member name) (map is_written members)
  members-tell [] each = refl
  members-tell (member ∷ members) each =
      any_append is_on (in_effect member) (flat_map (λ mentions. mentions) (map in_effect members))
      ∙ ap (λ b. b || list_any is_on (flat_map (λ mentions. mentions) (map in_effect members))) each.0
      ∙ ap (λ b. is_written member name || b) (members-tell members each.1)

  cost-none : (cost : Cost) → list_any is_on (in_cost cost) ≡ false
  cost-none (costs.Number number) = refl
  cost-none (costs.Term term) = refl

  effect-tells : (effect : Effect) → Tells effect
  effect-tells = effect_by_cases Tells record {
    at_nothing = λ at. ap (list_any is_on) (e.fold-Nothing (List Mention) effect_step at) ∙ sym (ap (λ (test : Name → Bool). test name) (e.fold-Nothing (Name → Bool) is_written_step at));
    at_add = λ atom.
        ap (list_any is_on) (e.fold-Add (List Mention) effect_step atom) ∙ one (is_same atom.predicate.name name)
        ∙ sym (ap (λ (test : Name → Bool). test name) (e.fold-Add (Name → Bool) is_written_step atom));
    at_delete = λ atom.
        ap (list_any is_on) (e.fold-Delete (List Mention) effect_step atom) ∙ one (is_same atom.predicate.name name)
        ∙ sym (ap (λ (test : Name → Bool). test name) (e.fold-Delete (Name → Bool) is_written_step atom));
    at_and = λ members at held.
        ap (list_any is_on) (e.fold-And (List Mention) effect_step members at) ∙ members-tell members held
        ∙ sym (ap (λ (test : Name → Bool). test name) (e.fold-And (Name → Bool) is_written_step members at));
    at_when = λ condition inside at held.
        ap (list_any is_on) (e.fold-When (List Mention) effect_step condition inside at)
        ∙ any_append is_on (in_condition condition) (in_effect inside) ∙ ap (λ b. b || list_any is_on (in_effect inside)) (condition-none condition) ∙ held
        ∙ sym (ap (λ (test : Name → Bool). test name) (e.fold-When (Name → Bool) is_written_step condition inside at));
    at_forall = λ variables inside at held.
        ap (list_any is_on) (e.fold-Forall (List Mention) effect_step variables inside at) ∙ held
        ∙ sym (ap (λ (test : Name → Bool). test name) (e.fold-Forall (Name → Bool) is_written_step variables inside at));
    at_increase = λ term cost at.
        ap (list_any is_on) (e.fold-Increase (List Mention) effect_step term cost at) ∙ cost-none cost
        ∙ sym (ap (λ (test : Name → Bool). test name) (e.fold-Increase (Name → Bool) is_written_step term cost at));
  }

module _ (domain : Domain) (problem : Problem) where
  changed-is : (name : Name) → list_any (λ (action : Action). is_written action.effect name) domain.actions ≡ is_changed domain problem name
  changed-is name =
      sym (same_any (λ (action : Action). list_any (is_on name) (in_effect action.effect)) (λ (action : Action). is_written action.effect name) domain.actions
      (λ (action : Action) _. effect-tells name action.effect))

  pub row-is : (derived changed : List Name) → AreThose (is_derived domain) derived → AreThose (λ name. list_any (λ (action : Action). is_written action.effect name) domain.actions) changed →
      (heads : List Head) → map (row_of derived changed) heads ≡ map (declared_row domain problem) heads
  row-is derived changed those_derived those_changed heads = same_map (row_of derived changed) (declared_row domain problem) heads (λ (head : Head) _. one_row head)
    where
      one_row : (head : Head) → row_of derived changed head ≡ declared_row domain problem head
      one_row head =
          ap (λ (b : Bool). record { name = head.name.name; arity = length head.variables; derived = b; fixed = not b && not (list_any (is_same head.name.name) changed) }) (those_derived head.name.name)
          ∙ ap (λ (b : Bool). record { name = head.name.name; arity = length head.variables; derived = is_derived domain head.name.name; fixed = not (is_derived domain head.name.name) && not b }) (those_changed head.name.name ∙ changed-is head.name.name)

  pub rows-are : (axioms : List Derived) (actions : List Action) (heads : List Head) → axioms ≡ domain.axioms → actions ≡ domain.actions → heads ≡ domain.predicates →
      (derived changed : List Name) → AreThose (λ name. list_any (λ (rule : Derived). is_same rule.head.name.name name) axioms) derived →
      AreThose (λ name. list_any (λ (action : Action). is_written action.effect name) actions) changed →
      (rows : List PredicateRow) → rows ≡ map (row_of derived changed) heads → (more : List PredicateRow) → rows ++ more ≡ map (declared_row domain problem) domain.predicates ++ more
  rows-are axioms actions heads same_axioms same_actions same_heads derived changed those_derived those_changed rows are more =
      ap (λ (l : List PredicateRow). l ++ more) (are
      ∙ row-is derived changed (λ name. those_derived name ∙ ap (λ (l : List Derived). list_any (λ rule. is_same rule.head.name.name name) l) same_axioms)
      (λ name. those_changed name ∙ ap (λ (l : List Action). list_any (λ action. is_written action.effect name) l) same_actions) heads
      ∙ ap (map (declared_row domain problem)) same_heads)

  -- the row of a new predicate
  abbrev pub fresh_row : ℕ → Fresh → PredicateRow
  fresh_row next fresh = record { name = codes "new-axiom@" ++ decimal next; arity = length fresh.arguments; derived = true; fixed = false }

  fresh-last : (next : ℕ) (list : List Fresh) (fresh : Fresh) → fresh_predicates domain problem next (list ++ fresh ∷ []) ≡ fresh_predicates domain problem next list ++ fresh_row (next + length list) fresh ∷ []
  fresh-last next [] fresh =
      let same : next ≡ next + length {A = Fresh} [] = omega arith in
      ap (λ (n : ℕ). fresh_row n fresh ∷ []) same
  fresh-last next (first ∷ list) fresh =
      let same : suc next + length list ≡ next + length (first ∷ list) = omega arith in
      ap (λ (rows : List PredicateRow). fresh_row next first ∷ rows) (fresh-last (suc next) list fresh ∙ ap (λ (n : ℕ). fresh_predicates domain problem (suc next) list ++ fresh_row n fresh ∷ []) same)

  pub fresh-more : (list : List Fresh) (i : ℕ) (fresh : Fresh) → i < length list → fresh ≡ get_or list i fresh → (start before after : List PredicateRow) →
      before ≡ start ++ fresh_predicates domain problem 0 (take i list) → after ≡ before ++ fresh_row i fresh ∷ [] → after ≡ start ++ fresh_predicates domain problem 0 (take (i + 1) list)
  fresh-more list i fresh within is start before after held made =
      let prefix : length (take i list) ≡ i = length-take-le i list (omega (arith, within)) in
      let at : 0 + length (take i list) ≡ i = omega (arith, prefix) in
      made ∙ ap (λ (rows : List PredicateRow). rows ++ fresh_row i fresh ∷ []) held
      ∙ append_assoc start (fresh_predicates domain problem 0 (take i list)) (fresh_row i fresh ∷ [])
      ∙ ap (λ (n : ℕ). start ++ (fresh_predicates domain problem 0 (take i list) ++ fresh_row n fresh ∷ [])) (sym at)
      ∙ ap (λ (rows : List PredicateRow). start ++ rows) (sym (fresh-last 0 (take i list) fresh))
      ∙ ap (λ (rows : List Fresh). start ++ fresh_predicates domain problem 0 rows) (sym (take_next list i fresh within is))
