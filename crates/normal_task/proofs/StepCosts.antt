-- Steps of the normal task of a checked pair that have one name have one cost.
use Rattle.std.proofs.Common.{◌≡◌, ℕ, ◌+◌, true, false, List, [], ◌∷◌, ◌++◌, map, take, length, sym, ap, ap₂, ◌∙◌, subst, inl, inr}
use Rattle.std.specs.Prelude.{Contains}
use Rattle.std.specs.List.{list_all, IsDistinct}
use Rattle.std.proofs.lemmas.Bool.{false≢true}
use Rattle.std.proofs.lemmas.List.Elements.{All-contains}
use Rattle.std.proofs.lemmas.Map.Keys.{IsDistinct-head, IsDistinct-tail}
use Rattle.std.proofs.Math.Seq.{take-append_seam}
use Rattle.lists.proofs.Items.{Among, among_contains, contains_among, map_source, all_passes, passing}
use Rattle.pddl_syntax.specs.declared.types.Action.{Action}
use Rattle.pddl_syntax.specs.declared.types.Domain.{Domain}
use Rattle.pddl_syntax.specs.declared.types.Problem.{Problem}
use Rattle.pddl_syntax.specs.Words.{Name, is_same}
use Rattle.pddl_syntax.specs.Objects as pddl
use Rattle.pddl_syntax.specs.Spelled.{IsSpelled, IsWellSpelled, IsWellSpelledProblem}
use Rattle.pddl_syntax.specs.Step as step
use Rattle.pddl_syntax.proofs.SameAtoms.{same_name}
use Rattle.type_checker.specs.Faults.{check_faults}
use Rattle.normal_task.specs.declared.task.Schema.{Schema}
use Rattle.normal_task.specs.Lawful.{is_word}
use Rattle.normal_task.specs.Meaning as task
use Rattle.normal_task.specs.Meaning.{normal_task}
use Rattle.normal_task.specs.Normalised.{effect_rows, precondition_parts, schema, schemas}
use Rattle.normal_task.specs.Numbers.{object_names, ranges_of, range_of}
use Rattle.normal_task.specs.TellCosts.{NamesTellCosts}
use Rattle.normal_task.proofs.Alls.{all-weaker}
use Rattle.normal_task.proofs.Chosen.{is_choice}
use Rattle.normal_task.proofs.Costs.{same-cost}
use Rattle.normal_task.proofs.CutNames.{cut_name}
use Rattle.normal_task.proofs.FullStatesMatch.{planning, num, choices-known}
use Rattle.normal_task.proofs.MadeInTurn.{maker}
use Rattle.normal_task.proofs.NameWords.{spelled-word, objects-words}
use Rattle.normal_task.proofs.PredicateTable.{passes_all}
use Rattle.normal_task.proofs.Scopes.{is_known, length-map}
use Rattle.normal_task.proofs.Steps.{split-choice, choice-length, is_normal_step, names-choice, shown-names}
use Rattle.pddl_syntax.proofs.Steps.{name_same}

-- ---- items that their names tell apart

same_told : (a b : Name) → a ≡ b → is_same a b ≡ false → ⊥
same_told a b same apart = false≢true (sym apart ∙ subst (λ (n : Name). is_same a n ≡ true) same (name_same a))

one_of_a_name : {X : Type 0} (name_of : X → Name) (xs : List X) (a b : X) → IsDistinct is_same (map name_of xs) → Among a xs → Among b xs → name_of a ≡ name_of b → a ≡ b
one_of_a_name name_of [] a b distinct in-a in-b same = absurd in-a
one_of_a_name name_of (x ∷ xs) a b distinct (inl here) (inl here') same = sym here ∙ here'
one_of_a_name name_of (x ∷ xs) a b distinct (inl here) (inr there) same =
    absurd (same_told (name_of x) (name_of b) (ap name_of here ∙ same) (passes_all (λ name. is_same (name_of x) name ≡ false) name_of xs b (IsDistinct-head is_same (name_of x) (map name_of xs) distinct) there))
one_of_a_name name_of (x ∷ xs) a b distinct (inr there) (inl here) same =
    absurd (same_told (name_of x) (name_of a) (ap name_of here ∙ sym same) (passes_all (λ name. is_same (name_of x) name ≡ false) name_of xs a (IsDistinct-head is_same (name_of x) (map name_of xs) distinct) there))
one_of_a_name name_of (x ∷ xs) a b distinct (inr there) (inr there') same = one_of_a_name name_of xs a b (IsDistinct-tail is_same (name_of x) (map name_of xs) distinct) there there' same

module _ (domain : Domain) (problem : Problem) (none : check_faults domain problem ≡ []) where
  -- ---- the step of the files, whether it can be taken or not

  -- an action of the domain with objects has the step's name and its cost
  pub record OfFiles (taken : task.Step) : Type 0 where
    pub action : Action
    pub among : Among action domain.actions
    pub objects : List Name
    pub chosen : Among objects (pddl.choices domain problem action.parameters)
    pub named : task.name_of (planning domain problem) taken ≡ step.shown action.name.name objects
    pub costs : task.value_of (planning domain problem) taken.objects taken.schema.cost ≡ step.action_cost problem (pddl.bound action.parameters objects []) action

  pub of_files : (taken : task.Step) → Contains (normal_task (planning domain problem)).steps taken → OfFiles taken
  of_files taken contained =
      let is = is_normal_step (planning domain problem) taken contained in
      let here = maker (schemas domain problem) domain.actions 0 taken.schema (among_contains (planning domain problem).schemas taken.schema is.declared) in
      let action = here.source in
      let parts = precondition_parts domain problem action here.next in
      let rows = (effect_rows domain problem action (here.next + length parts.fresh)).items in
      let part = map_source (schema domain problem action rows) parts.items taken.schema here.inside in
      let split = split-choice (ranges_of domain problem action.parameters) part.source.variables taken.objects (subst (λ (s : Schema). is_choice s.parameters taken.objects ≡ true) (sym part.gives) is.typed) in
      let named_choice = names-choice domain problem action.parameters split.first split.of_first in
      let names = named_choice.names in
      let numbers = map (num domain problem) names in
      let whole : numbers ++ split.second ≡ taken.objects = ap (λ (os : List ℕ). os ++ split.second) named_choice.same ∙ split.whole in
      let made : task.Step = record { schema = schema domain problem action rows part.source; objects = numbers ++ split.second } in
      let same : made ≡ taken = ap (λ (os : List ℕ). record { schema = schema domain problem action rows part.source; objects = os }) whole ∙ ap (λ (s : Schema). record { schema = s; objects = taken.objects }) part.gives in
      let long : length numbers ≡ length action.parameters =
      ap length named_choice.same ∙ choice-length (ranges_of domain problem action.parameters) split.first split.of_first ∙ length-map (range_of domain problem) action.parameters in
      let shows : take (length action.parameters) (numbers ++ split.second) ≡ numbers = ap (λ (n : ℕ). take n (numbers ++ split.second)) (sym long) ∙ take-append_seam numbers split.second in
      record {
        action = action;
        among = here.among;
        objects = names;
        chosen = named_choice.among;
        named = ap (task.name_of (planning domain problem)) (sym same) ∙ ap (λ (os : List ℕ). step.shown action.name.name (map (task.object_name (planning domain problem)) os)) shows
            ∙ ap (step.shown action.name.name) (shown-names domain problem names (choices-known domain problem action.parameters names named_choice.among));
        costs = ap (λ (s : task.Step). task.value_of (planning domain problem) s.objects s.schema.cost) (sym same) ∙ same-cost domain problem none action here.among names named_choice.among split.second;
      }

  -- ---- names

  module _ (spelled : IsWellSpelled domain) (spelled_problem : IsWellSpelledProblem problem) (distinct : IsDistinct is_same (map (λ (action : Action). action.name.name) domain.actions)) where
    action_word : (action : Action) → Among action domain.actions → is_word action.name.name ≡ true
    action_word action among = spelled-word action.name (All-contains (λ (a : Action). IsSpelled a.name) domain.actions action spelled.actions (contains_among domain.actions action among))

    known_word : (name : Name) → is_known domain problem name ≡ true → is_word name ≡ true
    known_word name known =
        let found = passing (is_same name) (object_names domain problem) known in
        subst (λ (n : Name). is_word n ≡ true) (sym (same_name name found.item found.passes)) (all_passes is_word found.item (object_names domain problem) found.among (objects-words domain problem spelled spelled_problem))

    object_words : (action : Action) (objects : List Name) → Among objects (pddl.choices domain problem action.parameters) → list_all is_word objects ≡ true
    object_words action objects chosen = all-weaker (is_known domain problem) is_word known_word objects (choices-known domain problem action.parameters objects chosen)

    -- the name tells the action and the objects, and so the cost
    pub names_tell : NamesTellCosts (normal_task (planning domain problem))
    names_tell one other in-one in-other same =
        let a = of_files one in-one in
        let b = of_files other in-other in
        let cut = cut_name a.action.name.name b.action.name.name a.objects b.objects (action_word a.action a.among) (action_word b.action b.among) (object_words a.action a.objects a.chosen) (object_words b.action b.objects b.chosen)
        (sym a.named ∙ same ∙ b.named) in
        let same_action = one_of_a_name (λ (action : Action). action.name.name) domain.actions a.action b.action distinct a.among b.among cut.0 in
        a.costs ∙ ap₂ (λ (action : Action) (objects : List Name). step.action_cost problem (pddl.bound action.parameters objects []) action) same_action cut.1 ∙ sym b.costs
