-- Steps of the files and of the normal task: each of the one is followed by one of the other.
use Rattle.std.proofs.Common.{◌≡◌, ℕ, suc, ◌+◌, Bool, true, false, not, ◌&&◌, ◌||◌, List, [], ◌∷◌, ◌++◌, map, take, length, get_or, refl, sym, ap, ◌∙◌, subst, arith}
use Rattle.std.specs.Prelude.{nat_eq, if◌then◌else◌, unwrap_or, IsSome, IsTrue}
use Rattle.std.specs.List.{list_all, list_any, flat_map, Contains}
use Rattle.std.specs.Cmp.Lexicographic.{pointwise}
use Rattle.std.proofs.lemmas.Bool.{and_parts, and_from, false≢true}
use Rattle.std.proofs.lemmas.Cmp.{nat_list_eq_equiv, lists_equiv}
use Rattle.std.proofs.Math.Seq.{take-append_seam}
use Rattle.lists.specs.Members.{is_among}
use Rattle.planning.specs.Task.{IsFull, Takes, cost, successor}
use Rattle.runs.specs.Systems.{HasStep}
use Rattle.planning.specs.Plan.{system}
use Rattle.pddl_syntax.specs.declared.types.Action.{Action}
use Rattle.pddl_syntax.specs.declared.types.Domain.{Domain}
use Rattle.pddl_syntax.specs.declared.types.Problem.{Problem}
use Rattle.pddl_syntax.specs.declared.types.Typed.{Typed}
use Rattle.pddl_syntax.specs.Words.{Name, is_same}
use Rattle.pddl_syntax.specs.Objects as pddl
use Rattle.pddl_syntax.specs.Holds as holds
use Rattle.pddl_syntax.specs.Step as step
use Rattle.pddl_syntax.specs.Plan.{pddl_task}
use Rattle.pddl_syntax.proofs.ConditionCases.{Each}
use Rattle.pddl_syntax.proofs.SameAtoms.{same_name}
use Rattle.fault_positions.specs.Mentions.{in_condition, in_effect, in_action}
use Rattle.fault_positions.specs.Scopes as scopes
use Rattle.type_checker.proofs.NoFaults.{left_empty, right_empty}
use Rattle.lists.proofs.Items.{Among, among_map, map_source, any_passes, passing}
use Rattle.normal_task.specs.declared.task.EffectRow.{EffectRow}
use Rattle.normal_task.specs.declared.task.GroundAtom.{GroundAtom}
use Rattle.normal_task.specs.declared.task.Normal.{Normal}
use Rattle.normal_task.specs.declared.task.Schema.{Schema}
use Rattle.normal_task.specs.Numbers.{number_in, object_names, ranges_of}
use Rattle.normal_task.specs.Meaning as task
use Rattle.normal_task.specs.Meaning.{normal_task, steps_of, atom_of, State, Binding, objects_at, choices, answers, are_met}
use Rattle.normal_task.proofs.Chosen.{is_choice}
use Rattle.normal_task.specs.Parts.{moved, Part, known}
use Rattle.normal_task.specs.Normalised.{numbered_atom, parameter_scope, rows_of, action_cost, moved_row, schema, precondition_parts, effect_rows, schemas, made_schemas, made_axioms, made_goal}
use Rattle.normal_task.specs.Same.{is_known_atom, Shows}
use Rattle.normal_task.proofs.Anys.{any-map, any-same}
use Rattle.normal_task.proofs.Alls.{all-left, all-right}
use Rattle.normal_task.proofs.Chosen.{choice-any}
use Rattle.normal_task.proofs.Mentioned.{is_known_mention, AreKnown}
use Rattle.normal_task.proofs.Scopes.{append-assoc, length-map, choice-append, is_known, inside-stands}
use Rattle.normal_task.proofs.Fits.{fresh_fit}
use Rattle.normal_task.proofs.PartsMean.{some_part, part_met, GivenAt, GivenIn, numbered-left, numbered-right, all-met-moved, moved-places}
use Rattle.normal_task.proofs.ConditionsMean.{choices-numbers, ShowsFull, condition-means, named-choice-length}
use Rattle.normal_task.proofs.Bound.{in-inside, free-bound}
use Rattle.normal_task.proofs.EffectsMean.{StandAll, effect-means}
use Rattle.normal_task.proofs.FullStatesMatch.{declared, planning, num, fresh_all, RuleSound, choices-known, chosen, files-full, full-given, given-of_all}
use Rattle.normal_task.proofs.Filled.{GoalSound, first_fresh, task-full}
use Rattle.lists.proofs.Items.{among_contains, contains_among, among_flat_map, flat_map_piece}
use Rattle.pddl_syntax.proofs.Steps.{is_step, in_steps}
use Rattle.normal_task.proofs.MadeInTurn.{turn, origin}

-- a choice of two lists of lists falls into a choice of each
pub record Split (xs ys : List (List ℕ)) (objects : List ℕ) : Type 0 where
  pub first : List ℕ
  pub second : List ℕ
  pub of_first : is_choice xs first ≡ true
  pub of_second : is_choice ys second ≡ true
  pub whole : first ++ second ≡ objects

pub split-choice : (xs ys : List (List ℕ)) (objects : List ℕ) → is_choice (xs ++ ys) objects ≡ true → Split xs ys objects
split-choice [] ys objects is = record { first = []; second = objects; of_first = refl; of_second = is; whole = refl }
split-choice (x ∷ xs) ys [] is = absurd cc
split-choice (x ∷ xs) ys (o ∷ objects) is =
    let parts = and_parts (list_any (nat_eq o) x) (is_choice (xs ++ ys) objects) is in
    let rest = split-choice xs ys objects parts.1 in
    record {
      first = o ∷ rest.first;
      second = rest.second;
      of_first = and_from (list_any (nat_eq o) x) (is_choice xs rest.first) parts.0 rest.of_first;
      of_second = rest.of_second;
      whole = ap (λ (l : List ℕ). o ∷ l) rest.whole;
    }

pub choice-length : (lists : List (List ℕ)) (objects : List ℕ) → is_choice lists objects ≡ true → length objects ≡ length lists
choice-length [] [] is = refl
choice-length [] (o ∷ objects) is = absurd cc
choice-length (x ∷ lists) [] is = absurd cc
choice-length (x ∷ lists) (o ∷ objects) is = ap (λ (n : ℕ). suc n) (choice-length lists objects (and_parts (list_any (nat_eq o) x) (is_choice lists objects) is).1)

pub among-choice : (lists : List (List ℕ)) (objects : List ℕ) → Among objects (choices lists) → is_choice lists objects ≡ true
among-choice lists objects there = choice-any lists objects ∙ any_passes (λ os. pointwise nat_eq os objects) objects (choices lists) there (nat_list_eq_equiv.refl objects)

pub choice-among : (lists : List (List ℕ)) (objects : List ℕ) → is_choice lists objects ≡ true → Among objects (choices lists)
choice-among lists objects is =
    let found = passing (λ os. pointwise nat_eq os objects) (choices lists) (sym (choice-any lists objects) ∙ is) in
    subst (λ (os : List ℕ). Among os (choices lists)) (same_name found.item objects found.passes) found.among

-- a step of the task is one of its schemas with an object of each parameter
pub record IsNormalStep (made : Normal) (step : task.Step) : Type 0 where
  pub declared : Contains made.schemas step.schema
  pub typed : IsTrue (is_choice step.schema.parameters step.objects)

pub is_normal_step : (made : Normal) (step : task.Step) → Contains (flat_map steps_of made.schemas) step → IsNormalStep made step
is_normal_step made step contained =
    let piece = flat_map_piece steps_of made.schemas step (among_contains (flat_map steps_of made.schemas) step contained) in
    let from = map_source (λ objects. record { schema = piece.source; objects = objects }) (choices piece.source.parameters) step piece.inside in
    let is : IsNormalStep made (record { schema = piece.source; objects = from.source }) = record {
      declared = contains_among made.schemas piece.source piece.among;
      typed = among-choice piece.source.parameters from.source from.among;
    } in
    subst (IsNormalStep made) from.gives is

pub in_normal_steps : (made : Normal) (step : task.Step) → IsNormalStep made step → Contains (flat_map steps_of made.schemas) step
in_normal_steps made step is =
    let inside = among_map (λ objects. record { schema = step.schema; objects = objects }) step.objects (choices step.schema.parameters) (choice-among step.schema.parameters step.objects is.typed) in
    contains_among (flat_map steps_of made.schemas) step (among_flat_map steps_of step.schema step made.schemas (among_contains made.schemas step.schema is.declared) inside)

-- the name with the number of a name
pub name-of_number : (names : List Name) (name other : Name) → is_among is_same names name ≡ true → get_or names (number_in names name) other ≡ name
name-of_number [] name other known = absurd cc
name-of_number (first ∷ names) name other known = by (is_same name first) refl known (name-of_number names name other)
  where
    by : (here : Bool) → is_same name first ≡ here → (here || is_among is_same names name) ≡ true → (is_among is_same names name ≡ true → get_or names (number_in names name) other ≡ name) →
        get_or (first ∷ names) (if not (is_same name first) then 1 + number_in names name else 0) other ≡ name
    by true e known rest = ap (λ h. get_or (first ∷ names) (if not h then 1 + number_in names name else 0) other) e ∙ sym (same_name name first e)
    by false e known rest =
        ap (λ h. get_or (first ∷ names) (if not h then 1 + number_in names name else 0) other) e
        ∙ ap (λ (n : ℕ). get_or (first ∷ names) n other) (let next : 1 + number_in names name ≡ suc (number_in names name) = omega arith in next) ∙ rest known

-- ---- moved rows

module _ (domain : Domain) (problem : Problem) (state : State) (adds : Bool) (binding extra : Binding) (atom : GroundAtom) where
  row-moved : (row : EffectRow) → task.row_writes state adds (binding ++ extra) atom (moved_row domain problem (length binding) (length extra) row) ≡ task.row_writes state adds binding atom row
  row-moved row =
      ap (λ b. answers adds row.adds && b)
      (any-same (λ objects. task.is_on state atom (moved_row domain problem (length binding) (length extra) row) ((binding ++ extra) ++ objects)) (λ objects. task.is_on state atom row (binding ++ objects)) one (choices row.variables))
    where
      one : (objects : List ℕ) → task.is_on state atom (moved_row domain problem (length binding) (length extra) row) ((binding ++ extra) ++ objects) ≡ task.is_on state atom row (binding ++ objects)
      one objects =
          ap (λ (b : Binding). task.is_on state atom (moved_row domain problem (length binding) (length extra) row) b) (append-assoc binding extra objects)
          ∙ ap (λ (os : List ℕ). task.is_same_atom (atom_of row.predicate os) atom && are_met state (binding ++ (extra ++ objects)) (map (moved (length binding) (length extra)) row.condition)) (moved-places binding extra objects row.places)
          ∙ ap (λ b. task.is_same_atom (atom_of row.predicate (objects_at (binding ++ objects) row.places)) atom && b) (all-met-moved state binding extra objects row.condition)

  -- moved rows write what they wrote
  pub rows-moved : (rows : List EffectRow) → task.writes state adds (map (moved_row domain problem (length binding) (length extra)) rows) (binding ++ extra) atom ≡ task.writes state adds rows binding atom
  rows-moved rows =
      any-map (task.row_writes state adds (binding ++ extra) atom) (moved_row domain problem (length binding) (length extra)) rows
      ∙ any-same (λ row. task.row_writes state adds (binding ++ extra) atom (moved_row domain problem (length binding) (length extra) row)) (task.row_writes state adds binding atom) row-moved rows

module _ (domain : Domain) (problem : Problem) where
  -- the action mentions only what is declared, and no variable is unbound in it; and its cost is that of its schemas
  pub record ActionSound (action : Action) : Type 0 where
    pub mentioned : AreKnown domain problem (in_action action)
    pub bound : scopes.in_action action ≡ []
    pub cost : (names : List Name) → Among names (pddl.choices domain problem action.parameters) → (extra : List ℕ) →
        task.value_of (planning domain problem) (map (num domain problem) names ++ extra) (action_cost domain problem action) ≡ step.action_cost problem (pddl.bound action.parameters names []) action

  pub record Sound : Type 0 where
    pub rules : Each (RuleSound domain problem) domain.axioms
    pub actions : (action : Action) → Among action domain.actions → ActionSound action
    pub goal : GoalSound domain problem
    pub fit : fresh_fit (declared domain problem) 0 (first_fresh domain problem) ≡ true

  -- known names are those of their numbers
  pub shown-names : (names : List Name) → list_all (is_known domain problem) names ≡ true → map (task.object_name (planning domain problem)) (map (num domain problem) names) ≡ names
  shown-names [] known = refl
  shown-names (name ∷ names) known =
      let parts = and_parts (is_known domain problem name) (list_all (is_known domain problem) names) known in
      let here = name-of_number (object_names domain problem) name [] parts.0 in
      let rest = shown-names names parts.1 in
      cc (here, rest)

  module _ (full : holds.State) (numbered : State) (shows : ShowsFull domain problem full numbered) (action : Action) (sound : ActionSound action) (names : List Name) (among : Among names (pddl.choices domain problem action.parameters)) where
    abbrev named : pddl.Binding
    named = pddl.bound action.parameters names []

    abbrev binding : Binding
    binding = map (num domain problem) names

    abbrev in_scope : List Name
    in_scope = scopes.inside_of action.parameters []

    pub long : length binding ≡ length action.parameters
    long = length-map (num domain problem) names ∙ named-choice-length domain problem full numbered shows action.parameters names among

    pub stand : StandAll domain problem in_scope (parameter_scope domain problem action.parameters) named binding
    stand name inside = inside-stands domain problem action.parameters names 0 [] [] [] name refl among (λ unlisted. absurd (false≢true (in-inside action.parameters [] name inside unlisted)))

    pub rest-mentioned : AreKnown domain problem (in_condition action.precondition ++ in_effect action.effect)
    rest-mentioned = (and_parts (true && true) _ sound.mentioned).1

    -- the precondition holds where some part of it is met
    precondition-means : (next : ℕ) → GivenIn (declared domain problem) numbered next (precondition_parts domain problem action next).fresh →
        some_part numbered binding (precondition_parts domain problem action next).items ≡ holds.holds domain problem full action.precondition named
    precondition-means next =
        subst (λ (n : ℕ). GivenIn (declared domain problem) numbered next ((known domain problem action.precondition).cut true (parameter_scope domain problem action.parameters) n next).fresh →
        some_part numbered binding ((known domain problem action.precondition).cut true (parameter_scope domain problem action.parameters) n next).items ≡ holds.holds domain problem full action.precondition named) long
        (condition-means domain problem full numbered shows action.precondition (all-left (is_known_mention domain problem) (in_condition action.precondition) (in_effect action.effect) rest-mentioned) true (parameter_scope domain problem action.parameters) named binding
        (λ name free. stand name (free-bound domain problem action.precondition in_scope (left_empty (scopes.in_condition action.precondition in_scope) (scopes.in_effect action.effect in_scope) sound.bound) name free)) next)

    -- and the effect writes what its rows write
    effect-writes : (adds : Bool) (next : ℕ) → GivenIn (declared domain problem) numbered next (effect_rows domain problem action next).fresh → (atom : holds.GroundAtom) → is_known_atom domain problem atom ≡ true →
        task.writes numbered adds (effect_rows domain problem action next).items binding (numbered_atom domain problem atom) ≡ step.writes domain problem full adds action.effect named atom
    effect-writes adds next =
        subst (λ (n : ℕ). GivenIn (declared domain problem) numbered next (rows_of domain problem action.effect [] (parameter_scope domain problem action.parameters) n next).fresh → (atom : holds.GroundAtom) → is_known_atom domain problem atom ≡ true →
        task.writes numbered adds (rows_of domain problem action.effect [] (parameter_scope domain problem action.parameters) n next).items binding (numbered_atom domain problem atom) ≡ step.writes domain problem full adds action.effect named atom) long
        (effect-means domain problem full numbered shows adds action.effect (all-right (is_known_mention domain problem) (in_condition action.precondition) (in_effect action.effect) rest-mentioned) [] [] in_scope (parameter_scope domain problem action.parameters) named binding
        (right_empty (scopes.in_condition action.precondition in_scope) (scopes.in_effect action.effect in_scope) sound.bound) stand tt tt next)

    -- the schema of a part writes the same
    schema-writes : (adds : Bool) (next : ℕ) → GivenIn (declared domain problem) numbered next (effect_rows domain problem action next).fresh → (part : Part) (extra : List ℕ) → length extra ≡ length part.variables → (atom : holds.GroundAtom) → is_known_atom domain problem atom ≡ true →
        task.writes numbered adds (schema domain problem action (effect_rows domain problem action next).items part).effects (binding ++ extra) (numbered_atom domain problem atom) ≡ step.writes domain problem full adds action.effect named atom
    schema-writes adds next given part extra fills atom known_atom =
        ap (λ (n : ℕ). task.writes numbered adds (map (moved_row domain problem n (length part.variables)) (effect_rows domain problem action next).items) (binding ++ extra) (numbered_atom domain problem atom)) (sym long)
        ∙ ap (λ (n : ℕ). task.writes numbered adds (map (moved_row domain problem (length binding) n) (effect_rows domain problem action next).items) (binding ++ extra) (numbered_atom domain problem atom)) (sym fills)
        ∙ rows-moved domain problem numbered adds binding extra (numbered_atom domain problem atom) (effect_rows domain problem action next).items
        ∙ effect-writes adds next given atom known_atom

    -- so the next states have the same atoms
    next-shows : (state : holds.State) (numbered_state : State) → Shows domain problem state numbered_state → (next : ℕ) → GivenIn (declared domain problem) numbered next (effect_rows domain problem action next).fresh → (part : Part) (extra : List ℕ) → length extra ≡ length part.variables →
        (atom : holds.GroundAtom) → is_known_atom domain problem atom ≡ true → holds.is_derived domain atom.predicate ≡ false →
        successor (normal_task (planning domain problem)) numbered_state numbered (record { schema = schema domain problem action (effect_rows domain problem action next).items part; objects = binding ++ extra }) (numbered_atom domain problem atom) ≡ successor (pddl_task domain problem) state full (record { action = action; objects = names }) atom
    next-shows state numbered_state shown next given part extra fills atom known_atom basic =
        let added = schema-writes true next given part extra fills atom known_atom in
        let deleted = schema-writes false next given part extra fills atom known_atom in
        let before = shown atom known_atom basic in
        cc (added, deleted, before)

    known-names : list_all (is_known domain problem) names ≡ true
    known-names = choices-known domain problem action.parameters names among

    -- and the steps have the same name and cost
    same-step-name : (extra : List ℕ) (rows : List EffectRow) (part : Part) →
        step.shown (schema domain problem action rows part).action (map (task.object_name (planning domain problem)) (take (schema domain problem action rows part).shown (binding ++ extra))) ≡ step.shown action.name.name names
    same-step-name extra rows part =
        ap (λ (os : List ℕ). step.shown action.name.name (map (task.object_name (planning domain problem)) os))
        (ap (λ (n : ℕ). take n (binding ++ extra)) (sym long) ∙ take-append_seam binding extra)
        ∙ ap (step.shown action.name.name) (shown-names names known-names)

  -- the numbers of a choice of names are a choice
  numbers-choice : (variables : List Typed) (names : List Name) → Among names (pddl.choices domain problem variables) → is_choice (ranges_of domain problem variables) (map (num domain problem) names) ≡ true
  numbers-choice variables names among =
      among-choice (ranges_of domain problem variables) (map (num domain problem) names)
      (subst (λ (l : List (List ℕ)). Among (map (num domain problem) names) l) (sym (choices-numbers domain problem variables)) (among_map (map (num domain problem)) names (pddl.choices domain problem variables) among))

  -- and a choice of numbers is the numbers of a choice of names
  pub record NamedChoice (variables : List Typed) (objects : List ℕ) : Type 0 where
    pub names : List Name
    pub among : Among names (pddl.choices domain problem variables)
    pub same : map (num domain problem) names ≡ objects

  pub names-choice : (variables : List Typed) (objects : List ℕ) → is_choice (ranges_of domain problem variables) objects ≡ true → NamedChoice variables objects
  names-choice variables objects is =
      let there = subst (λ (l : List (List ℕ)). Among objects l) (choices-numbers domain problem variables) (choice-among (ranges_of domain problem variables) objects is) in
      let found = map_source (map (num domain problem)) (pddl.choices domain problem variables) objects there in
      record { names = found.source; among = found.among; same = found.gives }

  module _ (sound : Sound) where
    pub given-actions : (state : State) → GivenIn (declared domain problem) state 0 (fresh_all domain problem) → GivenIn (declared domain problem) state 0 (made_schemas domain problem).fresh
    given-actions state given = numbered-left (GivenAt (declared domain problem) state) 0 (made_schemas domain problem).fresh ((made_axioms domain problem).fresh ++ (made_goal domain problem).fresh) given

    pub all-given-in : (numbered numbered_full : State) → IsFull (normal_task (planning domain problem)) numbered numbered_full → GivenIn (declared domain problem) numbered_full 0 (fresh_all domain problem)
    all-given-in numbered numbered_full is_full = given-of_all domain problem numbered_full 0 (fresh_all domain problem) (full-given domain problem sound.rules numbered numbered_full is_full)

    first-given : (numbered_full : State) (action : Action) (next : ℕ) → GivenIn (declared domain problem) numbered_full next (schemas domain problem action next).fresh → GivenIn (declared domain problem) numbered_full next (precondition_parts domain problem action next).fresh
    first-given numbered_full action next given =
        numbered-left (GivenAt (declared domain problem) numbered_full) next (precondition_parts domain problem action next).fresh (effect_rows domain problem action (next + length (precondition_parts domain problem action next).fresh)).fresh given

    second-given : (numbered_full : State) (action : Action) (next : ℕ) → GivenIn (declared domain problem) numbered_full next (schemas domain problem action next).fresh →
        GivenIn (declared domain problem) numbered_full (next + length (precondition_parts domain problem action next).fresh) (effect_rows domain problem action (next + length (precondition_parts domain problem action next).fresh)).fresh
    second-given numbered_full action next given =
        numbered-right (GivenAt (declared domain problem) numbered_full) next (precondition_parts domain problem action next).fresh (effect_rows domain problem action (next + length (precondition_parts domain problem action next).fresh)).fresh given

    -- a step of the files is one of the task
    pub taken : (state : holds.State) (numbered_state : State) → Shows domain problem state numbered_state → (taken_step : step.Step) (next : holds.State) → Takes (pddl_task domain problem) state taken_step next →
        HasStep (system (normal_task (planning domain problem))) numbered_state (step.name_of taken_step) (cost (pddl_task domain problem) taken_step) (Shows domain problem next)
    taken state numbered_state shown taken_step next takes =
        let action = taken_step.action in
        let is = is_step domain problem taken_step takes.of_task in
        let among_actions = among_contains domain.actions action is.declared in
        let action_sound = sound.actions action among_actions in
        let among = chosen domain problem action.parameters taken_step.objects is.typed in
        let whole = task-full domain problem sound.rules sound.goal sound.fit state takes.full numbered_state shown takes.is_full in
        let given = given-actions whole.numbered_full (all-given-in numbered_state whole.numbered_full whole.is_full) in
        let here = turn (schemas domain problem) (GivenAt (declared domain problem) whole.numbered_full) domain.actions 0 given action among_actions in
        let objects = map (num domain problem) taken_step.objects in
        let parts = precondition_parts domain problem action here.next in
        let later = here.next + length parts.fresh in
        let rows = (effect_rows domain problem action later).items in
        let met = precondition-means takes.full whole.numbered_full whole.shows action action_sound taken_step.objects among here.next (first-given whole.numbered_full action here.next here.given) ∙ takes.applicable in
        let part = passing (part_met whole.numbered_full objects) parts.items met in
        let extra = passing (λ os. are_met whole.numbered_full (objects ++ os) part.item.literals) (choices part.item.variables) part.passes in
        let made = schema domain problem action rows part.item in
        let made_step : task.Step = record { schema = made; objects = objects ++ extra.item } in
        let fills = choice-length part.item.variables extra.item (among-choice part.item.variables extra.item extra.among) in
        let same_cost = action_sound.cost taken_step.objects among extra.item in
        record {
          step = made_step;
          next = successor (normal_task (planning domain problem)) numbered_state whole.numbered_full made_step;
          takes = record {
            of_task = in_normal_steps (planning domain problem) made_step record {
              declared = contains_among (planning domain problem).schemas made (here.inside made (among_map (schema domain problem action rows) part.item parts.items part.among));
              typed = choice-append (ranges_of domain problem action.parameters) part.item.variables objects extra.item (numbers-choice action.parameters taken_step.objects among) (among-choice part.item.variables extra.item extra.among);
            };
            full = whole.numbered_full;
            is_full = whole.is_full;
            applicable = extra.passes;
            costs = subst (λ o. IsSome o) (sym same_cost) takes.costs;
            follows = λ atom. refl;
          };
          same_name = same-step-name takes.full whole.numbered_full whole.shows action action_sound taken_step.objects among extra.item rows part.item;
          same_cost = ap (λ o. unwrap_or o 0) same_cost;
          demand = λ atom known_atom basic.
              next-shows takes.full whole.numbered_full whole.shows action action_sound taken_step.objects among state numbered_state shown later (second-given whole.numbered_full action here.next here.given) part.item extra.item fills atom known_atom basic
              ∙ sym (takes.follows atom);
        }

    -- a step of the task is one of the files
    pub followed : (numbered_state : State) (state : holds.State) → Shows domain problem state numbered_state → (taken_step : task.Step) (numbered_next : State) → Takes (normal_task (planning domain problem)) numbered_state taken_step numbered_next →
        HasStep (system (pddl_task domain problem)) state (task.name_of (planning domain problem) taken_step) (cost (normal_task (planning domain problem)) taken_step) (λ next. Shows domain problem next numbered_next)
    followed numbered_state state shown taken_step numbered_next takes =
        let whole = files-full domain problem sound.rules state numbered_state takes.full shown takes.is_full in
        let given = given-actions takes.full (all-given-in numbered_state takes.full takes.is_full) in
        let is = is_normal_step (planning domain problem) taken_step takes.of_task in
        let here = origin (schemas domain problem) (GivenAt (declared domain problem) takes.full) domain.actions 0 (length (made_schemas domain problem).fresh) (omega arith) given taken_step.schema (among_contains (planning domain problem).schemas taken_step.schema is.declared) in
        let action = here.source in
        let action_sound = sound.actions action here.among in
        let parts = precondition_parts domain problem action here.next in
        let later = here.next + length parts.fresh in
        let rows = (effect_rows domain problem action later).items in
        let part = map_source (schema domain problem action rows) parts.items taken_step.schema here.inside in
        let split = split-choice (ranges_of domain problem action.parameters) part.source.variables taken_step.objects (subst (λ (s : Schema). is_choice s.parameters taken_step.objects ≡ true) (sym part.gives) is.typed) in
        let named_choice = names-choice action.parameters split.first split.of_first in
        let names = named_choice.names in
        let among = named_choice.among in
        let objects = map (num domain problem) names in
        let extra = split.second in
        let whole_objects : objects ++ extra ≡ taken_step.objects = ap (λ (os : List ℕ). os ++ extra) named_choice.same ∙ split.whole in
        let made_step : task.Step = record { schema = schema domain problem action rows part.source; objects = objects ++ extra } in
        let same_made : made_step ≡ taken_step = ap (λ (os : List ℕ). record { schema = schema domain problem action rows part.source; objects = os }) whole_objects ∙ ap (λ (s : Schema). record { schema = s; objects = taken_step.objects }) part.gives in
        let met : are_met takes.full (objects ++ extra) part.source.literals ≡ true = ap (λ (s : task.Step). are_met takes.full s.objects s.schema.condition) same_made ∙ takes.applicable in
        let some_met : some_part takes.full objects parts.items ≡ true =
        any_passes (part_met takes.full objects) part.source parts.items part.among
        (any_passes (λ os. are_met takes.full (objects ++ os) part.source.literals) extra (choices part.source.variables) (choice-among part.source.variables extra split.of_second) met) in
        let holding = sym (precondition-means whole.full takes.full whole.shows action action_sound names among here.next (first-given takes.full action here.next here.given)) ∙ some_met in
        let files_step : step.Step = record { action = action; objects = names } in
        let made_cost : (normal_task (planning domain problem)).cost_of taken_step ≡ (pddl_task domain problem).cost_of files_step =
        ap (λ (s : task.Step). (normal_task (planning domain problem)).cost_of s) (sym same_made) ∙ action_sound.cost names among extra in
        record {
          step = files_step;
          next = successor (pddl_task domain problem) state whole.full files_step;
          takes = record {
            of_task = in_steps domain problem files_step record { declared = contains_among domain.actions action here.among; typed = any_passes (pointwise is_same names) names (pddl.choices domain problem action.parameters) among ((lists_equiv nat_list_eq_equiv).refl names) };
            full = whole.full;
            is_full = whole.is_full;
            applicable = holding;
            costs = subst (λ o. IsSome o) made_cost takes.costs;
            follows = λ atom. refl;
          };
          same_name = sym (same-step-name whole.full takes.full whole.shows action action_sound names among extra rows part.source) ∙ ap (task.name_of (planning domain problem)) same_made;
          same_cost = ap (λ o. unwrap_or o 0) (sym made_cost);
          demand = λ atom known_atom basic.
              takes.follows (numbered_atom domain problem atom)
              ∙ ap (λ (s : task.Step). successor (normal_task (planning domain problem)) numbered_state takes.full s (numbered_atom domain problem atom)) (sym same_made)
              ∙ next-shows whole.full takes.full whole.shows action action_sound names among state numbered_state shown later (second-given takes.full action here.next here.given) part.source extra
              (choice-length part.source.variables extra split.of_second) atom known_atom basic;
        }
