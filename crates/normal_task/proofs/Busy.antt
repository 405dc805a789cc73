-- Steps that aren't idle are followed by steps that aren't idle; and the law.
use Rattle.std.proofs.Common.{◌≡◌, ℕ, ◌+◌, Bool, true, false, not, ◌&&◌, ◌||◌, List, [], ◌++◌, map, length, refl, sym, ap, ◌∙◌, subst}
use Rattle.std.specs.List.{list_all}
use Rattle.std.proofs.lemmas.Bool.{and_parts}
use Rattle.planning.specs.Task.{IsIdle, changed, successor}
use Rattle.planning.specs.Same.{SameRuns, IdleWhereFollowed, MeansTheSame}
use Rattle.planning.proofs.SameRuns.{means_the_same}
use Rattle.lists.proofs.Items.{among_contains}
use Rattle.pddl_syntax.specs.declared.types.Action.{Action}
use Rattle.pddl_syntax.specs.declared.types.Domain.{Domain}
use Rattle.pddl_syntax.specs.declared.types.Problem.{Problem}
use Rattle.pddl_syntax.specs.Words.{Name}
use Rattle.pddl_syntax.specs.Objects as pddl
use Rattle.pddl_syntax.specs.Holds as holds
use Rattle.pddl_syntax.specs.Step as step
use Rattle.pddl_syntax.specs.Plan.{pddl_task}
use Rattle.pddl_syntax.proofs.Steps.{is_step}
use Rattle.fault_positions.specs.Mentions.{in_condition, in_effect, in_action}
use Rattle.fault_positions.specs.Scopes as scopes
use Rattle.type_checker.proofs.NoFaults.{right_empty}
use Rattle.lists.proofs.Items.{Among, map_source}
use Rattle.normal_task.specs.declared.task.EffectRow.{EffectRow}
use Rattle.normal_task.specs.declared.task.GroundAtom.{GroundAtom}
use Rattle.normal_task.specs.declared.task.Schema.{Schema}
use Rattle.normal_task.specs.Numbers.{ranges_of}
use Rattle.normal_task.specs.Meaning as task
use Rattle.normal_task.specs.Meaning.{normal_task, State, Binding}
use Rattle.normal_task.proofs.Chosen.{is_choice}
use Rattle.normal_task.specs.Parts.{Part, Made}
use Rattle.normal_task.specs.Normalised.{numbered_atom, parameter_scope, rows_of, moved_row, schema, precondition_parts, effect_rows, schemas}
use Rattle.normal_task.specs.Same.{Shows}
use Rattle.normal_task.proofs.Alls.{all-right}
use Rattle.normal_task.proofs.Mentioned.{is_known_mention}
use Rattle.normal_task.proofs.ConditionsMean.{ShowsFull}
use Rattle.normal_task.proofs.FullStatesMatch.{planning, num, chosen, files-full}
use Rattle.normal_task.proofs.Filled.{task-full}
use Rattle.normal_task.proofs.MadeInTurn.{maker}
use Rattle.normal_task.proofs.Steps.{is_normal_step, Sound, ActionSound, taken, followed, stand, long, rest-mentioned, split-choice, choice-length, names-choice, rows-moved}
use Rattle.normal_task.proofs.Written.{AreBasic, is_basic_mention, Basic, Image, effect-basic}
use Rattle.normal_task.proofs.StartsAndGoals.{is_known_entry, goal-of_task, goal-of_files, begins}

-- what is neither added nor deleted stays
stays : (added deleted before : Bool) → added ≡ false → deleted ≡ false → (added || (before && not deleted)) ≡ before
stays added deleted true a d = cc (a, d)
stays added deleted false a d = cc (a, d)

module _ (domain : Domain) (problem : Problem) (sound : Sound domain problem) (basics : (action : Action) → Among action domain.actions → AreBasic domain problem (in_action action)) where
  effect-basics : (action : Action) → Among action domain.actions → AreBasic domain problem (in_effect action.effect)
  effect-basics action among = all-right (is_basic_mention domain problem) (in_condition action.precondition) (in_effect action.effect) (and_parts true _ (basics action among)).1

  module _ (full : holds.State) (numbered_full : State) (shows : ShowsFull domain problem full numbered_full) (action : Action) (is : Among action domain.actions) (names : List Name) (among : Among names (pddl.choices domain problem action.parameters)) where
    abbrev action_sound : ActionSound domain problem action
    action_sound = sound.actions action is

    abbrev named : pddl.Binding
    named = pddl.bound action.parameters names []

    abbrev binding : Binding
    binding = map (num domain problem) names

    written-basic : (adds : Bool) → (((atom : holds.GroundAtom) → step.writes domain problem full adds action.effect named atom ≡ true → Basic domain problem atom)
        × ((required : List (ℕ → ℕ → Made Part)) (next : ℕ) (target : GroundAtom) →
        task.writes numbered_full adds (rows_of domain problem action.effect required (parameter_scope domain problem action.parameters) (length binding) next).items binding target ≡ true → Image domain problem target))
    written-basic adds =
        effect-basic domain problem full numbered_full shows adds action.effect
        (all-right (is_known_mention domain problem) (in_condition action.precondition) (in_effect action.effect) (rest-mentioned domain problem full numbered_full shows action action_sound names among)) (effect-basics action is)
        (scopes.inside_of action.parameters []) (parameter_scope domain problem action.parameters) named binding
        (right_empty (scopes.in_condition action.precondition (scopes.inside_of action.parameters [])) (scopes.in_effect action.effect (scopes.inside_of action.parameters [])) action_sound.bound)
        (stand domain problem full numbered_full shows action action_sound names among)

    -- where the numbered states are the same, so are the others
    pub same-in_files : (state next : holds.State) (numbered numbered_next : State) → Shows domain problem state numbered → Shows domain problem next numbered_next → ((atom : holds.GroundAtom) → next atom ≡ changed state (step.writes domain problem full false action.effect named) (step.writes domain problem full true action.effect named) atom) →
        IsIdle numbered numbered_next → IsIdle state next
    same-in_files state next numbered numbered_next shown shown_next follows idle atom =
        by (step.writes domain problem full true action.effect named atom) (step.writes domain problem full false action.effect named atom) refl refl
      where
        of_basic : Basic domain problem atom → next atom ≡ state atom
        of_basic basic = sym (shown_next atom basic.known basic.basic) ∙ idle (numbered_atom domain problem atom) ∙ shown atom basic.known basic.basic

        by : (a d : Bool) → step.writes domain problem full true action.effect named atom ≡ a → step.writes domain problem full false action.effect named atom ≡ d → next atom ≡ state atom
        by true d added deleted = of_basic ((written-basic true).0 atom added)
        by false true added deleted = of_basic ((written-basic false).0 atom deleted)
        by false false added deleted = follows atom ∙ stays (step.writes domain problem full true action.effect named atom) (step.writes domain problem full false action.effect named atom) (state atom) added deleted

    abbrev rows : ℕ → List EffectRow
    rows later = (effect_rows domain problem action later).items

    schema-image : (adds : Bool) (later : ℕ) (part : Part) (extra : List ℕ) → length extra ≡ length part.variables → (target : GroundAtom) →
        task.writes numbered_full adds (schema domain problem action (rows later) part).effects (binding ++ extra) target ≡ true → Image domain problem target
    schema-image adds later part extra fills target some =
        let size = long domain problem full numbered_full shows action action_sound names among in
        (written-basic adds).1 [] later target
        (subst (λ (n : ℕ). task.writes numbered_full adds (rows_of domain problem action.effect [] (parameter_scope domain problem action.parameters) n later).items binding target ≡ true) (sym size)
        (sym
        (ap (λ (n : ℕ). task.writes numbered_full adds (map (moved_row domain problem n (length part.variables)) (rows later)) (binding ++ extra) target) (sym size)
        ∙ ap (λ (n : ℕ). task.writes numbered_full adds (map (moved_row domain problem (length binding) n) (rows later)) (binding ++ extra) target) (sym fills)
        ∙ rows-moved domain problem numbered_full adds binding extra target (rows later))
        ∙ some))

    -- and the other way round
    pub same-in_task : (state next : holds.State) (numbered numbered_next : State) → Shows domain problem state numbered → Shows domain problem next numbered_next → (later : ℕ) (part : Part) (extra : List ℕ) → length extra ≡ length part.variables →
        ((target : GroundAtom) → numbered_next target ≡ changed numbered (task.writes numbered_full false (schema domain problem action (rows later) part).effects (binding ++ extra)) (task.writes numbered_full true (schema domain problem action (rows later) part).effects (binding ++ extra)) target) → IsIdle state next → IsIdle numbered numbered_next
    same-in_task state next numbered numbered_next shown shown_next later part extra fills follows idle target = by (wrote true) (wrote false) refl refl
      where
        wrote : Bool → Bool
        wrote adds = task.writes numbered_full adds (schema domain problem action (rows later) part).effects (binding ++ extra) target

        of_image : Image domain problem target → numbered_next target ≡ numbered target
        of_image image =
            subst (λ (t : GroundAtom). numbered_next t ≡ numbered t) image.same
            (shown_next image.atom image.is_basic.known image.is_basic.basic ∙ idle image.atom ∙ sym (shown image.atom image.is_basic.known image.is_basic.basic))

        by : (a d : Bool) → wrote true ≡ a → wrote false ≡ d → numbered_next target ≡ numbered target
        by true d added deleted = of_image (schema-image true later part extra fills target added)
        by false true added deleted = of_image (schema-image false later part extra fills target deleted)
        by false false added deleted = follows target ∙ stays (wrote true) (wrote false) (numbered target) added deleted

  -- ---- steps that aren't idle

  idle-in_files : IdleWhereFollowed (pddl_task domain problem) (normal_task (planning domain problem)) (Shows domain problem)
  idle-in_files state numbered_state shown taken_step next takes numbered_next shown_next idle =
      let whole = task-full domain problem sound.rules sound.goal sound.fit state takes.full numbered_state shown takes.is_full in
      let is = is_step domain problem taken_step takes.of_task in
      same-in_files takes.full whole.numbered_full whole.shows taken_step.action (among_contains domain.actions taken_step.action is.declared) taken_step.objects
      (chosen domain problem taken_step.action.parameters taken_step.objects is.typed) state next numbered_state numbered_next shown shown_next takes.follows idle

  idle-in_task : IdleWhereFollowed (normal_task (planning domain problem)) (pddl_task domain problem) (λ numbered state. Shows domain problem state numbered)
  idle-in_task numbered_state state shown taken_step numbered_next takes next shown_next =
      let whole = files-full domain problem sound.rules state numbered_state takes.full shown takes.is_full in
      let is = is_normal_step (planning domain problem) taken_step takes.of_task in
      let here = maker (schemas domain problem) domain.actions 0 taken_step.schema (among_contains (planning domain problem).schemas taken_step.schema is.declared) in
      let action = here.source in
      let parts = precondition_parts domain problem action here.next in
      let later = here.next + length parts.fresh in
      let rows_later = (effect_rows domain problem action later).items in
      let part = map_source (schema domain problem action rows_later) parts.items taken_step.schema here.inside in
      let split = split-choice (ranges_of domain problem action.parameters) part.source.variables taken_step.objects (subst (λ (s : Schema). is_choice s.parameters taken_step.objects ≡ true) (sym part.gives) is.typed) in
      let choice = names-choice domain problem action.parameters split.first split.of_first in
      let whole_objects : map (num domain problem) choice.names ++ split.second ≡ taken_step.objects = ap (λ (os : List ℕ). os ++ split.second) choice.same ∙ split.whole in
      let made_step : task.Step = record { schema = schema domain problem action rows_later part.source; objects = map (num domain problem) choice.names ++ split.second } in
      let same_made : made_step ≡ taken_step = ap (λ (os : List ℕ). record { schema = schema domain problem action rows_later part.source; objects = os }) whole_objects ∙ ap (λ (s : Schema). record { schema = s; objects = taken_step.objects }) part.gives in
      same-in_task whole.full takes.full whole.shows action here.among choice.names choice.among state next numbered_state numbered_next shown shown_next later part.source split.second
      (choice-length part.source.variables split.second split.of_second)
      (λ target.
      takes.follows target
      ∙ ap (λ (s : task.Step). successor (normal_task (planning domain problem)) numbered_state takes.full s target) (sym same_made))

  -- ---- the law

  module _ (known_init : list_all (is_known_entry domain problem) problem.init ≡ true) where
    same-runs : SameRuns (pddl_task domain problem) (normal_task (planning domain problem)) (Shows domain problem)
    same-runs = record {
      forth = record { starts = begins domain problem sound known_init; steps = taken domain problem sound; goals = goal-of_task domain problem sound known_init };
      back = record { starts = begins domain problem sound known_init; steps = followed domain problem sound; goals = goal-of_files domain problem sound known_init };
    }

    pub same-task : MeansTheSame (pddl_task domain problem) (normal_task (planning domain problem)) (Shows domain problem)
    same-task = means_the_same (pddl_task domain problem) (normal_task (planning domain problem)) (Shows domain problem) same-runs idle-in_files idle-in_task
