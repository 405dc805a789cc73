-- The normal task has the plans of the files, with the same names and costs, and reaches the same states.
use Rattle.std.proofs.Common.{◌≡◌, ℕ, ◌+◌, Bool, true, false, ◌||◌, List, [], ◌∷◌, ◌++◌, length, refl, sym, ap, ◌∙◌, subst, arith}
use Rattle.std.specs.Prelude.{nat_eq, ◌==◌, if◌then◌else◌}
use Rattle.std.specs.List.{list_all, list_any, flat_map}
use Rattle.std.specs.Cmp.Lexicographic.{pointwise}
use Rattle.std.proofs.lemmas.Bool.{and_parts, eqb-true, false≢true}
use Rattle.std.proofs.Math.Bool.{or-false, and-true}
use Rattle.planning.specs.Plan.{MeetsGoal}
use Rattle.pddl_syntax.specs.declared.types.Domain.{Domain}
use Rattle.pddl_syntax.specs.declared.types.Init.{Init}
use Rattle.pddl_syntax.specs.declared.types.Init.TheVariants as inits
use Rattle.pddl_syntax.specs.declared.types.Problem.{Problem}
use Rattle.pddl_syntax.specs.Holds as holds
use Rattle.pddl_syntax.specs.Plan as plans
use Rattle.pddl_syntax.proofs.SameAtoms.{same_name}
use Rattle.normal_task.specs.declared.task.GroundAtom.{GroundAtom}
use Rattle.normal_task.specs.declared.task.Literal.{Literal}
use Rattle.normal_task.specs.Meaning as task
use Rattle.normal_task.specs.Meaning.{normal_task, atom_of, State, are_met}
use Rattle.normal_task.specs.Parts.{Part, Fresh}
use Rattle.normal_task.specs.Normalised.{numbered_atom, stated, made_schemas, made_axioms, after_axioms, goal_parts, goal_atom, goal_of}
use Rattle.normal_task.specs.Same.{is_known_atom, Shows}
use Rattle.normal_task.proofs.Anys.{any-flat_map}
use Rattle.normal_task.proofs.Scopes.{length-append}
use Rattle.normal_task.proofs.OnceEach.{once-any}
use Rattle.normal_task.proofs.PartsMean.{some_part, part_met, GivenAt, GivenIn, numbered-left, numbered-right, numbered-third}
use Rattle.normal_task.proofs.ConditionsMean.{ShowsFull, condition-means}
use Rattle.normal_task.proofs.Bound.{free-bound}
use Rattle.normal_task.proofs.EffectsMean.{same-numbered}
use Rattle.normal_task.proofs.FullStatesMatch.{declared, planning, fresh_all, AllGivenAt, AllGiven, files-full, full-given, given-of_all}
use Rattle.normal_task.proofs.Filled.{GoalSound, first_fresh, last_fresh, goal_fresh, all-fresh, task-full}
use Rattle.normal_task.proofs.Steps.{Sound}

pub same-task_atom : (a b : GroundAtom) → task.is_same_atom a b ≡ true → a ≡ b
same-task_atom a b e =
    let parts = and_parts (nat_eq a.predicate b.predicate) (pointwise nat_eq a.objects b.objects) e in
    let predicates = eqb-true a.predicate b.predicate parts.0 in
    let objects = same_name a.objects b.objects parts.1 in
    ap (λ (n : ℕ). atom_of n a.objects) predicates ∙ ap (atom_of b.predicate) objects

-- a part without variables is met where its literals are
one-part : (state : State) (variables : List (List ℕ)) (literals : List Literal) → (length variables == 0) ≡ true → are_met state [] literals ≡ (part_met state [] (record { variables = variables; literals = literals }) || false)
one-part state [] literals none = sym (plain (are_met state [] literals))
  where
    plain : (b : Bool) → ((b || false) || false) ≡ b
    plain true = refl
    plain false = refl
one-part state (range ∷ variables) literals none = absurd (omega (arith, eqb-true (length (range ∷ variables)) 0 none))

module _ (domain : Domain) (problem : Problem) where
  -- an entry that states an atom states a known one
  abbrev pub is_known_entry : Init → Bool
  is_known_entry (inits.Holds atom) = is_known_atom domain problem (holds.ground [] atom)
  is_known_entry (inits.HoldsNot atom at) = true
  is_known_entry (inits.Value term value at) = true

  stated-entries : (entries : List Init) → list_all is_known_entry entries ≡ true → (atom : holds.GroundAtom) → is_known_atom domain problem atom ≡ true →
      list_any (λ known. task.is_same_atom known (numbered_atom domain problem atom)) (flat_map (stated domain problem) entries) ≡ list_any (plans.is_stated atom) entries
  stated-entries entries known atom known_atom =
      any-flat_map (λ known. task.is_same_atom known (numbered_atom domain problem atom)) (stated domain problem) entries ∙ each entries known
    where
      each : (entries : List Init) → list_all is_known_entry entries ≡ true → list_any (λ entry. list_any (λ known. task.is_same_atom known (numbered_atom domain problem atom)) (stated domain problem entry)) entries ≡ list_any (plans.is_stated atom) entries
      each [] known = refl
      each (inits.Holds stated_atom ∷ entries) known =
          let parts = and_parts (is_known_entry (inits.Holds stated_atom)) (list_all is_known_entry entries) known in
          let here = same-numbered domain problem (holds.ground [] stated_atom) atom parts.0 known_atom in
          let rest = each entries parts.1 in
          let end = or-false (task.is_same_atom (numbered_atom domain problem (holds.ground [] stated_atom)) (numbered_atom domain problem atom)) in
          cc (here, rest, end)
      each (inits.HoldsNot stated_atom at ∷ entries) known = each entries known
      each (inits.Value term value at ∷ entries) known = each entries known

  pub start : list_all is_known_entry problem.init ≡ true → Shows domain problem (plans.initial problem) (task.initial (planning domain problem))
  start known atom known_atom basic =
      let is_this : GroundAtom → Bool = λ known. task.is_same_atom known (numbered_atom domain problem atom) in
      once-any domain problem task.is_same_atom is_this (λ x y same passes. ap is_this (sym (same-task_atom x y same)) ∙ passes) (flat_map (stated domain problem) problem.init) []
      ∙ stated-entries problem.init known atom known_atom

  -- ---- the goal

  abbrev goal_items : List Part
  goal_items = (goal_parts domain problem).items

  module _ (full : holds.State) (numbered : State) (shows : ShowsFull domain problem full numbered) (all : AllGiven domain problem numbered 0 (fresh_all domain problem)) (sound : GoalSound domain problem) where
    given-goal : GivenIn (declared domain problem) numbered (after_axioms domain problem) (goal_parts domain problem).fresh
    given-goal =
        let whole = subst (λ (l : List Fresh). GivenIn (declared domain problem) numbered 0 l) (all-fresh domain problem) (given-of_all domain problem numbered 0 (fresh_all domain problem) all) in
        numbered-third (GivenAt (declared domain problem) numbered) (made_schemas domain problem).fresh (made_axioms domain problem).fresh (goal_parts domain problem).fresh
        (numbered-left (GivenAt (declared domain problem) numbered) 0 (first_fresh domain problem) (last_fresh domain problem goal_items) whole)

    goal-means : some_part numbered [] goal_items ≡ holds.holds domain problem full problem.goal []
    goal-means =
        condition-means domain problem full numbered shows problem.goal sound.mentioned true [] [] []
        (λ name free. absurd (false≢true (free-bound domain problem problem.goal [] sound.bound name free))) (after_axioms domain problem) given-goal

    last-given : AllGiven domain problem numbered (0 + length (first_fresh domain problem)) (last_fresh domain problem goal_items)
    last-given = numbered-right (AllGivenAt domain problem numbered) 0 (first_fresh domain problem) (last_fresh domain problem goal_items) (subst (λ (l : List Fresh). AllGiven domain problem numbered 0 l) (all-fresh domain problem) all)

    -- the atom for the goal
    atom-means : (items : List Part) → last_fresh domain problem items ≡ goal_fresh domain problem ∷ [] → AllGiven domain problem numbered (0 + length (first_fresh domain problem)) (last_fresh domain problem items) →
        are_met numbered [] (goal_atom domain problem (goal_parts domain problem) (after_axioms domain problem)).items ≡ some_part numbered [] goal_items
    atom-means items is given =
        let one = subst (λ (l : List Fresh). AllGiven domain problem numbered (0 + length (first_fresh domain problem)) l) is given in
        let schemas = (made_schemas domain problem).fresh in
        let axioms = (made_axioms domain problem).fresh in
        let goal = (goal_parts domain problem).fresh in
        let same : after_axioms domain problem + length goal ≡ 0 + length (first_fresh domain problem) = omega (arith, length-append schemas (axioms ++ goal), length-append axioms goal) in
        and-true (numbered (atom_of (declared domain problem + (after_axioms domain problem + length goal)) []))
        ∙ ap (λ (n : ℕ). numbered (atom_of (declared domain problem + n) [])) same
        ∙ one.0 []

    literals-mean : (items : List Part) → goal_items ≡ items → AllGiven domain problem numbered (0 + length (first_fresh domain problem)) (last_fresh domain problem items) →
        are_met numbered [] (goal_of domain problem (goal_parts domain problem) items (after_axioms domain problem)).items ≡ some_part numbered [] goal_items
    literals-mean [] e given = atom-means [] refl given
    literals-mean (part ∷ []) e given = by (length part.variables == 0) refl given
      where
        by : (b : Bool) → (length part.variables == 0) ≡ b → AllGiven domain problem numbered (0 + length (first_fresh domain problem)) (if b then [] else goal_fresh domain problem ∷ []) →
            are_met numbered [] (if b then record { items = part.literals; fresh = (goal_parts domain problem).fresh } else goal_atom domain problem (goal_parts domain problem) (after_axioms domain problem)).items ≡ some_part numbered [] goal_items
        by true none given = one-part numbered part.variables part.literals none ∙ ap (some_part numbered []) (sym e)
        by false some given = atom-means [] refl given
    literals-mean (part ∷ other ∷ more) e given = atom-means (part ∷ other ∷ more) refl given

    -- the goal's literals are met where the goal holds
    pub goal-met : are_met numbered [] (planning domain problem).goal ≡ holds.holds domain problem full problem.goal []
    goal-met = literals-mean goal_items refl last-given ∙ goal-means

  -- ---- plans

  module _ (sound : Sound domain problem) (known_init : list_all is_known_entry problem.init ≡ true) where
    pub goal-of_task : (state : holds.State) (numbered : State) → Shows domain problem state numbered → MeetsGoal (plans.pddl_task domain problem) state → MeetsGoal (normal_task (planning domain problem)) numbered
    goal-of_task state numbered shown goal =
        let whole = task-full domain problem sound.rules sound.goal sound.fit state goal.full numbered shown goal.is_full in
        record {
          full = whole.numbered_full;
          is_full = whole.is_full;
          holding = goal-met goal.full whole.numbered_full whole.shows (full-given domain problem sound.rules numbered whole.numbered_full whole.is_full) sound.goal ∙ goal.holding;
        }

    pub goal-of_files : (numbered : State) (state : holds.State) → Shows domain problem state numbered → MeetsGoal (normal_task (planning domain problem)) numbered → MeetsGoal (plans.pddl_task domain problem) state
    goal-of_files numbered state shown goal =
        let whole = files-full domain problem sound.rules state numbered goal.full shown goal.is_full in
        record {
          full = whole.full;
          is_full = whole.is_full;
          holding = sym (goal-met whole.full goal.full whole.shows (full-given domain problem sound.rules numbered goal.full goal.is_full) sound.goal) ∙ goal.holding;
        }

    pub begins : Shows domain problem (plans.initial problem) (task.initial (planning domain problem))
    begins = start known_init
