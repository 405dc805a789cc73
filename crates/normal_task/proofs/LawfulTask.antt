-- The normal task of a checked pair is lawful.
use Rattle.std.proofs.Common.{◌≡◌, ℕ, ◌+◌, Bool, true, false, List, [], ◌∷◌, ◌++◌, map, length, inl, inr, refl, sym, ap, ◌∙◌, subst, arith}
use Rattle.std.specs.Prelude.{◌==◌, if◌then◌else◌}
use Rattle.std.specs.List.{list_all, flat_map}
use Rattle.std.proofs.lemmas.Bool.{and_parts, and_from, eqb-true, true≢false}
use Rattle.pddl_syntax.specs.declared.types.Domain.{Domain}
use Rattle.pddl_syntax.specs.declared.types.Problem.{Problem}
use Rattle.pddl_syntax.specs.Spelled.{IsWellSpelled, IsWellSpelledProblem}
use Rattle.type_checker.specs.Faults.{check_faults}
use Rattle.lists.proofs.Items.{Among}
use Rattle.normal_task.specs.declared.task.Literal.TheVariants.{Holds}
use Rattle.normal_task.specs.declared.task.Normal.{Normal}
use Rattle.normal_task.specs.Lawful.{is_predicate, has_arity, is_literal, is_schema, is_axiom, IsLawful}
use Rattle.normal_task.specs.Meaning.{is_same_atom, is_same_value}
use Rattle.normal_task.specs.Parts.{Part, Fresh, Made, in_turn, fresh_number}
use Rattle.normal_task.specs.Normalised.{schemas, axiom_rows, fresh_rows, goal_parts, goal_atom, goal_of, stated, value_row, made_schemas, made_axioms, made_goal, after_schemas, after_axioms, all_fresh, normal}
use Rattle.normal_task.proofs.Alls.{all-both}
use Rattle.normal_task.proofs.Bound.{free-bound}
use Rattle.normal_task.proofs.Faultless.{goal_sound, all_fit}
use Rattle.normal_task.proofs.Filled.{first_fresh, last_fresh, goal_fresh, goal-last, all-fresh}
use Rattle.normal_task.proofs.Fits.{literal_within, MadeFits, condition-fits}
use Rattle.normal_task.proofs.InitialRows.{init-are, values-are}
use Rattle.normal_task.proofs.KnownParts.{all-by_both, literal_known, literal-lawful, part_known, fresh_known, MadeKnown, predicate-weaker, condition-known}
use Rattle.normal_task.proofs.LawfulAxioms.{part_within, fresh_within, parts-within, fits-within, fresh-lawful, rule-lawful}
use Rattle.normal_task.proofs.LawfulSchemas.{schemas-lawful}
use Rattle.normal_task.proofs.NameWords.{objects-words}
use Rattle.normal_task.proofs.OnceEach.{once-differ, same_atom-swap, same_value-swap}
use Rattle.normal_task.proofs.PredicateTable.{is_fresh_row, HasRow, HaveRows, numbered-left, numbered-right, numbered-second, numbered-third, all-rows, predicates-are}
use Rattle.normal_task.proofs.Ranks.{rank}
use Rattle.normal_task.proofs.RanksFall.{ranks-fall}
use Rattle.normal_task.proofs.WellMentioned.{tables, goal-well}

-- what is made one after another is lawful where each is
turns-lawful : {X A : Type 0} (task : Normal) (base : ℕ) (make : X → ℕ → Made A) (test : A → Bool) (xs : List X) →
    ((x : X) → Among x xs → (next : ℕ) → HaveRows task base next (make x next).fresh → (list_all test (make x next).items ≡ true) × (list_all (fresh_known task) (make x next).fresh ≡ true)) →
    (next : ℕ) → HaveRows task base next (in_turn (map make xs) next).fresh → (list_all test (in_turn (map make xs) next).items ≡ true) × (list_all (fresh_known task) (in_turn (map make xs) next).fresh ≡ true)
turns-lawful task base make test [] each next rows = (refl, refl)
turns-lawful task base make test (x ∷ xs) each next rows =
    let first = make x next in
    let later = next + length first.fresh in
    let others = in_turn (map make xs) later in
    let one = each x (inl refl) next (numbered-left (HasRow task base) next first.fresh others.fresh rows) in
    let rest = turns-lawful task base make test xs (λ y among. each y (inr among)) later (numbered-right (HasRow task base) next first.fresh others.fresh rows) in
    (all-both test first.items others.items one.0 rest.0, all-both (fresh_known task) first.fresh others.fresh one.1 rest.1)

module _ (domain : Domain) (problem : Problem) (none : check_faults domain problem ≡ []) where
  abbrev task : Normal
  task = normal domain problem

  abbrev base : ℕ
  base = length domain.predicates

  -- ---- where the rows of new predicates stand

  abbrev behind_schemas : List Fresh
  behind_schemas = (made_axioms domain problem).fresh ++ (made_goal domain problem).fresh

  schemas-are : IsWellSpelled domain → (list_all (is_schema task) (made_schemas domain problem).items ≡ true) × (list_all (fresh_known task) (made_schemas domain problem).fresh ≡ true)
  schemas-are spelled =
      turns-lawful task base (schemas domain problem) (is_schema task) domain.actions (λ action among. schemas-lawful domain problem none action among spelled) 0
      (numbered-left (HasRow task base) 0 (made_schemas domain problem).fresh behind_schemas (all-rows domain problem))

  rules-are : (list_all (is_axiom task) (made_axioms domain problem).items ≡ true) × (list_all (fresh_known task) (made_axioms domain problem).fresh ≡ true)
  rules-are =
      turns-lawful task base (axiom_rows domain problem) (is_axiom task) domain.axioms (λ rule among. rule-lawful domain problem none rule among) (after_schemas domain problem)
      (numbered-second (HasRow task base) (made_schemas domain problem).fresh (made_axioms domain problem).fresh (made_goal domain problem).fresh (all-rows domain problem))

  -- ---- the goal

  abbrev goal : Made Part
  goal = goal_parts domain problem

  goal-rows : HaveRows task base (after_axioms domain problem) ((goal_parts domain problem).fresh ++ last_fresh domain problem (goal_parts domain problem).items)
  goal-rows =
      subst (HaveRows task base (after_axioms domain problem)) (goal-last domain problem (goal_parts domain problem).items)
      (numbered-third (HasRow task base) (made_schemas domain problem).fresh (made_axioms domain problem).fresh (made_goal domain problem).fresh (all-rows domain problem))

  goal-known : MadeKnown task (goal_parts domain problem)
  goal-known =
      condition-known domain problem task (tables domain problem none) problem.goal (goal-well domain problem none) true [] 0 refl (after_axioms domain problem)
      (numbered-left (HasRow task base) (after_axioms domain problem) (goal_parts domain problem).fresh (last_fresh domain problem (goal_parts domain problem).items) goal-rows)

  goal-fits : MadeFits base 0 (after_axioms domain problem) (goal_parts domain problem)
  goal-fits =
      let sound = goal_sound domain problem none in
      condition-fits domain problem problem.goal sound.mentioned true [] 0 (λ name free. absurd (true≢false (sym (free-bound domain problem problem.goal [] sound.bound name free)))) (after_axioms domain problem)

  goal-within : list_all (part_within 0) (goal_parts domain problem).items ≡ true
  goal-within = parts-within base 0 (after_axioms domain problem) (goal_parts domain problem).items goal-fits.items

  -- the atom that stands for the goal has its row
  atom-lawful : HaveRows task base (after_axioms domain problem + length (goal_parts domain problem).fresh) (goal_fresh domain problem ∷ []) → list_all (is_literal task 0) (goal_atom domain problem (goal_parts domain problem) (after_axioms domain problem)).items ≡ true
  atom-lawful rows =
      let number = fresh_number domain problem (after_axioms domain problem + length (goal_parts domain problem).fresh) in
      let row = predicate-weaker task (is_fresh_row 0) (has_arity task 0) (λ row is. (and_parts (row.arity == 0) row.derived is).0) number rows.0 in
      and_from (is_literal task 0 (Holds true number [])) true (and_from (is_predicate task (has_arity task 0) number) true row refl) refl

  only-lawful : (part : Part) → part_within 0 part ≡ true → part_known task part ≡ true → (length part.variables == 0) ≡ true → list_all (is_literal task 0) part.literals ≡ true
  only-lawful part within is empty =
      let bound = 0 + length part.variables in
      let literals = all-by_both (literal_within bound) (literal_known task) (is_literal task bound) (literal-lawful task bound) part.literals within (and_parts _ (list_all (literal_known task) part.literals) is).1 in
      let same : 0 + length part.variables ≡ 0 = omega (arith, eqb-true (length part.variables) 0 empty) in
      subst (λ (n : ℕ). list_all (is_literal task n) part.literals ≡ true) same literals

  goal-of : (items : List Part) → list_all (part_within 0) items ≡ true → list_all (part_known task) items ≡ true →
      HaveRows task base (after_axioms domain problem + length (goal_parts domain problem).fresh) (last_fresh domain problem items) → list_all (is_literal task 0) (goal_of domain problem (goal_parts domain problem) items (after_axioms domain problem)).items ≡ true
  goal-of [] within is rows = atom-lawful rows
  goal-of (part ∷ other ∷ more) within is rows = atom-lawful rows
  goal-of (part ∷ []) within is rows = by (length part.variables == 0) refl rows
    where
      here : part_within 0 part ≡ true
      here = (and_parts (part_within 0 part) true within).0

      by : (empty : Bool) → (length part.variables == 0) ≡ empty → HaveRows task base (after_axioms domain problem + length (goal_parts domain problem).fresh) (if empty then [] else goal_fresh domain problem ∷ []) →
          list_all (is_literal task 0) (if empty then record { items = part.literals; fresh = (goal_parts domain problem).fresh } else goal_atom domain problem (goal_parts domain problem) (after_axioms domain problem)).items ≡ true
      by true e rows = only-lawful part here (and_parts (part_known task part) true is).0 e
      by false e rows = atom-lawful rows

  goal-is : list_all (is_literal task 0) (made_goal domain problem).items ≡ true
  goal-is =
      goal-of (goal_parts domain problem).items goal-within goal-known.items
      (numbered-right (HasRow task base) (after_axioms domain problem) (goal_parts domain problem).fresh (last_fresh domain problem (goal_parts domain problem).items) goal-rows)

  -- ---- new predicates

  last-passes : (test : Fresh → Bool) → test (goal_fresh domain problem) ≡ true → (items : List Part) → list_all test (last_fresh domain problem items) ≡ true
  last-passes test passes [] = and_from (test (goal_fresh domain problem)) true passes refl
  last-passes test passes (part ∷ other ∷ more) = and_from (test (goal_fresh domain problem)) true passes refl
  last-passes test passes (part ∷ []) = by (length part.variables == 0)
    where
      by : (empty : Bool) → list_all test (if empty then [] else goal_fresh domain problem ∷ []) ≡ true
      by true = refl
      by false = and_from (test (goal_fresh domain problem)) true passes refl

  all-within : list_all fresh_within (all_fresh domain problem) ≡ true
  all-within =
      ap (list_all fresh_within) (all-fresh domain problem)
      ∙ all-both fresh_within (first_fresh domain problem) (last_fresh domain problem (goal_parts domain problem).items) (fits-within base 0 (first_fresh domain problem) (all_fit domain problem none))
      (last-passes fresh_within goal-within (goal_parts domain problem).items)

  all-known : IsWellSpelled domain → list_all (fresh_known task) (all_fresh domain problem) ≡ true
  all-known spelled =
      all-both (fresh_known task) (made_schemas domain problem).fresh behind_schemas (schemas-are spelled).1
      (all-both (fresh_known task) (made_axioms domain problem).fresh (made_goal domain problem).fresh rules-are.1
      (ap (list_all (fresh_known task)) (goal-last domain problem (goal_parts domain problem).items)
      ∙ all-both (fresh_known task) (goal_parts domain problem).fresh (last_fresh domain problem (goal_parts domain problem).items) goal-known.fresh
      (last-passes (fresh_known task) goal-known.items (goal_parts domain problem).items)))

  -- ---- the task

  -- the normal task of a checked pair that is well spelled is lawful
  pub lawful-task : IsWellSpelled domain → IsWellSpelledProblem problem → IsLawful task
  lawful-task spelled spelled_problem = record {
    objects = objects-words domain problem spelled spelled_problem;
    predicates = predicates-are domain problem spelled;
    schemas = (schemas-are spelled).0;
    axioms =
        all-both (is_axiom task) (made_axioms domain problem).items (fresh_rows domain problem 0 (all_fresh domain problem)) rules-are.0
        (fresh-lawful domain problem 0 (all_fresh domain problem) all-within (all-known spelled) (all-rows domain problem));
    init = init-are domain problem none;
    init_once = once-differ domain problem is_same_atom same_atom-swap [] (flat_map (stated domain problem) problem.init);
    values = values-are domain problem none spelled_problem;
    values_once = once-differ domain problem is_same_value same_value-swap [] (flat_map (value_row domain problem) problem.init);
    goal = goal-is;
    rank = rank domain problem none;
    falls = ranks-fall domain problem none;
  }
