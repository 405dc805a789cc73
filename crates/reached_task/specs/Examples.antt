-- A small lawful reached task, about a lamp, one that is refused for each thing that makes a reached task lawful, and reached tasks about two lamps.
use Rattle.std.specs.Prelude.{ℕ, Bool, true, false, List, [], ◌∷◌, codes}
use Rattle.normal_task.specs.declared.task.GroundAtom.{GroundAtom}
use Rattle.ground_task.specs.declared.types.Cond.{Cond}
use Rattle.ground_task.specs.declared.types.GoalRow.TheVariants.{All}
use Rattle.ground_task.specs.Examples.{on, light, all_of, none_of}
use Rattle.reached_task.specs.declared.types.Fact.{Fact}
use Rattle.reached_task.specs.declared.types.Reached.{Reached}
use Rattle.reached_task.specs.declared.types.ReachedAction.{ReachedAction}
use Rattle.reached_task.specs.declared.types.ReachedAxiom.{ReachedAxiom}
use Rattle.reached_task.specs.declared.types.ReachedEffect.{ReachedEffect}
use Rattle.reached_task.specs.Lawful.{IsLawful}

abbrev pub fact : GroundAtom → List ℕ → Bool → Fact
fact atom shown derived = record { atom = atom; shown = shown; derived = derived }

-- a lamp is on, and it is light
abbrev pub lit : Fact
lit = fact (on 0) (codes "on(a)") false

abbrev pub is_light : Fact
is_light = fact light (codes "light()") true

-- an action that adds one fact
abbrev pub turns_on : ℕ → ReachedEffect
turns_on number = record { condition = all_of []; adds = true; fact = number }

abbrev pub press : ReachedAction
press = record { name = codes "press a"; condition = all_of (0 ∷ []); effects = turns_on 0 ∷ []; cost = 1 }

abbrev pub lights : ReachedAxiom
lights = record { fact = 1; condition = all_of (0 ∷ []) }

-- one lamp, which is on
abbrev pub lamp : Reached
lamp =
    record {
      facts = lit ∷ is_light ∷ [];
      init = 0 ∷ [];
      actions = press ∷ [];
      axioms = lights ∷ [];
      goal = All (all_of (1 ∷ []));
      metric = false;
    }

-- ---- the task with one part changed

abbrev pub with_facts : List Fact → Reached
with_facts facts = record (lamp) { facts = facts }

abbrev pub with_init : List ℕ → Reached
with_init init = record (lamp) { init = init }

abbrev pub with_action : ReachedAction → Reached
with_action action = record (lamp) { actions = action ∷ [] }

abbrev pub with_condition : Cond ℕ → Reached
with_condition condition = with_action (record (press) { condition = condition })

abbrev pub with_effect : ReachedEffect → Reached
with_effect effect = with_action (record (press) { effects = effect ∷ [] })

abbrev pub with_rule : ReachedAxiom → Reached
with_rule rule = record (lamp) { axioms = rule ∷ [] }

-- none of these is lawful, each for one thing alone; the number 2 is that of no fact
pub record IsRefused : Type 0 where
  -- facts: out of order, one that stands again, and a name with a space behind it
  pub in_order : ¬ IsLawful (with_facts (lit ∷ is_light ∷ fact (on 1) (codes "on(b)") false ∷ []))
  pub facts_once : ¬ IsLawful (with_facts (lit ∷ is_light ∷ is_light ∷ []))
  pub fact_name : ¬ IsLawful (with_facts (record (lit) { shown = codes "on(a) " } ∷ is_light ∷ []))
  -- the start
  pub init_number : ¬ IsLawful (with_init (2 ∷ []))
  pub init_derived : ¬ IsLawful (with_init (1 ∷ []))
  pub init_once : ¬ IsLawful (with_init (0 ∷ 0 ∷ []))
  -- actions: a name with a space behind it, and costs too great and other than 1 without the metric
  pub action_name : ¬ IsLawful (with_action (record (press) { name = codes "press a " }))
  pub positive_literal : ¬ IsLawful (with_condition (all_of (2 ∷ [])))
  pub negative_literal : ¬ IsLawful (with_condition (none_of (2 ∷ [])))
  pub effect_number : ¬ IsLawful (with_effect (turns_on 2))
  pub effect_on_derived : ¬ IsLawful (with_effect (turns_on 1))
  pub effect_condition : ¬ IsLawful (with_effect (record (turns_on 0) { condition = all_of (2 ∷ []) }))
  pub great_cost : ¬ IsLawful (record (with_action (record (press) { cost = 2147483648 })) { metric = true })
  pub unit_cost : ¬ IsLawful (with_action (record (press) { cost = 2 }))
  -- axioms: one for a basic fact, and a fact that depends on itself, where it is true and where it is false
  pub rule_for_basic : ¬ IsLawful (with_rule (record (lights) { fact = 0 }))
  pub rule_condition : ¬ IsLawful (with_rule (record (lights) { condition = all_of (2 ∷ []) }))
  pub ranked : ¬ IsLawful (with_rule (record (lights) { condition = all_of (1 ∷ []) }))
  pub ranked_where_false : ¬ IsLawful (with_rule (record (lights) { condition = none_of (1 ∷ []) }))
  pub goal : ¬ IsLawful (record (lamp) { goal = All (all_of (2 ∷ [])) })

-- ---- two lamps

-- two lamps, of which these are on at the start, and these actions
abbrev pub two_lamps : List ℕ → List ReachedAction → Reached
two_lamps init actions =
    record {
      facts = lit ∷ fact (on 1) (codes "on(b)") false ∷ [];
      init = init;
      actions = actions;
      axioms = [];
      goal = All (all_of []);
      metric = false;
    }

-- the second lamp is turned on where the first is
abbrev pub press_b : ReachedAction
press_b = record (press) { name = codes "press b"; effects = turns_on 1 ∷ [] }
