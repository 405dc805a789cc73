-- A small lawful ground task, about a lamp, and one that is refused for each thing that makes a ground task lawful.
use Rattle.std.specs.Prelude.{ℕ, true, false, List, [], ◌∷◌, ◌++◌, codes}
use Rattle.normal_task.specs.declared.task.GroundAtom.{GroundAtom}
use Rattle.normal_task.specs.declared.task.PredicateRow.{PredicateRow}
use Rattle.normal_task.specs.Meaning.{atom_of}
use Rattle.normal_task.specs.Refused.{predicate}
use Rattle.ground_task.specs.declared.types.Cond.{Cond}
use Rattle.ground_task.specs.declared.types.GoalRow.TheVariants.{All}
use Rattle.ground_task.specs.declared.types.Ground.{Ground}
use Rattle.ground_task.specs.declared.types.GroundAction.{GroundAction}
use Rattle.ground_task.specs.declared.types.GroundAxiom.{GroundAxiom}
use Rattle.ground_task.specs.declared.types.GroundEffect.{GroundEffect}
use Rattle.ground_task.specs.Lawful.{IsLawful}

-- an action turns a lamp on, it is light where a lamp is on, and lamps stay near
abbrev pub predicates : List PredicateRow
predicates = predicate (codes "on") 1 false false ∷ predicate (codes "light") 0 true false ∷ predicate (codes "near") 1 false true ∷ []

abbrev pub on : ℕ → GroundAtom
on object = atom_of 0 (object ∷ [])

abbrev pub light : GroundAtom
light = atom_of 1 []

abbrev pub near : GroundAtom
near = atom_of 2 (0 ∷ [])

-- all these must be true
abbrev pub all_of : {A : Type 0} → List A → Cond A
all_of atoms = record { positive = atoms; negative = [] }

-- all these must be false
abbrev pub none_of : {A : Type 0} → List A → Cond A
none_of atoms = record { positive = []; negative = atoms }

abbrev pub turns_on : GroundEffect
turns_on = record { condition = all_of []; adds = true; atom = on 0 }

abbrev pub press : GroundAction
press = record { name = codes "press a"; condition = all_of (on 0 ∷ []); effects = turns_on ∷ []; cost = 1 }

abbrev pub lights : GroundAxiom
lights = record { atom = light; condition = all_of (on 0 ∷ []) }

-- one lamp, which is on
abbrev pub lamp : Ground
lamp =
    record {
      normal_predicates = predicates;
      objects = codes "a" ∷ [];
      init = on 0 ∷ [];
      actions = press ∷ [];
      axioms = lights ∷ [];
      goal = All (all_of (light ∷ []));
      metric = false;
    }

-- ---- the task with one part changed

abbrev pub with_predicate : PredicateRow → Ground
with_predicate row = record (lamp) { normal_predicates = predicates ++ row ∷ [] }

abbrev pub with_init : List GroundAtom → Ground
with_init init = record (lamp) { init = init }

abbrev pub with_action : GroundAction → Ground
with_action action = record (lamp) { actions = action ∷ [] }

abbrev pub with_condition : Cond GroundAtom → Ground
with_condition condition = with_action (record (press) { condition = condition })

abbrev pub with_effect : GroundEffect → Ground
with_effect effect = with_action (record (press) { effects = effect ∷ [] })

abbrev pub with_rule : GroundAxiom → Ground
with_rule rule = record (lamp) { axioms = rule ∷ [] }

-- none of these is lawful, each for one thing alone
pub record IsRefused : Type 0 where
  pub object_name : ¬ IsLawful (record (lamp) { objects = codes "a b" ∷ [] })
  pub predicate_name : ¬ IsLawful (with_predicate (predicate (codes "is odd") 0 false false))
  pub derived_and_static : ¬ IsLawful (with_predicate (predicate (codes "odd") 0 true true))
  -- an atom at the start: of an object or a predicate that isn't there, of another number of objects, static, derived, and one that stands twice
  pub atom_object : ¬ IsLawful (with_init (on 1 ∷ []))
  pub atom_predicate : ¬ IsLawful (with_init (atom_of 3 [] ∷ []))
  pub atom_arity : ¬ IsLawful (with_init (atom_of 0 [] ∷ []))
  pub static_atom : ¬ IsLawful (with_init (near ∷ []))
  pub derived_atom : ¬ IsLawful (with_init (light ∷ []))
  pub init_once : ¬ IsLawful (with_init (on 0 ∷ on 0 ∷ []))
  -- actions: a name with a space behind it, static conditions, a derived effect, and costs too great and other than 1 without the metric
  pub action_name : ¬ IsLawful (with_action (record (press) { name = codes "press a " }))
  pub positive_literal : ¬ IsLawful (with_condition (all_of (near ∷ [])))
  pub negative_literal : ¬ IsLawful (with_condition (none_of (near ∷ [])))
  pub effect_condition : ¬ IsLawful (with_effect (record (turns_on) { condition = all_of (near ∷ []) }))
  pub effect_on_derived : ¬ IsLawful (with_effect (record (turns_on) { atom = light }))
  pub great_cost : ¬ IsLawful (record (with_action (record (press) { cost = 2147483648 })) { metric = true })
  pub unit_cost : ¬ IsLawful (with_action (record (press) { cost = 2 }))
  -- axioms: one for a basic atom, a static condition, and an atom that depends on itself, where it is true and where it is false
  pub rule_for_basic : ¬ IsLawful (with_rule (record (lights) { atom = on 0 }))
  pub rule_condition : ¬ IsLawful (with_rule (record (lights) { condition = all_of (near ∷ []) }))
  pub falls : ¬ IsLawful (with_rule (record (lights) { condition = all_of (light ∷ []) }))
  pub falls_where_false : ¬ IsLawful (with_rule (record (lights) { condition = none_of (light ∷ []) }))
  -- a goal about an object that isn't there
  pub goal : ¬ IsLawful (record (lamp) { goal = All (all_of (on 1 ∷ [])) })
