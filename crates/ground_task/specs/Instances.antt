-- The instances of a normal task: its schemas and axioms with objects of their parameters' lists.
use Rattle.std.specs.Prelude.{◌≡◌, ℕ, Bool, true, false, not, ◌&&◌, List, [], ◌∷◌, ◌++◌, map, filter, take, is_some, unwrap_or, IsPermutation, nat_eq, if◌then◌else◌}
use Rattle.std.specs.List.{list_all, flat_map}
use Rattle.pddl_syntax.specs.Step.{shown}
use Rattle.normal_task.specs.declared.task.AxiomRow.{AxiomRow as AxiomSchema}
use Rattle.normal_task.specs.declared.task.EffectRow.{EffectRow as EffectSchema}
use Rattle.normal_task.specs.declared.task.GroundAtom.{GroundAtom}
use Rattle.normal_task.specs.declared.task.Literal.{Literal}
use Rattle.normal_task.specs.declared.task.Literal.TheVariants.{Holds, Equal}
use Rattle.normal_task.specs.declared.task.Normal.{Normal}
use Rattle.normal_task.specs.declared.task.Schema.{Schema}
use Rattle.normal_task.specs.Meaning.{atom_of, is_same_atom, Binding, object_at, objects_at, choices, answers, value_of, object_name}
use Rattle.ground_task.specs.declared.types.Cond.{Cond}
use Rattle.ground_task.specs.declared.types.GoalRow.TheVariants.{Never, All}
use Rattle.ground_task.specs.declared.types.Ground.{Ground}
use Rattle.ground_task.specs.GroundTask.{is_derived, is_fixed, ground_task}
use Rattle.ground_task.specs.Literals.{EffectRow, ActionRow, AxiomRow, LiteralTask, initial}
use Rattle.ground_task.specs.Settled.{Settling, kept_actions, kept_axioms, kept_goal}

-- ---- literal lists with objects

-- the literal's atom, where the literal is one on an atom with this sign
abbrev pub signed_atom : Bool → Binding → Literal → List GroundAtom
signed_atom sign binding (Holds positive predicate places) = if answers sign positive then atom_of predicate (objects_at binding places) ∷ [] else []
signed_atom sign binding (Equal positive left right) = []

-- the atoms of the literals with this sign, in order
abbrev pub signed_atoms : Bool → Binding → List Literal → List GroundAtom
signed_atoms sign binding literals = flat_map (signed_atom sign binding) literals

-- the literals on atoms, those that must be true apart from those that must be false
abbrev pub condition_of : Binding → List Literal → Cond GroundAtom
condition_of binding literals = record { positive = signed_atoms true binding literals; negative = signed_atoms false binding literals }

-- the literal is no equality, or it is a true one
abbrev pub fits : Binding → Literal → Bool
fits binding (Holds positive predicate places) = true
fits binding (Equal positive left right) = answers positive (nat_eq (object_at binding left) (object_at binding right))

-- all equalities of the list are true
abbrev pub all_fit : Binding → List Literal → Bool
all_fit binding literals = list_all (fits binding) literals

-- ---- instances

-- the effect with these objects for the schema's parameters, and those for its own variables
abbrev pub effect_of : Binding → EffectSchema → List ℕ → EffectRow GroundAtom
effect_of binding row objects =
    record {
      condition = condition_of (binding ++ objects) row.condition;
      adds = row.adds;
      atom = atom_of row.predicate (objects_at (binding ++ objects) row.places);
    }

-- the effects that an effect row gives, with each choice of objects for its variables where its equalities are true
abbrev pub effects_of : Binding → EffectSchema → List (EffectRow GroundAtom)
effects_of binding row = map (effect_of binding row) (filter (λ objects. all_fit (binding ++ objects) row.condition) (choices row.variables))

-- the schema with these objects
abbrev pub action_of : Normal → Schema → List ℕ → ActionRow GroundAtom
action_of task schema objects =
    record {
      name = shown schema.action (map (object_name task) (take schema.shown objects));
      condition = condition_of objects schema.condition;
      effects = flat_map (effects_of objects) schema.effects;
      cost = unwrap_or (value_of task objects schema.cost) 0;
    }

-- the schema has an instance with these objects: the equalities are true, and the cost has a value
abbrev pub is_instance : Normal → Schema → List ℕ → Bool
is_instance task schema objects = all_fit objects schema.condition && is_some (value_of task objects schema.cost)

-- the instances of a schema, with their literals on static atoms
abbrev pub actions_of : Normal → Schema → List (ActionRow GroundAtom)
actions_of task schema = map (action_of task schema) (filter (is_instance task schema) (choices schema.parameters))

-- the axiom with these objects, of which those shown are its atom's
abbrev pub axiom_of : AxiomSchema → List ℕ → AxiomRow GroundAtom
axiom_of row objects = record { atom = atom_of row.predicate (take row.shown objects); condition = condition_of objects row.condition }

-- the instances of an axiom: with each choice of objects where its equalities are true
abbrev pub axioms_of : AxiomSchema → List (AxiomRow GroundAtom)
axioms_of row = map (axiom_of row) (filter (λ objects. all_fit objects row.condition) (choices row.parameters))

-- all instances, with their literals on static atoms
abbrev pub instance_task : Normal → LiteralTask GroundAtom
instance_task task =
    record {
      same = is_same_atom;
      is_derived = is_derived task.predicates;
      init = task.init;
      actions = flat_map (actions_of task) task.schemas;
      axioms = flat_map axioms_of task.axioms;
      goal = if all_fit [] task.goal then All (condition_of [] task.goal) else Never;
    }

-- ---- the ground task

-- A static atom has the value that it has at the start, and the others are kept.
abbrev pub static_settling : Normal → Settling GroundAtom GroundAtom
static_settling task = record { keeps = λ atom. not (is_fixed task.predicates atom.predicate); named = λ atom. atom; value = initial (instance_task task) }

-- the ground task: all instances whose static literals and equalities are true, once each, without static atoms
pub record IsGroundTask (task : Normal) (result : Ground) : Type 0 where
  pub predicates : result.normal_predicates ≡ task.predicates
  pub objects : result.objects ≡ task.objects
  pub init : result.init ≡ filter (static_settling task).keeps task.init
  pub actions : IsPermutation (kept_actions (static_settling task) (instance_task task).actions) (ground_task result).actions
  pub axioms : IsPermutation (kept_axioms (static_settling task) (instance_task task).axioms) (ground_task result).axioms
  pub goal : result.goal ≡ kept_goal (static_settling task) (instance_task task).goal
  pub metric : result.metric ≡ task.metric
