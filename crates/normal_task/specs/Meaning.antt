-- What a normal task means: its states, full states, steps and plans (PDDL 2.2; Helmert 2009, section 4).
use Rattle.std.specs.Prelude.{ℕ, Bool, true, false, not, ◌&&◌, nat_eq, List, [], ◌∷◌, ◌++◌, map, take, get_or, Option, Some, None, unwrap_or, slice_get, if◌then◌else◌}
use Rattle.std.specs.Cmp.Lexicographic.{pointwise}
use Rattle.std.specs.List.{list_all, list_any, flat_map}
use Rattle.std.specs.Option.{option_map}
pub use Rattle.lists.specs.Choices.{choices}
use Rattle.planning.specs.Task.{PlanningTask}
use Rattle.planning.specs.Task as planning
use Rattle.pddl_syntax.specs.Words.{Name}
use Rattle.pddl_syntax.specs.Step.{shown}
use Rattle.normal_task.specs.declared.task.AxiomRow.{AxiomRow}
use Rattle.normal_task.specs.declared.task.CostRow.{CostRow}
use Rattle.normal_task.specs.declared.task.CostRow.TheVariants as costs
use Rattle.normal_task.specs.declared.task.EffectRow.{EffectRow}
use Rattle.normal_task.specs.declared.task.GroundAtom.{GroundAtom}
use Rattle.normal_task.specs.declared.task.Literal.{Literal}
use Rattle.normal_task.specs.declared.task.Literal.TheVariants.{Holds, Equal}
use Rattle.normal_task.specs.declared.task.Normal.{Normal}
use Rattle.normal_task.specs.declared.task.Place.{Place}
use Rattle.normal_task.specs.declared.task.Place.TheVariants.{Variable, Object}
use Rattle.normal_task.specs.declared.task.PredicateRow.{PredicateRow}
use Rattle.normal_task.specs.declared.task.Schema.{Schema}
use Rattle.normal_task.specs.declared.task.ValueRow.{ValueRow}

-- ---- atoms and states

-- the atom of a predicate with these objects, all by number
abbrev pub atom_of : ℕ → List ℕ → GroundAtom
atom_of predicate objects = record { predicate = predicate; objects = objects }

-- the same predicate, with the same objects in the same order
abbrev pub is_same_atom : GroundAtom → GroundAtom → Bool
is_same_atom a b = nat_eq a.predicate b.predicate && pointwise nat_eq a.objects b.objects

-- a set of atoms
abbrev pub State : Type 0
State = planning.State GroundAtom

-- ---- parameters and variables

-- the objects that parameters and variables stand for, in the order of their numbers
abbrev pub Binding : Type 0
Binding = List ℕ

-- the object that stands at the place
abbrev pub object_at : Binding → Place → ℕ
object_at binding (Variable number) = get_or binding number 0
object_at binding (Object object) = object

abbrev pub objects_at : Binding → List Place → List ℕ
objects_at binding places = map (object_at binding) places

-- ---- conditions

-- the test gives this answer
abbrev pub answers : Bool → Bool → Bool
answers positive test = if positive then test else not test

-- the literal is true under the binding, in a state that has the derived atoms too
abbrev pub is_met : State → Binding → Literal → Bool
is_met state binding (Holds positive predicate places) = answers positive (state (atom_of predicate (objects_at binding places)))
is_met state binding (Equal positive left right) = answers positive (nat_eq (object_at binding left) (object_at binding right))

-- all literals of the list are true
abbrev pub are_met : State → Binding → List Literal → Bool
are_met state binding literals = list_all (is_met state binding) literals

-- ---- derived atoms

-- the predicate is derived, and not basic
abbrev pub is_derived_among : List PredicateRow → ℕ → Bool
is_derived_among predicates predicate = unwrap_or (option_map (λ row. row.derived) (slice_get predicates predicate)) false

abbrev pub is_derived : Normal → ℕ → Bool
is_derived task predicate = is_derived_among task.predicates predicate

-- the axiom gives the atom: for some objects of its parameters, of which those shown are the atom's, its condition is true
abbrev pub derives : State → GroundAtom → AxiomRow → Bool
derives state atom rule =
    nat_eq rule.predicate atom.predicate
    && list_any (λ objects. pointwise nat_eq (take rule.shown objects) atom.objects && are_met state objects rule.condition) (choices rule.parameters)

-- ---- effects

-- the effect is on the atom, under these objects of the schema's parameters and of its own variables, and its condition is true in the full state
abbrev pub is_on : State → GroundAtom → EffectRow → Binding → Bool
is_on full atom row objects = is_same_atom (atom_of row.predicate (objects_at objects row.places)) atom && are_met full objects row.condition

-- the atoms that an effect writes: those that it adds, or those that it deletes, as `adds` says, for all objects of its variables
abbrev pub row_writes : State → Bool → Binding → GroundAtom → EffectRow → Bool
row_writes full adds binding atom row = answers adds row.adds && list_any (λ objects. is_on full atom row (binding ++ objects)) (choices row.variables)

abbrev pub writes : State → Bool → List EffectRow → Binding → State
writes full adds rows binding atom = list_any (row_writes full adds binding atom) rows

-- ---- costs

-- values of one function, for the same objects
abbrev pub is_same_value : ValueRow → ValueRow → Bool
is_same_value a b = nat_eq a.function b.function && pointwise nat_eq a.objects b.objects

-- the value of the function for the objects, or None where it has none
abbrev pub value_in : List ValueRow → ℕ → List ℕ → Option ℕ
value_in [] function objects = None
value_in (row ∷ more) function objects =
    if nat_eq row.function function && pointwise nat_eq row.objects objects then Some row.value else value_in more function objects

-- the number, or the value of the term
abbrev pub value_of : Normal → Binding → CostRow → Option ℕ
value_of task binding (costs.Number value) = Some value
value_of task binding (costs.Term function places) = value_in task.values function (objects_at binding places)

-- ---- steps

-- a schema with an object for each parameter
pub record Step : Type 0 where
  pub schema : Schema
  pub objects : List ℕ

-- the steps of a schema: with each choice of objects of its parameters
abbrev pub steps_of : Schema → List Step
steps_of schema = map (λ objects. record { schema = schema; objects = objects }) (choices schema.parameters)

-- the name of the object
abbrev pub object_name : Normal → ℕ → Name
object_name task object = get_or task.objects object []

-- the action's name and the shown objects, joined by single spaces
abbrev pub name_of : Normal → Step → Name
name_of task step = shown step.schema.action (map (object_name task) (take step.schema.shown step.objects))

-- ---- the task

-- the initial state: the atoms of the list, and no others
abbrev pub initial : Normal → State
initial task atom = list_any (λ known. is_same_atom known atom) task.init

-- the normal task as a planning task
abbrev pub normal_task : Normal → PlanningTask GroundAtom Step
normal_task task =
    record {
      is_derived = λ atom. is_derived task atom.predicate;
      is_given = λ full atom. list_any (derives full atom) task.axioms;
      steps = flat_map steps_of task.schemas;
      name_of = name_of task;
      cost_of = λ step. value_of task step.objects step.schema.cost;
      is_applicable = λ full step. are_met full step.objects step.schema.condition;
      added = λ full step. writes full true step.schema.effects step.objects;
      deleted = λ full step. writes full false step.schema.effects step.objects;
      initial = initial task;
      is_goal = λ full. are_met full [] task.goal;
    }
