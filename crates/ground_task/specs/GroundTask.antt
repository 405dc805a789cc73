-- A ground task as a task of literal lists over ground atoms.
use Rattle.std.specs.Prelude.{ℕ, Bool, false, List, map, slice_get}
use Rattle.std.specs.Option.{option_map, unwrap_or}
use Rattle.normal_task.specs.declared.task.GroundAtom.{GroundAtom}
use Rattle.normal_task.specs.declared.task.PredicateRow.{PredicateRow}
use Rattle.normal_task.specs.Meaning.{is_derived_among, is_same_atom}
use Rattle.ground_task.specs.declared.types.Ground.{Ground}
use Rattle.ground_task.specs.declared.types.GroundAction.{GroundAction}
use Rattle.ground_task.specs.declared.types.GroundAxiom.{GroundAxiom}
use Rattle.ground_task.specs.declared.types.GroundEffect.{GroundEffect}
use Rattle.ground_task.specs.Literals.{EffectRow, ActionRow, AxiomRow, LiteralTask}

-- the atom's predicate is derived
abbrev pub is_derived : List PredicateRow → GroundAtom → Bool
is_derived predicates atom = is_derived_among predicates atom.predicate

-- the predicate is static: no action and no axiom changes it
abbrev pub is_fixed : List PredicateRow → ℕ → Bool
is_fixed predicates predicate = unwrap_or (option_map (λ row. row.fixed) (slice_get predicates predicate)) false

-- the effect as one of a task of literal lists
abbrev pub effect_row : GroundEffect → EffectRow GroundAtom
effect_row effect = record { condition = effect.condition; adds = effect.adds; atom = effect.atom }

-- the action as one of a task of literal lists
abbrev pub action_row : GroundAction → ActionRow GroundAtom
action_row action = record { name = action.name; condition = action.condition; effects = map effect_row action.effects; cost = action.cost }

-- the axiom as one of a task of literal lists
abbrev pub axiom_row : GroundAxiom → AxiomRow GroundAtom
axiom_row row = record { atom = row.atom; condition = row.condition }

-- the ground task's meaning is that of this task
abbrev pub ground_task : Ground → LiteralTask GroundAtom
ground_task task =
    record {
      same = is_same_atom;
      is_derived = is_derived task.normal_predicates;
      init = task.init;
      actions = map action_row task.actions;
      axioms = map axiom_row task.axioms;
      goal = task.goal;
    }
