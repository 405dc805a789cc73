-- A reached task as a task of literal lists over fact numbers.
use Rattle.std.specs.Prelude.{ℕ, Bool, false, ◌==◌, List, map, slice_get}
use Rattle.std.specs.Option.{option_map_or}
use Rattle.normal_task.specs.declared.task.GroundAtom.{GroundAtom}
use Rattle.reached_task.specs.declared.types.Fact.{Fact}
use Rattle.reached_task.specs.declared.types.Reached.{Reached}
use Rattle.reached_task.specs.declared.types.ReachedAction.{ReachedAction}
use Rattle.reached_task.specs.declared.types.ReachedAxiom.{ReachedAxiom}
use Rattle.reached_task.specs.declared.types.ReachedEffect.{ReachedEffect}
use Rattle.ground_task.specs.Literals.{EffectRow, ActionRow, AxiomRow, LiteralTask}

-- the fact of this number is derived
abbrev pub is_derived : List Fact → ℕ → Bool
is_derived facts number = option_map_or (λ fact. fact.derived) (slice_get facts number) false

abbrev pub effect_row : ReachedEffect → EffectRow ℕ
effect_row effect = record { condition = effect.condition; adds = effect.adds; atom = effect.fact }

abbrev pub action_row : ReachedAction → ActionRow ℕ
action_row action = record { name = action.name; condition = action.condition; effects = map effect_row action.effects; cost = action.cost }

abbrev pub axiom_row : ReachedAxiom → AxiomRow ℕ
axiom_row row = record { atom = row.fact; condition = row.condition }

-- the reached task's meaning is that of this task
abbrev pub reached_task : Reached → LiteralTask ℕ
reached_task reached =
    record {
      same = λ a b. a == b;
      is_derived = is_derived reached.facts;
      init = reached.init;
      actions = map action_row reached.actions;
      axioms = map axiom_row reached.axioms;
      goal = reached.goal;
    }

-- the atoms of the facts
abbrev pub atoms_of : Reached → List GroundAtom
atoms_of reached = map (λ fact. fact.atom) reached.facts
