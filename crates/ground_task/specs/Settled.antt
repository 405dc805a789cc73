-- Tasks of literal lists, some of whose atoms are settled: these have one value in every reachable state. The literals on
-- them are taken out where they are true, and what has a false one is left out.
use Rattle.std.specs.Prelude.{◌≡◌, Bool, true, false, not, ◌&&◌, ◌||◌, List, map, filter, if◌then◌else◌}
use Rattle.std.specs.List.{list_all}
use Rattle.lists.specs.SameMembers.{SameMembers}
use Rattle.ground_task.specs.declared.types.Cond.{Cond}
use Rattle.ground_task.specs.declared.types.GoalRow.{GoalRow}
use Rattle.ground_task.specs.declared.types.GoalRow.TheVariants.{Never, All}
use Rattle.ground_task.specs.Literals.{EffectRow, ActionRow, AxiomRow, LiteralTask}

-- which atoms are kept, what these are called, and what value each other atom has
pub record Settling (A B : Type 0) : Type 0 where
  pub keeps : A → Bool
  pub named : A → B
  pub value : A → Bool

-- no literal of the condition on a settled atom is false
abbrev pub is_open : {A B : Type 0} → Settling A B → Cond A → Bool
is_open by condition =
    list_all (λ atom. by.keeps atom || by.value atom) condition.positive
    && list_all (λ atom. by.keeps atom || not (by.value atom)) condition.negative

-- the literals on kept atoms
abbrev pub kept_condition : {A B : Type 0} → Settling A B → Cond A → Cond B
kept_condition by condition =
    record { positive = map by.named (filter by.keeps condition.positive); negative = map by.named (filter by.keeps condition.negative) }

-- the effect without its literals on settled atoms
abbrev pub kept_effect : {A B : Type 0} → Settling A B → EffectRow A → EffectRow B
kept_effect by row = record { condition = kept_condition by row.condition; adds = row.adds; atom = by.named row.atom }

-- the effects on kept atoms whose conditions can hold
abbrev pub kept_effects : {A B : Type 0} → Settling A B → List (EffectRow A) → List (EffectRow B)
kept_effects by rows = map (kept_effect by) (filter (λ row. by.keeps row.atom && is_open by row.condition) rows)

-- the action without its literals and effects on settled atoms
abbrev pub kept_action : {A B : Type 0} → Settling A B → ActionRow A → ActionRow B
kept_action by row =
    record { name = row.name; condition = kept_condition by row.condition; effects = kept_effects by row.effects; cost = row.cost }

-- the actions whose conditions can hold
abbrev pub kept_actions : {A B : Type 0} → Settling A B → List (ActionRow A) → List (ActionRow B)
kept_actions by rows = map (kept_action by) (filter (λ row. is_open by row.condition) rows)

-- the axiom without its literals on settled atoms
abbrev pub kept_axiom : {A B : Type 0} → Settling A B → AxiomRow A → AxiomRow B
kept_axiom by row = record { atom = by.named row.atom; condition = kept_condition by row.condition }

-- the axioms for kept atoms whose conditions can hold
abbrev pub kept_axioms : {A B : Type 0} → Settling A B → List (AxiomRow A) → List (AxiomRow B)
kept_axioms by rows = map (kept_axiom by) (filter (λ row. by.keeps row.atom && is_open by row.condition) rows)

-- a goal with a false literal is one that no state meets
abbrev pub kept_goal : {A B : Type 0} → Settling A B → GoalRow A → GoalRow B
kept_goal by Never = Never
kept_goal by (All condition) = if is_open by condition then All (kept_condition by condition) else Never

-- the second task is the first with its atoms settled; actions and axioms may stand in another order
pub record IsSettled {A B : Type 0} (by : Settling A B) (task : LiteralTask A) (task' : LiteralTask B) : Type 0 where
  pub init : task'.init ≡ map by.named (filter by.keeps task.init)
  pub actions : SameMembers (kept_actions by task.actions) task'.actions
  pub axioms : SameMembers (kept_axioms by task.axioms) task'.axioms
  pub goal : task'.goal ≡ kept_goal by task.goal

-- The state shows the other: a kept atom has the same value in both, and a settled one its own value.
pub record Shows {A B : Type 0} (by : Settling A B) (state : A → Bool) (state' : B → Bool) : Type 0 where
  pub kept : (atom : A) → by.keeps atom ≡ true → state' (by.named atom) ≡ state atom
  pub settled : (atom : A) → by.keeps atom ≡ false → state atom ≡ by.value atom
