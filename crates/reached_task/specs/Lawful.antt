-- When a reached task is lawful: its facts stand in order, its numbers are positions, its names and costs can be written, and no derived fact depends on itself.
use Rattle.std.specs.Prelude.{◌≡◌, ℕ, ◌<◌, ◌≤◌, true, false, length, All as Each, ⊤, nat_eq}
use Rattle.std.specs.List.Sorted.{IsStrictlySortedBy}
use Rattle.normal_task.specs.Lawful.{most, differ}
use Rattle.ground_task.specs.declared.types.Cond.{Cond}
use Rattle.ground_task.specs.declared.types.GoalRow.{GoalRow}
use Rattle.ground_task.specs.declared.types.GoalRow.TheVariants.{Never, All}
use Rattle.lists.specs.Names.{IsName}
use Rattle.ground_task.specs.Ranked.{IsRanked}
use Rattle.reached_task.specs.declared.types.Reached.{Reached}
use Rattle.reached_task.specs.declared.types.ReachedEffect.{ReachedEffect}
use Rattle.reached_task.specs.declared.types.ReachedAction.{ReachedAction}
use Rattle.reached_task.specs.declared.types.ReachedAxiom.{ReachedAxiom}
use Rattle.reached_task.specs.ReachedTask.{is_derived, reached_task, atoms_of}
use Rattle.reached_task.specs.Reachable.{fact_cmp}

-- each literal names a fact
pub record NamesFacts (reached : Reached) (literals : Cond ℕ) : Type 0 where
  pub positive : Each (λ f. f < length reached.facts) literals.positive
  pub negative : Each (λ f. f < length reached.facts) literals.negative

-- an effect is on a basic fact
pub record IsLawfulEffect (reached : Reached) (e : ReachedEffect) : Type 0 where
  pub fact : e.fact < length reached.facts
  pub basic : is_derived reached.facts e.fact ≡ false
  pub literals : NamesFacts reached e.condition

-- a cost is at most 2,147,483,647, and 1 where costs don't count
pub record IsLawfulAction (reached : Reached) (action : ReachedAction) : Type 0 where
  pub literals : NamesFacts reached action.condition
  pub each_effect : Each (IsLawfulEffect reached) action.effects
  pub small_cost : action.cost ≤ most
  pub unit_cost : reached.metric ≡ false → action.cost ≡ 1
  pub name : IsName action.name

-- an axiom is for a derived fact
pub record IsLawfulAxiom (reached : Reached) (axiom' : ReachedAxiom) : Type 0 where
  pub derived : is_derived reached.facts axiom'.fact ≡ true
  pub literals : NamesFacts reached axiom'.condition

-- a goal that some state may meet names facts
abbrev pub IsLawfulGoal : Reached → GoalRow ℕ → Type 0
IsLawfulGoal reached Never = ⊤
IsLawfulGoal reached (All literals) = NamesFacts reached literals

-- facts stand by predicate and then objects, without repeats; the initial facts are basic, and none stands twice
pub record IsLawful (reached : Reached) : Type 0 where
  pub in_order : IsStrictlySortedBy fact_cmp (atoms_of reached)
  pub shown : Each (λ f. IsName f.shown) reached.facts
  pub init : Each (λ f. (f < length reached.facts) × (is_derived reached.facts f ≡ false)) reached.init
  pub init_once : differ nat_eq reached.init ≡ true
  pub actions : Each (IsLawfulAction reached) reached.actions
  pub axioms : Each (IsLawfulAxiom reached) reached.axioms
  pub goal : IsLawfulGoal reached reached.goal
  -- no derived fact depends on itself through the axioms
  pub ranked : IsRanked (reached_task reached)
