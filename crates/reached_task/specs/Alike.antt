-- Reached tasks that differ only in the order of their actions and axioms.
use Rattle.std.specs.Prelude.{◌≡◌}
use Rattle.lists.specs.SameMembers.{SameMembers}
use Rattle.reached_task.specs.declared.types.Reached.{Reached}

-- the reached tasks are the same, but for the order of actions and axioms and for how often one of them stands there
pub record AreAlike (a b : Reached) : Type 0 where
  pub facts : a.facts ≡ b.facts
  pub init : a.init ≡ b.init
  pub actions : SameMembers a.actions b.actions
  pub axioms : SameMembers a.axioms b.axioms
  pub goal : a.goal ≡ b.goal
  pub metric : a.metric ≡ b.metric
