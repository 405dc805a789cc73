-- Ground tasks that differ only in the order of their actions and axioms.
use Rattle.std.specs.Prelude.{◌≡◌}
use Rattle.lists.specs.SameMembers.{SameMembers}
use Rattle.ground_task.specs.declared.types.Ground.{Ground}
use Rattle.ground_task.specs.GroundTask.{ground_task}

-- the ground tasks are the same, but for the order of actions and axioms and for how often one of them stands there
pub record AreAlike (a b : Ground) : Type 0 where
  pub predicates : a.normal_predicates ≡ b.normal_predicates
  pub objects : a.objects ≡ b.objects
  pub init : a.init ≡ b.init
  pub actions : SameMembers (ground_task a).actions (ground_task b).actions
  pub axioms : SameMembers (ground_task a).axioms (ground_task b).axioms
  pub goal : a.goal ≡ b.goal
  pub metric : a.metric ≡ b.metric
