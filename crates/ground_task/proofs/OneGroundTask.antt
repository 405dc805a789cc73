-- A normal task has one ground task, but for the order of actions and axioms.
use Rattle.std.proofs.Common.{List, sym, ◌∙◌}
use Rattle.std.specs.Prelude.{IsPermutation}
use Rattle.normal_task.specs.declared.task.Normal.{Normal}
use Rattle.ground_task.specs.declared.types.Ground.{Ground}
use Rattle.ground_task.specs.Alike.{AreAlike}
use Rattle.ground_task.specs.GroundTask.{ground_task}
use Rattle.ground_task.specs.Instances.{instance_task, static_settling, IsGroundTask}
use Rattle.ground_task.specs.Settled.{kept_actions, kept_axioms}
use Rattle.lists.specs.SameMembers.{SameMembers}
use Rattle.lists.proofs.SameMembers.{permuted}

both_permuted : {X : Type 0} (xs ys zs : List X) → IsPermutation xs ys → IsPermutation xs zs → SameMembers ys zs
both_permuted xs ys zs one other = permuted xs xs ys zs one other (λ x. ((λ in'. in'), (λ in'. in')))

pub one_ground_task : (task : Normal) (a b : Ground) → IsGroundTask task a → IsGroundTask task b → AreAlike a b
one_ground_task task a b one other =
    record {
      predicates = one.predicates ∙ sym other.predicates;
      objects = one.objects ∙ sym other.objects;
      init = one.init ∙ sym other.init;
      actions = both_permuted (kept_actions (static_settling task) (instance_task task).actions) (ground_task a).actions (ground_task b).actions one.actions other.actions;
      axioms = both_permuted (kept_axioms (static_settling task) (instance_task task).axioms) (ground_task a).axioms (ground_task b).axioms one.axioms other.axioms;
      goal = one.goal ∙ sym other.goal;
      metric = one.metric ∙ sym other.metric;
    }
