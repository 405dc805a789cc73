-- That the names of a written task's operators tell what they cost, as the names of the normal task's steps do.
use Rattle.std.specs.Prelude.{ℕ, List}
use Rattle.normal_task.specs.declared.task.Normal.{Normal}
use Rattle.normal_task.specs.Meaning.{normal_task}
use Rattle.normal_task.specs.TellCosts.{NamesTellCosts as StepsTellCosts}
use Rattle.ground_task.specs.declared.types.Ground.{Ground}
use Rattle.ground_task.specs.Instances.{IsGroundTask}
use Rattle.reached_task.specs.declared.types.Reached.{Reached}
use Rattle.reached_task.specs.Reachable.{IsReachedTask}
use Rattle.fdr_effects.specs.Places.{Cover}
use Rattle.fdr_encoder.specs.Encoding.{IsEncoding}
use Rattle.sas_task.specs.Task.{Task}
use Rattle.sas_restriction.specs.Choice.{Choice}
use Rattle.sas_restriction.specs.Restriction.{Restricts}
use Rattle.task_simplifier.specs.Projection.{IsProjection}
use Rattle.plan_backmap.specs.Solutions.{NamesTellCosts}

-- in an encoding of what is reached of a normal task
abbrev pub InEncodings : Type 0
InEncodings =
    (task : Normal) (grounded : Ground) (reached : Reached) (cover : Cover) (mutexes : List (List ℕ)) (layers : List ℕ) (encoded : Task) → StepsTellCosts (normal_task task) →
    IsGroundTask task grounded → IsReachedTask grounded reached → IsEncoding cover mutexes layers reached encoded → NamesTellCosts encoded.operators

-- in a restriction of a task
abbrev pub InRestrictions : Type 0
InRestrictions = (choice : Choice) (old new : Task) → Restricts choice old new → NamesTellCosts old.operators → NamesTellCosts new.operators

-- in the projection of a task
abbrev pub InProjections : Type 0
InProjections = (encoded task : Task) → IsProjection encoded task → NamesTellCosts encoded.operators → NamesTellCosts task.operators
