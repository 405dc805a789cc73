-- Static predicates.
use Rattle.std.specs.Prelude.{◌≡◌, true, false, All}
use Rattle.normal_task.specs.declared.task.Normal.{Normal}
use Rattle.ground_task.specs.GroundTask.{is_fixed}

-- static predicates are static: no effect is on one, and none is derived
pub record KeepsStatics (task : Normal) : Type 0 where
  pub basic : All (λ row. row.fixed ≡ true → row.derived ≡ false) task.predicates
  pub effects : All (λ schema. All (λ row. is_fixed task.predicates row.predicate ≡ false) schema.effects) task.schemas
