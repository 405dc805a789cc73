-- Tasks whose operators have the names and costs of another task's.
use Rattle.std.specs.Prelude.{◌≡◌, Contains}
use Rattle.sas_task.specs.declared.parts.Operator.{Operator}
use Rattle.sas_task.specs.Task.{Task}

-- each operator of the new task has the name and the cost of an old one
abbrev pub KeepsCosts : Task → Task → Type 0
KeepsCosts old new = (o' : Operator) → Contains new.operators o' → (o : Operator) × Contains old.operators o × (o.name ≡ o'.name) × (o.cost ≡ o'.cost)
