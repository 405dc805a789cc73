-- A task whose operators and whose other parts are those of the restriction is the restriction.
use Rattle.std.proofs.Common.{◌≡◌, List}
use Rattle.sas_task.specs.declared.parts.Operator.{Operator}
use Rattle.sas_task.specs.Task.{Task, of_parts}
use Rattle.sas_restriction.specs.declared.chosen.Once.{Once}
use Rattle.sas_restriction.specs.Choice.{Choice}
use Rattle.sas_restriction.specs.Restriction.{restriction}
use Rattle.sas_restriction.specs.declared.whole.Beside.{Beside}

pub joined : (once : Once) (C : Choice) (T : Task) (beside : Beside) (operators : List Operator) →
    beside ≡ (let new = restriction once C T in record { metric = new.metric; variables = new.variables; groups = new.groups; state = new.state; goal = new.goal; rules = new.rules }) →
    operators ≡ (restriction once C T).operators →
    of_parts beside.metric beside.variables beside.groups beside.state beside.goal operators beside.rules ≡ restriction once C T
joined once C T beside operators beside-is operators-are i =
    of_parts (beside-is i).metric (beside-is i).variables (beside-is i).groups (beside-is i).state (beside-is i).goal (operators-are i) (beside-is i).rules
