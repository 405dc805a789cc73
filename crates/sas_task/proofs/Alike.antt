-- Tasks that differ only in the order of their parts do so either way round.
use Rattle.std.proofs.Common.{sym}
use Rattle.lists.proofs.SameMembers.{turned_round}
use Rattle.sas_task.specs.declared.parts.Operator.{Operator}
use Rattle.sas_task.specs.Task.{Task}
use Rattle.sas_task.specs.Alike.{IsAlike, AreAlike}

pub operator_back : (a b : Operator) → IsAlike a b → IsAlike b a
operator_back a b is = record { name = sym is.name; conditions = sym is.conditions; effects = turned_round a.effects b.effects is.effects; cost = sym is.cost }

pub task_back : (a b : Task) → AreAlike a b → AreAlike b a
task_back a b is =
    record {
      metric = sym is.metric;
      variables = sym is.variables;
      groups = turned_round a.groups b.groups is.groups;
      state = sym is.state;
      goal = sym is.goal;
      operators = is.back;
      back = is.operators;
      rules = turned_round a.rules b.rules is.rules;
    }
