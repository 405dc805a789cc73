-- Tasks with other schemas.
use Rattle.std.specs.Prelude.{List, []}
use Rattle.normal_task.specs.declared.task.Normal.{Normal}
use Rattle.normal_task.specs.declared.task.Schema.{Schema}

-- the task with these schemas
abbrev pub with_schemas : Normal → List Schema → Normal
with_schemas task schemas =
    record {
      objects = task.objects;
      predicates = task.predicates;
      schemas = schemas;
      axioms = task.axioms;
      init = task.init;
      values = task.values;
      goal = task.goal;
      metric = task.metric;
    }

-- the task without its schemas
abbrev pub without_schemas : Normal → Normal
without_schemas task = with_schemas task []
