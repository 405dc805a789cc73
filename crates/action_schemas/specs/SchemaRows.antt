-- What the code's values say of schemas.
use Rattle.std.specs.Prelude.{ℕ, ◌+◌, List, [], ◌++◌, true, map, length}
use Rattle.pddl_syntax.specs.declared.types.Action.{Action}
use Rattle.pddl_syntax.specs.declared.types.Domain.{Domain}
use Rattle.pddl_syntax.specs.declared.types.Problem.{Problem}
use Rattle.normal_rows.specs.Costs.{cost_of}
use Rattle.action_schemas.specs.declared.schemas.Shared.{Shared}
use Rattle.normal_task.specs.declared.parts.Part.{Part}
use Rattle.normal_task.specs.declared.task.EffectRow.{EffectRow}
use Rattle.normal_task.specs.declared.task.Schema.{Schema}
use Rattle.normal_task.specs.Normalised.{moved_row, rows_of}
use Rattle.normal_task.specs.Numbers.{ranges_of}
use Rattle.normal_task.specs.Parts.{Scope, Made, parts}

-- the schema of a part of the action's precondition, where the parameters have this scope and range over these lists
abbrev pub schema_from : Domain → Problem → Action → Scope → List (List ℕ) → List EffectRow → Part → Schema
schema_from domain problem action scope ranges rows part =
    record {
      action = action.name.name;
      shown = length action.parameters;
      parameters = ranges ++ part.variables;
      condition = part.literals;
      effects = map (moved_row domain problem (length action.parameters) (length part.variables)) rows;
      cost = cost_of domain problem scope action;
    }

-- the schema of a part, from what the schemas of an action share
abbrev pub shared_schema : Domain → Problem → Shared → Part → Schema
shared_schema domain problem shared part = schema_from domain problem shared.action.now shared.scope.now shared.ranges.now shared.rows.now part

-- the schemas of the action from its parts and its effects
abbrev pub schemas_of_parts : Domain → Problem → Action → Scope → Made Part → Made EffectRow → Made Schema
schemas_of_parts domain problem action scope precondition effects =
    record {
      items = map (schema_from domain problem action scope (ranges_of domain problem action.parameters) effects.items) precondition.items;
      fresh = precondition.fresh ++ effects.fresh;
    }

-- the schemas of the action, where its parameters have this scope
abbrev pub schemas_in_scope : Domain → Problem → Action → Scope → ℕ → Made Schema
schemas_in_scope domain problem action scope next =
    schemas_of_parts domain problem action scope (parts domain problem action.precondition true scope (length action.parameters) next)
    (rows_of domain problem action.effect [] scope (length action.parameters) (next + length (parts domain problem action.precondition true scope (length action.parameters) next).fresh))
