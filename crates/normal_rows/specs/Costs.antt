-- What actions cost.
use Rattle.std.specs.Prelude.{List, [], ◌∷◌, Option, Some, None, if◌then◌else◌}
use Rattle.pddl_syntax.specs.declared.types.Action.{Action}
use Rattle.pddl_syntax.specs.declared.types.Domain.{Domain}
use Rattle.pddl_syntax.specs.declared.types.Problem.{Problem}
use Rattle.pddl_syntax.specs.Step.{increases}
use Rattle.normal_task.specs.declared.task.CostRow.{CostRow}
use Rattle.normal_task.specs.declared.task.CostRow.TheVariants as costs
use Rattle.normal_task.specs.Normalised.{increase_row}
use Rattle.normal_task.specs.Parts.{Scope}

-- the first item, if there is one
abbrev pub first : {A : Type 0} → List A → Option A
first [] = None
first (item ∷ more) = Some item

-- what the action costs, where its parameters have this scope
abbrev pub cost_of : Domain → Problem → Scope → Action → CostRow
cost_of domain problem scope action = if problem.metric then increase_row domain problem scope (increases action.effect) else costs.Number 1
