-- What comes of the whole task.
use Rattle.std.specs.Prelude.{◌≡◌, ℕ, List, [], ◌∷◌, Option, Some, None, true, length, ◌==◌, if◌then◌else◌}
use Rattle.pddl_syntax.specs.declared.types.Domain.{Domain}
use Rattle.pddl_syntax.specs.declared.types.Problem.{Problem}
use Rattle.normaliser.specs.declared.normal.MadeAll.{MadeAll}
use Rattle.normal_task.specs.declared.parts.Part.{Part}
use Rattle.normal_task.specs.declared.task.Literal.{Literal}
use Rattle.normal_task.specs.Normalised.{made_schemas, made_axioms, goal_of, made_goal, all_fresh}
use Rattle.normal_task.specs.Parts.{Made, parts}

-- the literals of the only part, if it has no variables
abbrev pub plain : List Part → Option (List Literal)
plain [] = None
plain (part ∷ []) = if length part.variables == 0 then Some part.literals else None
plain (part ∷ other ∷ more) = None

-- the goal's literals, where the first new predicate has this number
abbrev pub goal_from : Domain → Problem → ℕ → Made Literal
goal_from domain problem next = goal_of domain problem (parts domain problem problem.goal true [] 0 next) (parts domain problem problem.goal true [] 0 next).items next

-- what comes of the actions, the axioms and the goal
pub record IsMadeAll (domain : Domain) (problem : Problem) (all : MadeAll) : Type 0 where
  pub schemas : all.schemas ≡ (made_schemas domain problem).items
  pub axioms : all.axioms ≡ (made_axioms domain problem).items
  pub goal : all.goal ≡ (made_goal domain problem).items
  pub fresh : all.fresh ≡ all_fresh domain problem
