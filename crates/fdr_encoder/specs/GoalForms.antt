-- Words of the code: the two forms that the goal has in the task.
use Rattle.std.specs.Prelude.{ℕ, [], ◌∷◌, map}
use Rattle.sas_task.specs.Pairs.{pair}
use Rattle.fdr_encoder.specs.declared.goal.GoalForm.{GoalForm}
use Rattle.fdr_encoder.specs.declared.goal.GoalForm.TheVariants.{OnePart, Split}
use Rattle.fdr_encoder.specs.Encoding.{rule, GoalPart, goal_variable}

-- what a goal in this form adds to the task
abbrev pub goal_part_in : ℕ → ℕ → GoalForm → GoalPart
goal_part_in var layer (OnePart part) = record { variables = []; values = []; rules = []; goal = part }
goal_part_in var layer (Split parts) = record { variables = goal_variable layer ∷ []; values = 1 ∷ []; rules = map (rule var) parts; goal = pair var 0 ∷ [] }
