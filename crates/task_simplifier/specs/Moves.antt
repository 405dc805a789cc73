-- The moves of a variable, as effects and rules make them. Words of private contracts: no public clause cites them.
use Rattle.std.specs.Prelude.{ℕ, Bool, true, ◌==◌, ◌&&◌, ◌||◌, not, List, [], ◌++◌, Option, Some, None, if◌then◌else◌}
use Rattle.std.specs.List.{list_all, flat_map}
use Rattle.std.specs.Option.{option_map_or, option_or, option_to_list, unwrap_or}
use Rattle.sas_task.specs.declared.parts.Pair.{Pair}
use Rattle.sas_task.specs.declared.parts.Effect.{Effect}
use Rattle.sas_task.specs.declared.parts.Operator.{Operator}
use Rattle.sas_task.specs.declared.parts.Rule.{Rule}
use Rattle.sas_task.specs.Task.{Task}
use Rattle.sas_task.specs.Output.{value_in}
use Rattle.names.specs.declared.arcs.Arc.{Arc}
use Rattle.task_simplifier.specs.declared.moves.Move.{Move}

-- whether the conditions leave this value for the variable
abbrev pub leave : List Pair → ℕ → ℕ → Bool
leave conditions var val = list_all (λ p. not (p.var == var) || (p.val == val)) conditions

-- the value that two lists of conditions name for the variable, if one of them names any
abbrev pub named : ℕ → List Pair → List Pair → Option ℕ
named var first second = option_or (value_in first var) (value_in second var)

-- whether both lists leave the value that they name. Where they name none, they leave each
abbrev pub agree : ℕ → List Pair → List Pair → Bool
agree var first second = option_map_or (λ val. leave first var val && leave second var val) (named var first second) true

-- the move of the variable to the value, from what both lists leave
abbrev pub move_to : ℕ → ℕ → List Pair → List Pair → Option Move
move_to var to first second = if agree var first second then Some (record { from = named var first second; to = to }) else None

-- the same as a move of another variable, which it is only where the two are one
abbrev pub moves_on : ℕ → ℕ → ℕ → List Pair → List Pair → List Move
moves_on other var to first second = if var == other then option_to_list (move_to var to first second) else []

-- the moves of a variable that an effect, an operator and a rule make
abbrev pub moves_of_effect : ℕ → Operator → Effect → List Move
moves_of_effect var operator effect = moves_on var effect.var effect.after operator.conditions effect.conditions

abbrev pub moves_of_operator : ℕ → Operator → List Move
moves_of_operator var operator = flat_map (moves_of_effect var operator) operator.effects

abbrev pub moves_of_rule : ℕ → Rule → List Move
moves_of_rule var rule = moves_on var rule.var rule.after rule.conditions []

-- all moves of a variable
abbrev pub moves_of : Task → ℕ → List Move
moves_of task var = flat_map (moves_of_operator var) task.operators ++ flat_map (moves_of_rule var) task.rules

-- a move as an arc between values: one that leads from each value leads from the first one, which is reached in any case
abbrev pub arc : ℕ → Move → Arc
arc start move = record { from = unwrap_or move.from start; to = move.to }
