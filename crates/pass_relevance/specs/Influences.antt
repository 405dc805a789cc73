-- What influences what in a task, as arcs of a graph. Words of private contracts: no public clause cites them.
-- The graph's nodes are the variables, by their numbers, and behind them the operators, by their places.
use Rattle.std.specs.Prelude.{ℕ, ◌+◌, ◌-◌, ◌==◌, List, [], ◌∷◌, ◌++◌, map, length, slice_get, slice_index_or, if◌then◌else◌}
use Rattle.std.specs.List.{flat_map, range_with_len}
use Rattle.std.specs.Option.{option_map_or}
use Rattle.sas_task.specs.declared.parts.Pair.{Pair}
use Rattle.sas_task.specs.declared.parts.Effect.{Effect}
use Rattle.sas_task.specs.declared.parts.Operator.{Operator}
use Rattle.sas_task.specs.declared.parts.Rule.{Rule}
use Rattle.sas_task.specs.Task.{Task}
use Rattle.sas_task.specs.Effects.{fact_of}
use Rattle.sas_task.specs.Orders.{pair_cmp}
use Rattle.sas_task.specs.InOrder.{sorted}
use Rattle.names.specs.declared.arcs.Arc.{Arc}

abbrev pub arc : ℕ → ℕ → Arc
arc from to = record { from = from; to = to }

-- arcs to the variables of the pairs
abbrev pub arcs_to : ℕ → List Pair → List Arc
arcs_to from pairs = map (λ p. arc from p.var) pairs

-- from an effect's variable to its operator and to the variables of its conditions
abbrev pub arcs_of_effect : ℕ → Effect → List Arc
arcs_of_effect node e = arc e.var node ∷ arcs_to e.var e.conditions

-- the facts that effects make true, in order, each once
abbrev pub written : List Effect → List Pair
written effects = sorted pair_cmp (map fact_of effects)

abbrev pub pair_at : List Pair → ℕ → Pair
pair_at pairs place = slice_index_or pairs place (record { var = 0; val = 0 })

-- to the variable of the pair at a place, if the next pair is of it too
abbrev pub arcs_of_two : ℕ → List Pair → ℕ → List Arc
arcs_of_two node pairs place = if (pair_at pairs place).var == (pair_at pairs (place + 1)).var then arc node (pair_at pairs place).var ∷ [] else []

-- to each variable that two neighbours are of
abbrev pub disagreements : ℕ → List Pair → List Arc
disagreements node pairs = flat_map (arcs_of_two node pairs) (range_with_len 0 (length pairs - 1))

-- from an operator to the variables of its conditions and to those that it may set to two values, and from the variables of its effects to it and to those of their conditions
abbrev pub arcs_of_operator : ℕ → Operator → List Arc
arcs_of_operator node o = (arcs_to node o.conditions ++ flat_map (arcs_of_effect node) o.effects) ++ disagreements node (written o.effects)

-- the arcs of the operator at this place
abbrev pub arcs_at : Task → ℕ → List Arc
arcs_at task i = option_map_or (arcs_of_operator (length task.variables + i)) (slice_get task.operators i) []

-- from a rule's variable to those of its conditions
abbrev pub arcs_of_rule : Rule → List Arc
arcs_of_rule r = arcs_to r.var r.conditions

abbrev pub influences : Task → List Arc
influences task = flat_map (arcs_at task) (range_with_len 0 (length task.operators)) ++ flat_map arcs_of_rule task.rules
