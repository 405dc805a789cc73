-- Rows that were empty have what was added.
use Rattle.std.proofs.Common.{List, [], ◌++◌, length, replicate, ap, ◌∙◌, subst}
use Rattle.std.specs.List.{flat_map}
use Rattle.sas_task.specs.declared.parts.Operator.{Operator}
use Rattle.sas_task.specs.declared.parts.Rule.{Rule}
use Rattle.lists.specs.Rows.{Adds}
use Rattle.task_simplifier.specs.Moves.{moves_of_operator, moves_of_rule}
use Rattle.lists.proofs.RowSteps.{both, added_to_none}
use Rattle.task_simplifier.proofs.moves.moves_by_variable.Goals as goal

pub returns : goal.returns
returns c =
    let T = c.args.task.now in
    let empty = c.in_ok-moves.moves in
    let middle = c.add_operators.new.moves in
    let last = c.add_rules.new.moves in
    let one = subst (λ (os : List Operator). Adds (λ var. flat_map (moves_of_operator var) os) empty middle) c.operator_slice.ensures c.in_ok-add_operators.ensures in
    let two = subst (λ (rs : List Rule). Adds (λ var. flat_map (moves_of_rule var) rs) middle last) c.rule_slice.ensures c.in_ok-add_rules.ensures in
    added_to_none (length T.variables) (λ var. flat_map (moves_of_operator var) T.operators ++ flat_map (moves_of_rule var) T.rules) last
    (subst (λ rows. Adds (λ var. flat_map (moves_of_operator var) T.operators ++ flat_map (moves_of_rule var) T.rules) rows last) (c.in_ok-moves.ensures ∙ ap (λ n. replicate n []) c.variables.ensures)
    (both (λ var. flat_map (moves_of_operator var) T.operators) (λ var. flat_map (moves_of_rule var) T.rules) empty middle last one two))
