-- Part by part what is made is the encoding's, so that it is one with the operators, and valid.
use Rattle.std.proofs.Common.{length, refl, ap, ◌∙◌}
use Rattle.std.specs.List.{flat_map}
use Rattle.sas_task.specs.Task.{Task}
use Rattle.fdr_encoder.specs.Encoding.{layer_above}
use Rattle.fdr_encoder.specs.Framed.{with_operators}
use Rattle.fdr_encoder.specs.GoalForms.{goal_part_in}
use Rattle.fdr_encoder.specs.Operators.{operators_at}
use Rattle.fdr_encoder.proofs.Assembled.{assembled}
use Rattle.fdr_encoder.proofs.Validity.{encoding_is_valid}
use Rattle.fdr_encoder.proofs.encoding.frame_over.Goals as goal

pub returns-clause-frames : goal.returns-clause-frames
returns-clause-frames c =
    let cover = c.args.index in
    let reached = c.args.reached.now in
    let layers = c.args.layers.now in
    let mutexes = c.args.mutexes.now in
    let above = layer_above reached layers in
    let added = goal_part_in (length cover) above c.args.goal.now in
    let operators = flat_map (operators_at cover) reached.actions in
    let task : Task = record {
      metric = reached.metric;
      variables = c.in_ok-variables.variables;
      groups = c.in_ok-groups.groups;
      state = c.in_ok-state.state;
      goal = c.in_ok-pairs.pairs;
      operators = operators;
      rules = c.in_ok-rules.rules;
    } in
    let encoding = assembled cover mutexes layers reached added task (c.requires.goal (length cover) above) refl (c.in_ok-variables.ensures (length cover)) c.in_ok-groups.ensures (c.in_ok-state.ensures (length cover) above) (c.in_ok-pairs.ensures above ∙ ap (λ var. (goal_part_in var above c.args.goal.now).goal) c.variables.ensures) refl (c.in_ok-rules.ensures above) in
    record {
      encoding = encoding;
      valid = encoding_is_valid reached c.requires.lawful cover c.requires.cover mutexes c.requires.groups layers c.requires.layers c.requires.few task encoding;
    }
