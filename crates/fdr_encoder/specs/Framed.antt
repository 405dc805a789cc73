-- The parts of an encoding beside its operators.
use Rattle.std.specs.Prelude.{ℕ, Bool, List}
use Rattle.std.specs.List.{flat_map}
use Rattle.sas_task.specs.declared.parts.Operator.{Operator}
use Rattle.sas_task.specs.Task.{Task}
use Rattle.sas_task.specs.Valid.{IsValid}
use Rattle.reached_task.specs.declared.types.Reached.{Reached}
use Rattle.fdr_effects.specs.Places.{Cover}
use Rattle.fdr_encoder.specs.declared.encoding.Frame.{Frame}
use Rattle.fdr_encoder.specs.Encoding.{IsEncoding}
use Rattle.fdr_encoder.specs.Operators.{operators_at}

-- the task with these operators
abbrev pub with_operators : Frame → Bool → List Operator → Task
with_operators frame metric operators =
    record {
      metric = metric;
      variables = frame.variables;
      groups = frame.groups;
      state = frame.state;
      goal = frame.goal;
      operators = operators;
      rules = frame.rules;
    }

-- with the operators of the reached task's actions it is the encoding
pub record Frames (cover : Cover) (mutexes : List (List ℕ)) (layers : List ℕ) (reached : Reached) (frame : Frame) : Type 0 where
  pub encoding : IsEncoding cover mutexes layers reached (with_operators frame reached.metric (flat_map (operators_at cover) reached.actions))
  pub valid : IsValid (with_operators frame reached.metric (flat_map (operators_at cover) reached.actions))
