-- What a run makes of a pair: the invariants that it finds, the task that the passes make, one after another, and what is written of both.
use Rattle.std.specs.Prelude.{◌≡◌, ℕ, Bool, ◌^◌, ◌<◌, List, [], length, sum_by}
use Rattle.command_line.specs.declared.accepted.Settings.{Settings}
use Rattle.type_checker.specs.Checked.{FilePair}
use Rattle.normal_task.specs.declared.task.Normal.{Normal}
use Rattle.normal_task.specs.Normalised.{normal}
use Rattle.invariant_guess.specs.declared.types.Found.{Found}
use Rattle.invariant_guess.specs.Trial.{IsFound}
use Rattle.reached_task.specs.declared.types.Reached.{Reached}
use Rattle.reached_task.specs.Layers.{AreLayers}
use Rattle.mutex_groups.specs.Groups.{AreGroups}
use Rattle.mutex_groups.specs.Laws.{IsReachedOf}
use Rattle.group_cover.specs.Cover.{IsCover}
use Rattle.fdr_encoder.specs.Encoding.{IsEncoding}
use Rattle.task_simplifier.specs.Projection.{IsProjection}
use Rattle.pass_book.specs.declared.kind.PassKind.{PassKind}
use Rattle.pass_book.specs.Passes.{IsChain}
use Rattle.sas_task.specs.Task.{Task}
use Rattle.sas_task.specs.Output.{text_of}
use Rattle.messages.specs.declared.outcome.Summary.{Summary}

-- The task encodes what can be reached of the instances of the normal task, over the cover of the facts by the mutex groups of the candidates that were found, with `full` by whole groups.
pub record IsRunEncoding (full : Bool) (made : Normal) (found : Found) (encoded : Task) : Type 0 where
  pub reached : Reached
  pub layers : List ℕ
  pub groups : List (List ℕ)
  pub sets : List (List ℕ)
  pub is_reached : IsReachedOf made reached
  -- its facts are counted in 64 bits
  pub few : length reached.facts < 2 ^ 64
  pub are_layers : AreLayers reached layers
  pub are_groups : AreGroups made found.accepted reached groups
  pub is_cover : IsCover full (length reached.facts) groups sets
  pub encodes : IsEncoding sets groups layers reached encoded

-- the task is the projection of such an encoding
pub record IsRunTask (full : Bool) (made : Normal) (found : Found) (task : Task) : Type 0 where
  pub encoded : Task
  pub encoding : IsRunEncoding full made found encoded
  pub projection : IsProjection encoded task

-- A run makes this task of the pair, and finds these invariants, over as many candidates at most as the settings say: its own task, over whole groups where they say so, changed by the passes that are asked for, one after another.
pub record IsTaskOf (pair : FilePair) (settings : Settings) (passes : List PassKind) (found : Found) (task : Task) : Type 0 where
  pub is_found : IsFound (normal pair.domain pair.problem) settings.max_candidates found
  pub first : Task
  pub is_run_task : IsRunTask settings.full_encoding (normal pair.domain pair.problem) found first
  pub chain : IsChain passes first task

-- what a source comes to: a pair without faults, or a written task
pub data Start : Type 0 where
  FromPair : (pair : FilePair) → Start
  FromTask : (written : Task) → Start

-- what is found where no invariants are searched for
abbrev pub nothing_found : Found
nothing_found = record { tried = 0; accepted = [] }

-- A run makes this task of its start, with these invariants: of a pair with those that it finds, and of a written task by the passes alone, with none.
abbrev pub IsMadeFrom : Start → Settings → List PassKind → Found → Task → Type 0
IsMadeFrom (FromPair pair) settings passes found task = IsTaskOf pair settings passes found task
IsMadeFrom (FromTask written) settings passes found task = (found ≡ nothing_found) × IsChain passes written task

-- how many candidates for invariants were tried and accepted, and the sizes of the task; the facts are the sum of the ranges of all variables
abbrev pub summary_of : Found → Task → Summary
summary_of found task =
    record {
      candidates = found.tried;
      invariants = length found.accepted;
      variables = length task.variables;
      facts = sum_by (λ v. length v.facts) task.variables;
      mutex_groups = length task.groups;
      operators = length task.operators;
      axioms = length task.rules;
    }

-- what is written: the text of a task, the numbers that are printed, and the lines on a plan that is mapped back
pub record Output : Type 0 where
  pub text : List ℕ
  pub summary : Summary
  pub plan : List ℕ

abbrev pub output_of : Found → Task → List ℕ → Output
output_of found task plan = record { text = text_of task; summary = summary_of found task; plan = plan }
