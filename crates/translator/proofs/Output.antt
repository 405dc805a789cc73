-- The output file, once it was created and the text was written to the name that is being written.
use Rattle.std.proofs.Common.{◌≡◌, ◌≤◌, ◌⊎◌, ℕ, List, OnOk, OnErr, Result, Ok, Err, ap, ◌∙◌, subst, inr}
use Rattle.std.specs.declared.option.Option.{Option}
use Rattle.std.specs.declared.option.Option.TheVariants.{Some, None}
use Rattle.tl_device.specs.Contents.{Contents, IsTold, GrownInPart, emptied, grown}
use Rattle.tl_device.specs.Causes.{Rose}
use Rattle.tl_device.proofs.Grown.{grown_at, part_at}
use Rattle.messages.specs.declared.outcome.Status.TheVariants as statuses
use Rattle.messages.specs.Messages.{task_lines, unwritable_line}
use Rattle.translator.specs.Asked.{Asked}
use Rattle.translator.specs.Ending.{Gives}
use Rattle.run_task.specs.RunTask.{Output}
use Rattle.translator.specs.Run.{ComesTo}
use Rattle.translator.specs.Store.{Store, IsUntouched}
use Rattle.translator.specs.Call.{Ends, written, unwritten}
use Rattle.translator.specs.Stages.{IsRead}

-- the output file of this name holds the text, and the other files what they held
abbrev IsWhole : List ℕ → Option Contents → Option Contents → List ℕ → Type 0
IsWhole output before now text = now ≡ grown (emptied before output) output text

-- all files are as before, or the output file holds a front of the text
abbrev IsLeftInPart : List ℕ → Option Contents → Option Contents → List ℕ → Type 0
IsLeftInPart output before now text = (now ≡ before) ⊎ GrownInPart (emptied before output) now output text

told_emptied : (files : Option Contents) (name : List ℕ) → IsTold (emptied files name) → IsTold files
told_emptied None name told = told
told_emptied (Some m) name told = told

module _ (output : List ℕ) (before mid now : Option Contents) (here text : List ℕ) (empties : mid ≡ emptied before output) (named : IsTold before → here ≡ output) where
  whole : now ≡ grown mid here text → IsWhole output before now text
  whole grows =
      grows ∙ ap (λ (f : Option Contents). grown f here text) empties ∙ grown_at (emptied before output) here output text (λ told. named (told_emptied before output told))

  part : GrownInPart mid now here text → IsLeftInPart output before now text
  part grows =
      inr (part_at (emptied before output) now here output text (λ told. named (told_emptied before output told)) (subst (λ (f : Option Contents). GrownInPart f now here text) empties grows))

  pub output_whole : {A E : Type 0} (result : Result A E) → OnOk result (now ≡ grown mid here text) → OnOk result (IsWhole output before now text)
  output_whole (Ok value) grows = whole grows
  output_whole (Err error) grows = tt

  pub output_part : {A E : Type 0} (result : Result A E) → OnErr result (GrownInPart mid now here text) → OnErr result (IsLeftInPart output before now text)
  output_part (Ok value) grows = tt
  output_part (Err error) grows = part grows

-- ---- how the work ends once there is something to write

module _ (before mid now : Store) (words : Option Asked) (asked : Asked) (output : Output) (text : List ℕ) (named : words ≡ Some asked) (untouched : IsUntouched before mid)
    (read : IsRead before mid (λ held. ComesTo held asked (Gives output))) (same : text ≡ output.text) where
  pub work_written : IsWhole asked.output mid.files now.files text → now.writes ≡ mid.writes → now.reads ≡ mid.reads → Ends before now words statuses.Done (task_lines output.summary output.plan)
  work_written grows writes reads =
      let from_before = grows ∙ ap (λ (f : Option Contents). grown (emptied f asked.output) asked.output text) untouched.files in
      written asked output named (record { comes = read.1; whole = from_before ∙ ap (grown (emptied before.files asked.output) asked.output) same }) (reads ∙ read.0) (writes ∙ untouched.writes)

  pub work_unwritten : IsLeftInPart asked.output mid.files now.files text → mid.writes ≤ now.writes → Rose mid.writes now.writes → now.reads ≡ mid.reads → Ends before now words statuses.Device (unwritable_line asked.output)
  work_unwritten left later rose reads =
      unwritten asked output named (record {
        comes = read.1;
        part = subst (λ (t : List ℕ). IsLeftInPart asked.output before.files now.files t) same (subst (λ (f : Option Contents). IsLeftInPart asked.output f now.files text) untouched.files left);
        reads = reads ∙ read.0;
        later = subst (λ (n : ℕ). n ≤ now.writes) untouched.writes later;
        rose = subst (λ (n : ℕ). Rose n now.writes) untouched.writes rose;
      })
