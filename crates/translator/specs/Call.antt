-- What a call of the translator comes to, prints and leaves.
use Rattle.std.specs.Prelude.{◌≡◌, ◌⊎◌, ℕ, ◌≤◌, List, Contains, IfSome, IsSomeAnd}
use Rattle.std.specs.declared.option.Option.{Option}
use Rattle.std.specs.declared.option.Option.TheVariants.{Some, None}
use Rattle.std.specs.Io.KnownBytes.{append_known}
use Rattle.tl_device.specs.Contents.{Contents, IsAskedFor, GrownInPart, PrintedInPart, emptied, grown}
use Rattle.tl_device.specs.Causes.{Rose}
use Rattle.messages.specs.declared.outcome.Message.{Message}
use Rattle.messages.specs.declared.outcome.Status.{Status}
use Rattle.messages.specs.declared.outcome.Status.TheVariants as statuses
use Rattle.messages.specs.Messages.{usage_line, memory_line, unreadable_line, unwritable_line, refusal_line, task_lines}
use Rattle.translator.specs.Asked.{Asked}
use Rattle.translator.specs.Ending.{Gives, Absent, Refused}
use Rattle.run_task.specs.RunTask.{Output}
use Rattle.translator.specs.Run.{ComesTo, all_inputs, all_titles}
use Rattle.translator.specs.Store.{Store, IsUntouched, Screen}

-- The file of this name, which is one of these, can't be read: it was asked for last, and reading failed, or, where the files are told, it is absent.
pub record IsUnread (before now : Store) (names : List (List ℕ)) (name : List ℕ) (IsAbsent : Contents → Type 0) : Type 0 where
  pub input : Contains names name
  pub last : IsAskedFor now.asked name
  pub later : before.reads ≤ now.reads
  pub cause : Rose before.reads now.reads ⊎ IsSomeAnd before.files IsAbsent

-- The text of this name, which is one of these, is refused, and where the files are told it has to be.
pub record IsRefused (before now : Store) (names : List (List ℕ)) (name : List ℕ) (HasFault : Contents → Type 0) : Type 0 where
  pub input : Contains names name
  pub reads : now.reads ≡ before.reads
  pub told : IfSome before.files HasFault

-- The output file holds the text of what the run comes to, and each other file what it held.
pub record IsWritten (files files_now : Option Contents) (asked : Asked) (output : Output) : Type 0 where
  pub comes : IfSome files (λ held. ComesTo held asked (Gives output))
  pub whole : files_now ≡ grown (emptied files asked.output) asked.output output.text

-- It holds a front of the text.
pub record IsWrittenInPart (files files_now : Option Contents) (asked : Asked) (output : Output) : Type 0 where
  pub comes : IfSome files (λ held. ComesTo held asked (Gives output))
  pub part : GrownInPart (emptied files asked.output) files_now asked.output output.text

-- Writing failed: all files are as before, or the output file holds a front of the text.
pub record IsUnwritten (before now : Store) (asked : Asked) (output : Output) : Type 0 where
  pub comes : IfSome before.files (λ held. ComesTo held asked (Gives output))
  pub part : (now.files ≡ before.files) ⊎ GrownInPart (emptied before.files asked.output) now.files asked.output output.text
  pub reads : now.reads ≡ before.reads
  pub later : before.writes ≤ now.writes
  pub rose : Rose before.writes now.writes

-- How the work on what the words ask for ends: the status that it means, and what is to be printed. Memory can run out wherever nothing is written yet.
pub data Ends (before now : Store) (words : Option Asked) : Status → List ℕ → Type 0 where
  misused : words ≡ None → IsUntouched before now → now.reads ≡ before.reads → Ends before now words statuses.Usage usage_line
  starved : IsUntouched before now → now.reads ≡ before.reads → Ends before now words statuses.NoMemory memory_line
  unread : (asked : Asked) (name : List ℕ) → words ≡ Some asked → IsUntouched before now
      → IsUnread before now (all_inputs asked) name (λ held. ComesTo held asked (Absent name)) → Ends before now words statuses.Device (unreadable_line name)
  refused : (asked : Asked) (name : List ℕ) (message : Message) → words ≡ Some asked → IsUntouched before now
      → IsRefused before now (all_titles asked) name (λ held. ComesTo held asked (Refused name message)) → Ends before now words statuses.InputFault (refusal_line name message)
  unwritten : (asked : Asked) (output : Output) → words ≡ Some asked → IsUnwritten before now asked output → Ends before now words statuses.Device (unwritable_line asked.output)
  written : (asked : Asked) (output : Output) → words ≡ Some asked → IsWritten before.files now.files asked output
      → now.reads ≡ before.reads → now.writes ≡ before.writes → Ends before now words statuses.Done (task_lines output.summary output.plan)

-- What was printed. The console took the whole text, or it failed after a front of it.
pub data Printed (text : List ℕ) (meant : Status) (before now : Screen) : Status → Type 0 where
  whole : now.printed ≡ append_known before.printed text → now.faults ≡ before.faults → Printed text meant before now meant
  part : PrintedInPart before.printed now.printed text → Rose before.faults now.faults → Printed text meant before now statuses.Device

-- The work ended in one of these ways, and the text of that was printed.
pub data Called (before now : Store) (words : Option Asked) (screen screen_now : Screen) (status : Status) : Type 0 where
  called : (meant : Status) (text : List ℕ) → Ends before now words meant text → Printed text meant screen screen_now status → Called before now words screen screen_now status
