-- What a written task comes to, by its text.
use Rattle.std.proofs.Common.{◌≡◌, ℕ, List, [], Result, Ok, Err, refl, sym, ap, subst}
use Rattle.std.specs.Prelude.{Contains, Some}
use Rattle.tl_device.specs.Contents.{Contents}
use Rattle.command_line.specs.Accepted.{WrittenTask}
use Rattle.command_line.specs.declared.accepted.Settings.{Settings}
use Rattle.lists.specs.Stops.{IfFault}
use Rattle.sas_reader.specs.Forms.{Reading, Unread, unread}
use Rattle.lists.specs.declared.stop.Stop.{Stop}
use Rattle.lists.specs.declared.stop.Stop.TheVariants as stops
use Rattle.sas_reader.specs.declared.fault.SasFault.{SasFault}
use Rattle.sas_reader.specs.Text.{task, read_of, fault_of, reading_of, line_fault}
use Rattle.invariant_guess.specs.declared.types.Found.{Found}
use Rattle.sas_task.specs.Task.{Task}
use Rattle.sas_task.specs.Valid.{IsValid}
use Rattle.messages.specs.declared.outcome.Message.TheVariants as messages
use Rattle.translator.specs.Ending.{Ending, Gives, Refused, ◌>>=◌}
use Rattle.run_task.specs.RunTask.{Start, FromTask, nothing_found}
use Rattle.translator.specs.Run.{text, read, unless_broken, of_task_text, of_source}
use Rattle.translator.specs.Store.{Store}
use Rattle.translator.specs.Stages.{IsRead, IsMadeOf}
use Rattle.translator.proofs.Stages.{IsToldOf}
use Rattle.translator.proofs.Sources.{if_told}

-- ---- a text

of_fault : (name : List ℕ) (reading : Reading Task) (fault : SasFault) → fault_of reading ≡ Some fault → unless_broken name (read_of reading) ≡ Refused name (messages.TaskLine fault)
of_fault name (Ok read) fault is = absurd (cc (is))
of_fault name (Err found) fault is =
    let same : found ≡ fault = cc (is) in
    ap (λ (f : SasFault). Refused name (messages.TaskLine f)) same

-- the first line that breaks its rule
pub broken_line : (name bytes : List ℕ) (end : Stop SasFault) (fault : SasFault) → end ≡ stops.Fault fault → IfFault {A = Unit {0}} (Err end) (λ found. line_fault bytes ≡ Some found)
    → of_task_text (text name bytes) ≡ Refused name (messages.TaskLine fault)
broken_line name bytes end fault is first =
    of_fault name (task (unread bytes)) fault (subst (λ (e : Stop SasFault). IfFault {A = Unit {0}} (Err e) (λ found. line_fault bytes ≡ Some found)) is first)

-- what is read is valid
module _ (bytes : List ℕ) (valid : (read : Task) (after : Unread) → task (unread bytes) ≡ Ok (read, after) → IsValid read) (read : Task) where
  of_reading : (reading : Reading Task) → task (unread bytes) ≡ reading → read_of reading ≡ Ok read → IsValid read
  of_reading (Ok (found, after)) is given =
      let same : found ≡ read = cc (given) in
      subst IsValid same (valid found after is)
  of_reading (Err fault) is given = absurd (cc (given))

  pub read_valid : reading_of bytes ≡ Ok read → IsValid read
  read_valid given = of_reading (task (unread bytes)) refl given

-- a fault is told of the text's name
told_reading : (names : List (List ℕ)) (name : List ℕ) (reading : Result Task SasFault) → Contains names name → IsToldOf names (unless_broken name reading)
told_reading names name (Ok read) in' = tt
told_reading names name (Err fault) in' = in'

pub task_told : (names : List (List ℕ)) (name bytes : List ℕ) → Contains names name → IsToldOf names (of_task_text (text name bytes))
task_told names name bytes = told_reading names name (reading_of bytes)

-- ---- a file

pub task_begins : (name : List ℕ) (held : Contents) → of_source held (WrittenTask name) ≡ (read held name >>= of_task_text)
unfolding of_source
task_begins name held = refl

-- without passes, the run's task is the written one
pub task_made_so : (name : List ℕ) (before now : Store) (settings : Settings) (found : Found) (written : Task) → found ≡ nothing_found
    → IsRead before now (λ held. of_source held (WrittenTask name) ≡ Gives (FromTask written)) → IsRead before now (λ held. IsMadeOf (of_source held (WrittenTask name)) settings [] found written)
task_made_so name before now settings found written nothing gives = (
  gives.0,
  if_told (λ held. of_source held (WrittenTask name) ≡ Gives (FromTask written)) _ before.files
      (λ held comes. subst (λ (e : Ending Start). IsMadeOf e settings [] found written) (sym comes) (nothing, refl)) gives.1,
)
