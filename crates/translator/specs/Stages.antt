-- What the functions of the stages answer, by how a stage ends.
use Rattle.std.specs.Prelude.{◌≡◌, ℕ, List, [], Result, Ok, Err, IfSome, ⊤}
use Rattle.std.specs.declared.option.Option.{Option}
use Rattle.std.specs.declared.option.Option.TheVariants.{Some, None}
use Rattle.tl_device.specs.Contents.{Contents}
use Rattle.messages.specs.declared.outcome.End.{End}
use Rattle.messages.specs.declared.outcome.End.TheVariants as ends
use Rattle.translator.specs.Asked.{Asked}
use Rattle.command_line.specs.declared.accepted.Settings.{Settings}
use Rattle.invariant_guess.specs.declared.types.Found.{Found}
use Rattle.pass_book.specs.declared.kind.PassKind.{PassKind}
use Rattle.sas_task.specs.Task.{Task}
use Rattle.translator.specs.declared.translation.Input.{Input}
use Rattle.translator.specs.declared.work.Written.{Written}
use Rattle.translator.specs.Ending.{Ending, Gives, Absent, Refused, ◌>>=◌}
use Rattle.run_task.specs.RunTask.{Output, Start, IsMadeFrom}
use Rattle.translator.specs.Texts.{Text, text, read}
use Rattle.translator.specs.Plan.{mapped_lines}
use Rattle.translator.specs.Store.{Store}
use Rattle.translator.specs.Call.{IsUnread, IsRefused}

abbrev pub text_by : Input → Text
text_by input = text input.name.now input.bytes.now

abbrev pub output_by : Written → Output
output_by written = record { text = written.text.items; summary = written.report.summary; plan = written.report.plan.items }

-- why the words ask for nothing
abbrev pub IsRefusal : Option Asked → End → Type 0
IsRefusal words ends.Usage = words ≡ None
IsRefusal words ends.NoMemory = ⊤
IsRefusal words end = ⊥

-- ---- stages on values

-- why there is nothing to go on with
abbrev pub StopsWhere : {A : Type 0} → Ending A → End → Type 0
StopsWhere e ends.NoMemory = ⊤
StopsWhere e (ends.Refused name message) = e ≡ Refused name.now message
StopsWhere e end = ⊥

-- what there is to go on with, or why there is nothing
abbrev pub Answers : {A : Type 0} → Ending A → Result A End → Type 0
Answers e (Ok value) = e ≡ Gives value
Answers e (Err end) = StopsWhere e end

-- a start is given, and this task is made of it
abbrev pub IsMadeOf : Ending Start → Settings → List PassKind → Found → Task → Type 0
IsMadeOf (Gives start) settings passes found task = IsMadeFrom start settings passes found task
IsMadeOf (Absent name) settings passes found task = ⊥
IsMadeOf (Refused name message) settings passes found task = ⊥

-- what the plan file of this name comes to, by its lines too, and no lines where none is named
unfoldable pub of_plan : Contents → Option (List ℕ) → Task → Ending (List ℕ)
of_plan files None task = Gives []
of_plan files (Some name) task = read files name >>= mapped_lines task

-- ---- stages that read from a store

-- no read failed, and where the files are told, they are so
abbrev pub IsRead : Store → Store → (Contents → Type 0) → Type 0
IsRead before now P = (now.reads ≡ before.reads) × IfSome before.files P

-- why there is nothing to go on with, where these files are read, faults are told of these names, and where the files are told, the stage comes to this
abbrev pub StopsReading : {A : Type 0} → Store → Store → (names titles : List (List ℕ)) → (Contents → Ending A → Type 0) → End → Type 0
StopsReading before now names titles Comes ends.NoMemory = now.reads ≡ before.reads
StopsReading before now names titles Comes (ends.CannotRead name) = IsUnread before now names name.now (λ held. Comes held (Absent name.now))
StopsReading before now names titles Comes (ends.Refused name message) = IsRefused before now titles name.now (λ held. Comes held (Refused name.now message))
StopsReading before now names titles Comes end = ⊥
