-- What an answer that the text gives says.
use Rattle.std.proofs.Common.{◌≡◌, ◌<◌, ◌^◌, ◌↔◌, ℕ, length, List, Some, None, Result, Ok, Err, refl, sym, ap, ◌∙◌}
use Rattle.std.specs.Prelude.{IsOk, IfOk, OnOk}
use Rattle.std.proofs.lemmas.Option.{none-some, same_Some}
use Rattle.sas_task.specs.Task.{Task}
use Rattle.sas_reader.specs.declared.fault.SasFault.{SasFault}
use Rattle.lists.specs.declared.stop.Stop.{Stop}
use Rattle.lists.specs.declared.stop.Stop.TheVariants as stops
use Rattle.lists.specs.Stops.{IfFault, UnlessNoMemory}
use Rattle.sas_reader.specs.Answers.{Tells}
use Rattle.sas_reader.specs.Forms.{Reading, unread}
use Rattle.sas_reader.specs.Text.{task, read_of, reading_of, fault_of, line_fault, IsTextOf, HasTask}
use Rattle.sas_task.specs.Valid.{IsValid}
use Rattle.sas_reader.proofs.Kept.{read_same}
use Rattle.sas_reader.proofs.AgainRest.{text_again}
use Rattle.sas_reader.proofs.WholeText.{task_read}

pub told_text : (bytes : List ℕ) (r : Result Task (Stop SasFault)) → Tells r (task (unread bytes)) → IfOk r (λ t. IsTextOf bytes t)
told_text bytes (Ok t) told = (task_read bytes t told.0 told.1).1
told_text bytes (Err e) told = tt

pub told_read : (bytes : List ℕ) (r : Result Task (Stop SasFault)) → Tells r (task (unread bytes)) → IfOk r (λ t. reading_of bytes ≡ Ok t)
told_read bytes (Ok t) told = ap read_of told.1
told_read bytes (Err e) told = tt

pub told_lawful : (bytes : List ℕ) (r : Result Task (Stop SasFault)) → Tells r (task (unread bytes)) → OnOk r (line_fault bytes ≡ None)
told_lawful bytes (Ok t) told = ap fault_of told.1
told_lawful bytes (Err e) told = tt

pub told_first : (bytes : List ℕ) (r : Result Task (Stop SasFault)) → Tells r (task (unread bytes)) → IfFault r (λ fault. line_fault bytes ≡ Some fault)
told_first bytes (Ok t) told = tt
told_first bytes (Err (stops.Fault fault)) told = ap fault_of told
told_first bytes (Err stops.NoMemory) told = tt

pub told_ok : (bytes : List ℕ) (r : Result Task (Stop SasFault)) → Tells r (task (unread bytes)) → line_fault bytes ≡ None → UnlessNoMemory r (IsOk r)
told_ok bytes (Ok t) told none = refl
told_ok bytes (Err (stops.Fault fault)) told none = absurd (none-some fault (sym none ∙ ap fault_of told))
told_ok bytes (Err stops.NoMemory) told none = tt

pub told_fault : (bytes : List ℕ) (r : Result Task (Stop SasFault)) → Tells r (task (unread bytes)) → (fault : SasFault) → line_fault bytes ≡ Some fault → UnlessNoMemory r (r ≡ Err (stops.Fault fault))
told_fault bytes (Ok t) told fault is = absurd (none-some fault (sym (ap fault_of told.1) ∙ is))
told_fault bytes (Err (stops.Fault other)) told fault is = ap (λ f. Err (stops.Fault f)) (same_Some other fault (sym (ap fault_of told) ∙ is))
told_fault bytes (Err stops.NoMemory) told fault is = tt

pub told_again : (bytes : List ℕ) (r : Result Task (Stop SasFault)) → length bytes < 2 ^ 32 → Tells r (task (unread bytes)) → (t : Task) → IsValid t → IsTextOf bytes t → UnlessNoMemory r (r ≡ Ok t)
told_again bytes (Ok x) short told t valid is =
    let a = text_again bytes t valid short is in
    ap Ok (read_same x t told.0 a.0 (sym told.1 ∙ a.1)).0
told_again bytes (Err (stops.Fault fault)) short told t valid is =
    let a = text_again bytes t valid short is in
    let both : Err fault ≡ Ok (t, a.0) = sym told ∙ a.1 in
    absurd cc
told_again bytes (Err stops.NoMemory) short told t valid is = tt

-- where no line breaks its rule, a task is read
read_task_of : (bytes : List ℕ) (r : Reading Task) → task (unread bytes) ≡ r → fault_of r ≡ None → HasTask bytes
read_task_of bytes (Ok read) is none = let told = task_read bytes read.0 read.1 is in (read.0, told.0, told.1)
read_task_of bytes (Err fault) is none = absurd (none-some fault (sym none))

pub lawful_text : (bytes : List ℕ) → length bytes < 2 ^ 32 → (line_fault bytes ≡ None ↔ HasTask bytes)
lawful_text bytes short = (
  λ none. read_task_of bytes (task (unread bytes)) refl none,
  λ has. ap fault_of (text_again bytes has.0 has.1 short has.2).1,
)
