-- Items that are read one after the other, as a loop does.
use Rattle.std.proofs.Common.{◌≡◌, ℕ, suc, ◌-◌, ◌+◌, ◌≤◌, ◌<◌, List, [], ◌∷◌, ◌++◌, Ok, Err, refl, sym, ap, ◌∙◌, arith}
use Rattle.lists.specs.declared.stop.Stop.{Stop}
use Rattle.sas_reader.specs.declared.fault.SasFault.{SasFault}
use Rattle.lists.specs.declared.stop.Stop.TheVariants as ends
use Rattle.sas_reader.specs.Answers.{Fails}
use Rattle.sas_reader.specs.Forms.{Unread, Reading, Form, followed, listed}

-- what is still to be read gives what there is to read in all
abbrev pub GoesOn : {A : Type 0} → (List A → Form A) → (count i : ℕ) → List A → Unread → Reading (List A) → Type 0
GoesOn one count i items now total = listed one (count - i) items now ≡ total

-- after one more item
pub goes_on : {A : Type 0} (one : List A → Form A) (count i : ℕ) (items seen longer : List A) (x : A) (now after : Unread) (total : Reading (List A))
    → i < count → seen ≡ items → longer ≡ items ++ x ∷ [] → one seen now ≡ Ok (x, after) → GoesOn one count i items now total → GoesOn one count (i + 1) longer after total
unfolding listed
goes_on one count i items seen longer x now after total within same pushed read so_far =
    let turns : count - i ≡ suc (count - (i + 1)) = omega arith in
    let step : listed one (count - i) items now ≡ listed one (count - (i + 1)) (items ++ x ∷ []) after = rw (turns, ← same, read) refl in
    ap (λ l. listed one (count - (i + 1)) l after) pushed ∙ sym step ∙ so_far

-- where an item fails, all do
pub fails : {A : Type 0} (one : List A → Form A) (e : Stop SasFault) (count i : ℕ) (items seen : List A) (now : Unread) (total : Reading (List A))
    → i < count → seen ≡ items → Fails e (one seen now) → GoesOn one count i items now total → Fails e total
unfolding listed
fails one ends.NoMemory count i items seen now total within same failed so_far = tt
fails one (ends.Fault fault) count i items seen now total within same failed so_far =
    let turns : count - i ≡ suc (count - (i + 1)) = omega arith in
    let step : listed one (count - i) items now ≡ Err fault = rw (turns, ← same, failed) refl in
    sym so_far ∙ step

-- after the last one
pub is_done : {A : Type 0} (one : List A → Form A) (count i : ℕ) (items : List A) (now : Unread) (total : Reading (List A)) → count ≤ i → GoesOn one count i items now total → total ≡ Ok (items, now)
unfolding listed
is_done one count i items now total past so_far =
    let none : count - i ≡ 0 = omega arith in
    let step : listed one (count - i) items now ≡ Ok (items, now) = rw none refl in
    sym so_far ∙ step

-- where the first of two forms fails, both do
pub stops : {A B : Type 0} (e : Stop SasFault) (reading : Reading A) (more : A → Form B) → Fails e reading → Fails e (followed reading more)
stops ends.NoMemory reading more failed = tt
stops (ends.Fault fault) reading more failed = ap (λ r. followed r more) failed
