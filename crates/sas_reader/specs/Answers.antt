-- What the code answers, beside what a text gives.
use Rattle.std.specs.Prelude.{◌≡◌, Result, Ok, Err}
use Rattle.lists.specs.declared.stop.Stop.{Stop}
use Rattle.lists.specs.declared.stop.Stop.TheVariants as stops
use Rattle.sas_reader.specs.declared.fault.SasFault.{SasFault}
use Rattle.sas_reader.specs.Forms.{Unread, Reading}

-- the reading has this fault, unless memory ran out
abbrev pub Fails : {Y : Type 0} → Stop SasFault → Reading Y → Type 0
Fails stops.NoMemory reading = Unit {0}
Fails (stops.Fault fault) reading = reading ≡ Err fault

-- what a function returned, seen by view, and what it left unread are what reading gives, unless memory ran out
abbrev pub Gives : {X Y : Type 0} → (X → Y) → Result X (Stop SasFault) → Unread → Reading Y → Type 0
Gives view (Ok x) after reading = reading ≡ Ok (view x, after)
Gives view (Err e) after reading = Fails e reading

-- the same of a whole text
abbrev pub Tells : {Y : Type 0} → Result Y (Stop SasFault) → Reading Y → Type 0
Tells (Ok x) reading = (after : Unread) × (reading ≡ Ok (x, after))
Tells (Err e) reading = Fails e reading
