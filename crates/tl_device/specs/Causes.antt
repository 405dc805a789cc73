-- When a call may answer that it failed, by the counts of faults before and after it.
use Rattle.std.specs.Prelude.{◌≡◌, ◌⊎◌, ℕ, ◌+◌, ◌-◌, ◌^◌, ◌≤◌, min, List, Result, Ok, Err, OnOk, OnErr}
use Rattle.std.specs.declared.option.Option.{Option}
use Rattle.std.specs.declared.option.Option.TheVariants.{Some, None}
use Rattle.std.specs.FinMap.{get}
use Rattle.tl_device.specs.Contents.{Contents}
use Rattle.tl_device.specs.declared.whole.ReadEnd.{ReadEnd}
use Rattle.tl_device.specs.declared.whole.ReadEnd.TheVariants.{Failed, TooLong, NoMemory}

-- a count and so many more, or the last value of the count's type where it can't rise so far
abbrev pub saturating_add : ℕ → ℕ → ℕ
saturating_add count more = min (count + more) (2 ^ 64 - 1)

-- a count of faults has risen, or stands at the last value of its type
abbrev pub Rose : ℕ → ℕ → Type 0
Rose before now = saturating_add before 1 ≤ now

-- the count doesn't fall, stays at Ok, and has risen at Err
pub record HasCause {A E : Type 0} (before now : ℕ) (result : Result A E) : Type 0 where
  pub later : before ≤ now
  pub same : OnOk result (now ≡ before)
  pub rose : OnErr result (Rose before now)

-- the same, but that an Err may have another cause
pub record HasCauseOr {A E : Type 0} (other : Type 0) (before now : ℕ) (result : Result A E) : Type 0 where
  pub later : before ≤ now
  pub same : OnOk result (now ≡ before)
  pub rose : OnErr result (Rose before now ⊎ other)

-- the count of reading doesn't fall and stays, but at `Failed`, where it has risen or the other cause is there
abbrev pub HasReadCause : {A : Type 0} → Type 0 → ℕ → ℕ → Result A ReadEnd → Type 0
HasReadCause other before now (Ok value) = now ≡ before
HasReadCause other before now (Err Failed) = (before ≤ now) × (Rose before now ⊎ other)
HasReadCause other before now (Err TooLong) = now ≡ before
HasReadCause other before now (Err NoMemory) = now ≡ before

-- the files are told, and none has the name
abbrev pub IsAbsent : Option Contents → List ℕ → Type 0
IsAbsent None name = ⊥
IsAbsent (Some files) name = get files name ≡ None
