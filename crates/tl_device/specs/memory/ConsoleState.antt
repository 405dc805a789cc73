-- A console in memory, as its contracts see it.
use Rattle.std.specs.Prelude.{ℕ, List}
use Rattle.tl_device.specs.memory.CallsState.{CallsState}

pub record ConsoleState : Type 0 where
  -- the bytes printed so far
  pub printed : List ℕ
  -- how many bytes it can hold in all
  pub room : ℕ
  -- the most bytes that a call takes
  pub most : ℕ
  -- the calls that were made, and those that are to fail
  pub calls : CallsState
  -- how often printing has failed
  pub faults : ℕ
