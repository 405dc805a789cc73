-- The calls that are made on files or a console in memory, and those of them that are to fail.
use Rattle.std.specs.Prelude.{ℕ, ◌+◌, ◌==◌, Bool, List, ◌++◌, [], ◌∷◌}
use Rattle.std.specs.List.{list_any}
use Rattle.tl_device.specs.Causes.{saturating_add}
use Rattle.tl_device.specs.declared.calls.FileCall.{FileCall}
use Rattle.tl_device.specs.declared.calls.FileCall.TheVariants.{OpenFile, Read, CreateFile, Write}

-- the calls of one kind
pub record CallsState : Type 0 where
  -- how many were made, up to the last value of a `u64`
  pub made : ℕ
  -- which are to fail, counted from 1
  pub failing : List ℕ

-- whether the call that is made next is to fail
abbrev pub next_fails : CallsState → Bool
next_fails calls = list_any (λ nth. nth == calls.made + 1) calls.failing

-- after one call more
abbrev pub one_made : CallsState → CallsState
one_made calls = record calls { made = saturating_add calls.made 1 }

-- the nth call is to fail too
abbrev pub one_fails : CallsState → ℕ → CallsState
one_fails calls nth = record calls { failing = calls.failing ++ (nth ∷ []) }

-- the calls on files, by their kinds
pub record FileCallsState : Type 0 where
  pub open_file : CallsState
  pub read : CallsState
  pub create_file : CallsState
  pub write : CallsState

-- the nth call of the kind is to fail too
abbrev pub one_fails_of : FileCallsState → FileCall → ℕ → FileCallsState
one_fails_of calls OpenFile nth = record calls { open_file = one_fails calls.open_file nth }
one_fails_of calls Read nth = record calls { read = one_fails calls.read nth }
one_fails_of calls CreateFile nth = record calls { create_file = one_fails calls.create_file nth }
one_fails_of calls Write nth = record calls { write = one_fails calls.write nth }
