-- The texts that a run reads.
use Rattle.std.specs.Prelude.{ℕ, List, [], ◌∷◌, length, nat_lt, if◌then◌else◌}
use Rattle.std.specs.declared.option.Option.{Option}
use Rattle.std.specs.declared.option.Option.TheVariants.{Some, None}
use Rattle.std.specs.FinMap.{get}
use Rattle.tl_device.specs.Contents.{Contents}
use Rattle.pddl_lexer.specs.declared.fault.Fault.{Fault}
use Rattle.pddl_lexer.specs.declared.fault.Kind.TheVariants.{TooLong}
use Rattle.pddl_lexer.specs.declared.position.At.{At}
use Rattle.translator.specs.Ending.{Ending, Absent, unless}

-- a text, and the name under which its faults are told
pub record Text : Type 0 where
  pub name : List ℕ
  pub bytes : List ℕ

abbrev pub text : List ℕ → List ℕ → Text
text name bytes = record { name = name; bytes = bytes }

-- where a text begins
abbrev pub start : At
start = record { line = 1; column = 1 }

-- the most bytes of an input file, a plan file or a written task
abbrev pub input_limit : ℕ
input_limit = 67108864

-- a file with more bytes than it may have has this fault, where it begins
abbrev pub length_faults : List ℕ → List Fault
length_faults bytes = if nat_lt input_limit (length bytes) then record { kind = TooLong; at = start } ∷ [] else []

-- what is read where the file of this name holds this
abbrev pub read_as : List ℕ → Option (List ℕ) → Ending Text
read_as name None = Absent name
read_as name (Some bytes) = unless name (length_faults bytes) (text name bytes)

-- what is read of the file of this name
abbrev pub read : Contents → List ℕ → Ending Text
read files name = read_as name (get files name)
