-- What files hold, by their names, and how the calls change it. Names and contents are lists of bytes.
use Rattle.std.specs.Prelude.{◌≡◌, ◌≢◌, ℕ, ◌<◌, ◌≤◌, List, [], ◌++◌, length, drop, ⊤, Bool, true, false, IsTrue, IsSome, is_some}
use Rattle.std.specs.declared.option.Option.{Option}
use Rattle.std.specs.declared.option.Option.TheVariants.{Some, None}
use Rattle.std.specs.Option.{option_map, option_map_or}
use Rattle.std.specs.Ordering.{nat_cmp}
use Rattle.std.specs.Cmp.Lexicographic.{slice_cmp}
use Rattle.std.specs.Io.KnownBytes.{append_known}
use Rattle.std.specs.FinMap.{FinMap, get, insert}

-- a finite map from names to bytes
abbrev pub Contents : Type 0
Contents = FinMap (slice_cmp nat_cmp) (List ℕ)

-- it is told what the files hold
abbrev pub IsTold : Option Contents → Type 0
IsTold files = IsTrue (is_some files)

-- where the files are told, the name holds these bytes
abbrev pub Holds : Option Contents → List ℕ → List ℕ → Type 0
Holds None name bytes = ⊤
Holds (Some files) name bytes = get files name ≡ Some bytes

-- where the files are told and one is created, there is a file of the name being written
abbrev pub HoldsCreated : Option Contents → Bool → List ℕ → Type 0
HoldsCreated None is_created name = ⊤
HoldsCreated (Some files) false name = ⊤
HoldsCreated (Some files) true name = IsSome (get files name)

-- where it is told which name was asked for last, it is this one
abbrev pub IsAskedFor : Option (List ℕ) → List ℕ → Type 0
IsAskedFor None name = ⊤
IsAskedFor (Some asked) name = asked ≡ name

-- where the files are told, the name holds bytes, and at most so many
pub record HoldsAtMost (files : Option Contents) (name : List ℕ) (limit : ℕ) : Type 0 where
  pub bytes : List ℕ
  pub holds : Holds files name bytes
  pub within : length bytes ≤ limit

-- where the files are told, the name holds more bytes than so many
pub record HoldsMoreThan (files : Option Contents) (name : List ℕ) (limit : ℕ) : Type 0 where
  pub bytes : List ℕ
  pub holds : Holds files name bytes
  pub longer : limit < length bytes

-- where the files are told, the rest is what the name holds behind so many bytes
abbrev pub IsRest : Option Contents → List ℕ → ℕ → List ℕ → Type 0
IsRest None name count rest = ⊤
IsRest (Some files) name count rest = option_map (drop count) (get files name) ≡ Some rest

-- where the files were told, they still are, and each name but this one holds what it held
abbrev pub OthersStay : Option Contents → Option Contents → List ℕ → Type 0
OthersStay None new name = ⊤
OthersStay (Some old) None name = ⊥
OthersStay (Some old) (Some new) name = (other : List ℕ) → other ≢ name → get new other ≡ get old other

-- the name holds no bytes, and the other names what they held
abbrev pub emptied : Option Contents → List ℕ → Option Contents
emptied files name = option_map (λ m. insert m name []) files

-- what the name holds, if there is such a file, grows by these bytes, and the other names hold what they held
unfoldable pub grow : Contents → List ℕ → List ℕ → Contents
grow files name bytes = option_map_or (λ held. insert files name (held ++ bytes)) (get files name) files

abbrev pub grown : Option Contents → List ℕ → List ℕ → Option Contents
grown files name bytes = option_map (λ m. grow m name bytes) files

-- the name has grown by a front of the bytes, as far as a failure let it
pub record GrownInPart (old new : Option Contents) (name bytes : List ℕ) : Type 0 where
  pub written : List ℕ
  pub left : List ℕ
  pub parts : bytes ≡ written ++ left
  pub grows : new ≡ grown old name written

-- a front of the bytes was printed, where it is told what is printed
pub record PrintedInPart (old new : Option (List ℕ)) (bytes : List ℕ) : Type 0 where
  pub written : List ℕ
  pub left : List ℕ
  pub parts : bytes ≡ written ++ left
  pub grows : new ≡ append_known old written
