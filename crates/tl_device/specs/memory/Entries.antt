-- The entries of files in memory, and what they stand for.
use Rattle.std.specs.Prelude.{◌≡◌, ◌≢◌, ℕ, zero, suc, ◌<◌, ◌≤◌, List, [], ◌∷◌, length, IfSome, IsSome}
use Rattle.std.specs.declared.option.Option.{Option}
use Rattle.std.specs.declared.option.Option.TheVariants.{None}
use Rattle.std.specs.Option.{option_map_or}
use Rattle.std.specs.FinMap.{FinMap, empty, get, insert}
use Rattle.std.specs.Ordering.{nat_cmp}
use Rattle.std.specs.Cmp.Lexicographic.{slice_cmp}
use Rattle.tl_device.specs.Contents.{Contents}
use Rattle.tl_device.specs.memory.EntryState.{EntryState}
use Rattle.tl_device.specs.memory.FilesState.{Rooms, OpenFile}
use Rattle.tl_device.specs.declared.entries.Cursor.{Cursor}

-- a map of the values that the entries have, by their names
abbrev pub table : {X : Type 0} → (EntryState → Option X) → List EntryState → FinMap (slice_cmp nat_cmp) X
table value [] = empty
table value (entry ∷ entries) = option_map_or (insert (table value entries) entry.name) (value entry) (table value entries)

-- what the names hold
abbrev pub contents : List EntryState → Contents
contents entries = table (λ entry. entry.file) entries

-- the names that have room, and how much
abbrev pub rooms : List EntryState → Rooms
rooms entries = table (λ entry. entry.room) entries

-- what is seen of the entry at a place, or the default where there is none
abbrev pub seen_at : {X : Type 0} → (EntryState → X) → X → List EntryState → ℕ → X
seen_at see default [] i = default
seen_at see default (entry ∷ entries) zero = see entry
seen_at see default (entry ∷ entries) (suc i) = seen_at see default entries i

abbrev pub name_at : List EntryState → ℕ → List ℕ
name_at entries i = seen_at (λ entry. entry.name) [] entries i

abbrev pub file_at : List EntryState → ℕ → Option (List ℕ)
file_at entries i = seen_at (λ entry. entry.file) None entries i

abbrev pub room_at : List EntryState → ℕ → Option ℕ
room_at entries i = seen_at (λ entry. entry.room) None entries i

-- the file that is read at a cursor
abbrev pub open_file_at : List EntryState → Cursor → OpenFile
open_file_at entries cursor = record { name = name_at entries cursor.entry; position = cursor.position }

-- no entry has the name
abbrev pub NoneNamed : List EntryState → List ℕ → Type 0
NoneNamed entries name = (k : ℕ) → k < length entries → name_at entries k ≢ name

-- no two entries have one name
abbrev pub HaveOwnNames : List EntryState → Type 0
HaveOwnNames entries = (i j : ℕ) → i < j → j < length entries → name_at entries i ≢ name_at entries j

-- the entry at this place has the name, and stands for what it holds and for its room
pub record IsEntryOf (entries : List EntryState) (name : List ℕ) (i : ℕ) : Type 0 where
  pub within : i < length entries
  pub named : name_at entries i ≡ name
  pub file : get (contents entries) name ≡ file_at entries i
  pub room : get (rooms entries) name ≡ room_at entries i

-- the name stands for nothing
pub record IsUnknown (entries : List EntryState) (name : List ℕ) : Type 0 where
  pub none_named : NoneNamed entries name
  pub file : get (contents entries) name ≡ None
  pub room : get (rooms entries) name ≡ None

-- each place keeps its name, and has a file where it had one
pub record KeepsPlaces (old new : List EntryState) : Type 0 where
  pub longer : length old ≤ length new
  pub names : (k : ℕ) → k < length old → name_at new k ≡ name_at old k
  pub files : (k : ℕ) → IsSome (file_at old k) → IsSome (file_at new k)

-- there is a file at the place
pub record IsFileAt (entries : List EntryState) (i : ℕ) : Type 0 where
  pub within : i < length entries
  pub exists : IsSome (file_at entries i)

-- what holds of files in memory: there is a file where one is read, and where one is written
pub record IsSound (entries : List EntryState) (reading : Option Cursor) (writing : Option ℕ) (most : ℕ) : Type 0 where
  pub reads : IfSome reading (λ cursor. IsFileAt entries cursor.entry)
  pub writes : IfSome writing (IsFileAt entries)
  pub takes : 1 ≤ most
