-- Files in memory, as their contracts see them.
use Rattle.std.specs.Prelude.{ℕ, ◌+◌, ◌-◌, List, [], length, drop, unwrap_or, refl}
use Rattle.std.specs.declared.option.Option.{Option}
use Rattle.std.specs.declared.option.Option.TheVariants.{Some, None}
use Rattle.std.specs.Ordering.{nat_cmp}
use Rattle.std.specs.Cmp.Lexicographic.{slice_cmp}
use Rattle.std.specs.FinMap.{FinMap, code, get}
use Rattle.std.specs.Coded.{Coded, code_by, coded×, coded_ℕ, coded_list, coded_option}
use Rattle.tl_device.specs.Contents.{Contents}
use Rattle.tl_device.specs.memory.CallsState.{CallsState, FileCallsState}

-- for the names that have room, how many bytes they can hold when they are written
abbrev pub Rooms : Type 0
Rooms = FinMap (slice_cmp nat_cmp) ℕ

-- the file being read: its name, and how many bytes were given of it
pub record OpenFile : Type 0 where
  pub name : List ℕ
  pub position : ℕ

-- files in memory
pub record FilesState : Type 0 where
  pub files : Contents
  pub rooms : Rooms
  -- the file being read, where one is begun
  pub reading : Option OpenFile
  -- the name being written, where a file is created
  pub writing : Option (List ℕ)
  -- the most bytes that a call gives or takes
  pub most : ℕ
  -- the calls that were made, and those that are to fail
  pub calls : FileCallsState
  -- how often reading has failed, but for names that no file had
  pub read_faults : ℕ
  -- how often writing has failed
  pub write_faults : ℕ

-- what the name holds, which is nothing where there is no such file
abbrev pub held_bytes : Contents → List ℕ → List ℕ
held_bytes files name = unwrap_or (get files name) []

-- what is left of the file being read
abbrev pub rest_in : Contents → Option OpenFile → List ℕ
rest_in files None = []
rest_in files (Some file) = drop file.position (held_bytes files file.name)

abbrev pub rest_of : FilesState → List ℕ
rest_of state = rest_in state.files state.reading

-- the name being read
abbrev pub name_in : Option OpenFile → List ℕ
name_in None = []
name_in (Some file) = file.name

abbrev pub name_read : FilesState → List ℕ
name_read state = name_in state.reading

-- how many bytes were given of the file being read
abbrev pub position_in : Option OpenFile → ℕ
position_in None = 0
position_in (Some file) = file.position

abbrev pub position_of : FilesState → ℕ
position_of state = position_in state.reading

-- the name being written
abbrev pub name_written : FilesState → List ℕ
name_written state = unwrap_or state.writing []

-- how many bytes more the name can hold, which is none where it has no room
abbrev pub free_in : Contents → Rooms → List ℕ → ℕ
free_in files rooms name = unwrap_or (get rooms name) 0 - length (held_bytes files name)

-- how many bytes more the name being written can hold
abbrev pub free_room : FilesState → ℕ
free_room state = free_in state.files state.rooms (name_written state)

-- the file being read, after so many bytes more were given
abbrev pub read_on : Option OpenFile → ℕ → Option OpenFile
read_on None count = None
read_on (Some file) count = Some (record file { position = file.position + count })

-- the states are stored as the tuples of their fields
abbrev pub open_file_code : Coded OpenFile
open_file_code = code_by (List ℕ × ℕ) (coded× (coded_list coded_ℕ) coded_ℕ) (λ f. (f.name, f.position)) (λ p. record { name = p.0; position = p.1 }) (λ _. refl)

abbrev pub calls_code : Coded CallsState
calls_code = code_by (ℕ × List ℕ) (coded× coded_ℕ (coded_list coded_ℕ)) (λ c. (c.made, c.failing)) (λ p. record { made = p.0; failing = p.1 }) (λ _. refl)

abbrev pub file_calls_code : Coded FileCallsState
file_calls_code = code_by (CallsState × (CallsState × (CallsState × CallsState))) (coded× calls_code (coded× calls_code (coded× calls_code calls_code)))
    (λ c. (c.open_file, (c.read, (c.create_file, c.write)))) (λ p. record { open_file = p.0; read = p.1.0; create_file = p.1.1.0; write = p.1.1.1 }) (λ _. refl)

abbrev pub files_state_code : Coded FilesState
files_state_code =
    code_by (Contents × (Rooms × (Option OpenFile × (Option (List ℕ) × (ℕ × (FileCallsState × (ℕ × ℕ)))))))
    (coded× (code (coded_list coded_ℕ) (coded_list coded_ℕ)) (coded× (code (coded_list coded_ℕ) coded_ℕ) (coded× (coded_option open_file_code) (coded× (coded_option (coded_list coded_ℕ)) (coded× coded_ℕ (coded× file_calls_code (coded× coded_ℕ coded_ℕ)))))))
    (λ s. (s.files, (s.rooms, (s.reading, (s.writing, (s.most, (s.calls, (s.read_faults, s.write_faults))))))))
    (λ p. record { files = p.0; rooms = p.1.0; reading = p.1.1.0; writing = p.1.1.1.0; most = p.1.1.1.1.0; calls = p.1.1.1.1.1.0; read_faults = p.1.1.1.1.1.1.0; write_faults = p.1.1.1.1.1.1.1 })
    (λ _. refl)
