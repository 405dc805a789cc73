-- What is left of a file being read, while another is written.
use Rattle.std.proofs.Common.{◌≡◌, ◌≢◌, ◌<◌, ℕ, cond, List, [], length, drop, unwrap_or, IfSome, IsSome, is_some, sym, refl, ◌∙◌, ap, subst}
use Rattle.std.specs.declared.option.Option.{Option}
use Rattle.std.specs.declared.option.Option.TheVariants.{Some, None}
use Rattle.std.specs.Option.{option_map}
use Rattle.std.specs.FinMap.{get, insert, get-insert}
use Rattle.tl_device.specs.Contents.{Contents, HoldsCreated, OthersStay, grow}
use Rattle.tl_device.specs.memory.EntryState.{EntryState}
use Rattle.tl_device.specs.memory.Entries.{KeepsPlaces, IsFileAt, open_file_at, contents, name_at}
use Rattle.tl_device.specs.memory.FilesState.{FilesState, OpenFile, rest_in, rest_of, name_in, name_read}
use Rattle.tl_device.specs.declared.entries.Cursor.{Cursor}
use Rattle.tl_device.proofs.Grown.{held_after, others_grown}
use Rattle.tl_device.proofs.Names.{same_name-self}
use Rattle.std.specs.Cmp.Lexicographic.{nat_list_cmp_total}

-- the file being read is the same where each place keeps its name
pub reading_kept : (old new : List EntryState) (reading : Option Cursor) → KeepsPlaces old new → IfSome reading (λ cursor. IsFileAt old cursor.entry) → option_map (open_file_at new) reading ≡ option_map (open_file_at old) reading
reading_kept old new None kept reads = refl
reading_kept old new (Some cursor) kept reads = ap (λ (name : List ℕ). let file : OpenFile = record { name = name; position = cursor.position } in Some file) (kept.names cursor.entry reads.within)

-- the rest stays where each name but another holds what it held
rest-other : (old new : Contents) (reading : Option OpenFile) (name : List ℕ) → OthersStay (Some old) (Some new) name → name_in reading ≢ name → rest_in new reading ≡ rest_in old reading
rest-other old new None name others differs = refl
rest-other old new (Some file) name others differs = ap (λ (held : Option (List ℕ)). drop file.position (unwrap_or held [])) (others file.name differs)

pub rest_of-other : (old : FilesState) (files : Contents) (reading : Option OpenFile) (name : List ℕ) → reading ≡ old.reading → OthersStay (Some old.files) (Some files) name → name_read old ≢ name → rest_in files reading ≡ rest_of old
rest_of-other old files reading name same others differs = ap (rest_in files) same ∙ rest-other old.files files old.reading name others differs

-- each name but the written one holds what it held, where the files and that name are known by another way
pub others_grow : (old mid new : Contents) (name here bytes : List ℕ) → mid ≡ old → here ≡ name → new ≡ grow mid here bytes → OthersStay (Some old) (Some new) name
others_grow old mid new name here bytes same named grows = others_grown (Some old) (Some new) name bytes
    (ap Some grows ∙ ap (λ (n : List ℕ). Some (grow mid n bytes)) named ∙ ap (λ (m : Contents). Some (grow m name bytes)) same)

-- there is a file of the name being written
pub written_held : (entries : List EntryState) (writing : Option ℕ) (i : ℕ) → writing ≡ Some i → IsSome (get (contents entries) (name_at entries i))
    → HoldsCreated (Some (contents entries)) (is_some (option_map (name_at entries) writing)) (unwrap_or (option_map (name_at entries) writing) [])
written_held entries writing i is held = subst (λ (w : Option ℕ). HoldsCreated (Some (contents entries)) (is_some (option_map (name_at entries) w)) (unwrap_or (option_map (name_at entries) w) [])) (sym is) held

holds_some : (m : Contents) (name bytes : List ℕ) → get m name ≡ Some bytes → IsSome (get m name)
holds_some m name bytes is = subst IsSome (sym is) refl

get-inserted : (m : Contents) (name bytes : List ℕ) → get (insert m name bytes) name ≡ Some bytes
get-inserted m name bytes = get-insert nat_list_cmp_total m name bytes name ∙ ap (λ b. cond b (Some bytes) (get m name)) (same_name-self name)

-- an entry that is emptied or appended to has a file
pub emptied_held : (old new : List EntryState) (i : ℕ) → i < length old → contents new ≡ insert (contents old) (name_at old i) [] → KeepsPlaces old new → IsSome (get (contents new) (name_at new i))
emptied_held old new i within empties kept =
    let at : get (contents new) (name_at new i) ≡ get (insert (contents old) (name_at old i) []) (name_at old i) =
    ap (λ (m : Contents). get m (name_at new i)) empties ∙ ap (get (insert (contents old) (name_at old i) [])) (kept.names i within) in
    subst IsSome (sym at) (holds_some (insert (contents old) (name_at old i) []) (name_at old i) [] (get-inserted (contents old) (name_at old i) []))

pub appended_held : (old new : List EntryState) (i : ℕ) (bytes : List ℕ) → i < length old → contents new ≡ grow (contents old) (name_at old i) bytes → KeepsPlaces old new
    → IsSome (get (contents old) (name_at old i)) → IsSome (get (contents new) (name_at new i))
appended_held old new i bytes within grows kept held = subst (λ (o : Option (List ℕ)). IsSome o)
    (sym (ap (λ (m : Contents). get m (name_at new i)) grows ∙ ap (get (grow (contents old) (name_at old i) bytes)) (kept.names i within)))
    (held_after (contents old) (name_at old i) bytes held)
