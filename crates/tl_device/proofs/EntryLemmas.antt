-- What entries stand for, and how a change of one changes it.
use Rattle.std.proofs.Common.{◌≡◌, ℕ, zero, suc, ◌<◌, ◌≤◌, true, false, cond, List, [], ◌∷◌, ◌++◌, length, get_or, set, length-set, length-append, unwrap_or, IsSome, inl, inr, refl, sym, ◌∙◌, ap, subst, arith}
use Rattle.std.proofs.lemmas.Bool.{cases_eq}
use Rattle.std.specs.declared.option.Option.{Option}
use Rattle.std.specs.declared.option.Option.TheVariants.{Some, None}
use Rattle.std.specs.Option.{option_map_or}
use Rattle.std.specs.Ordering.{nat_cmp}
use Rattle.std.specs.Cmp.Lexicographic.{slice_cmp, nat_list_cmp_total}
use Rattle.std.specs.FinMap.{get, insert, remove, get-empty, get-insert, get-remove}
use Rattle.tl_device.specs.Contents.{Contents, grow}
use Rattle.tl_device.specs.memory.EntryState.{EntryState}
use Rattle.tl_device.specs.memory.Entries.{table, contents, rooms, seen_at, name_at, file_at, room_at, NoneNamed, HaveOwnNames, IsEntryOf, IsUnknown, KeepsPlaces}
use Rattle.tl_device.proofs.Names.{same_name, same_name-self, by_name, alike}

-- the entry that stands at a place is what is seen there
pub seen_at-is : {X : Type 0} (see : EntryState → X) (default : X) (entries : List EntryState) (i : ℕ) (entry : EntryState) → i < length entries → entry ≡ get_or entries i entry → seen_at see default entries i ≡ see entry
seen_at-is see default [] i entry within is = absurd (omega arith)
seen_at-is see default (first ∷ entries) zero entry within is = ap see (sym is)
seen_at-is see default (first ∷ entries) (suc i) entry within is = seen_at-is see default entries i entry (omega arith) is

pub name_is : (entries : List EntryState) (i : ℕ) (entry : EntryState) → i < length entries → entry ≡ get_or entries i entry → name_at entries i ≡ entry.name
name_is = seen_at-is (λ entry. entry.name) []

pub file_is : (entries : List EntryState) (i : ℕ) (entry : EntryState) → i < length entries → entry ≡ get_or entries i entry → file_at entries i ≡ entry.file
file_is = seen_at-is (λ entry. entry.file) None

pub room_is : (entries : List EntryState) (i : ℕ) (entry : EntryState) → i < length entries → entry ≡ get_or entries i entry → room_at entries i ≡ entry.room
room_is = seen_at-is (λ entry. entry.room) None

-- what a scan of the entries finds for a name
look : {X : Type 0} → (EntryState → Option X) → List EntryState → List ℕ → Option X
look value [] q = None
look value (entry ∷ entries) q = option_map_or (λ v. cond (same_name q entry.name) (Some v) (look value entries q)) (value entry) (look value entries q)

get-table : {X : Type 0} (value : EntryState → Option X) (entries : List EntryState) (q : List ℕ) → get (table value entries) q ≡ look value entries q
unfolding look
get-table value [] q = get-empty (slice_cmp nat_cmp) q
get-table value (entry ∷ entries) q =
    elim (value entry) as (λ shown. get (option_map_or (insert (table value entries) entry.name) shown (table value entries)) q ≡ option_map_or (λ v. cond (same_name q entry.name) (Some v) (look value entries q)) shown (look value entries q)) [
      | Some v ↦ get-insert nat_list_cmp_total (table value entries) entry.name v q ∙ ap (cond (same_name q entry.name) (Some v)) (get-table value entries q)
      | None ↦ get-table value entries q
    ]

-- a scan by the first entry, where the name is its own, and where it isn't
look_here : {X : Type 0} (value : EntryState → Option X) (entry : EntryState) (entries : List EntryState) (q : List ℕ) → same_name q entry.name ≡ true → look value entries q ≡ None → look value (entry ∷ entries) q ≡ value entry
unfolding look
look_here value entry entries q here behind =
    elim (value entry) as (λ shown. option_map_or (λ v. cond (same_name q entry.name) (Some v) (look value entries q)) shown (look value entries q) ≡ shown) [
      | Some v ↦ rw here refl
      | None ↦ behind
    ]

look_behind : {X : Type 0} (value : EntryState → Option X) (entry : EntryState) (entries : List EntryState) (q : List ℕ) → same_name q entry.name ≡ false → look value (entry ∷ entries) q ≡ look value entries q
unfolding look
look_behind value entry entries q other =
    elim (value entry) as (λ shown. option_map_or (λ v. cond (same_name q entry.name) (Some v) (look value entries q)) shown (look value entries q) ≡ look value entries q) [
      | Some v ↦ rw other refl
      | None ↦ refl
    ]

-- no entry has the name
not_first : (entry : EntryState) (entries : List EntryState) (name : List ℕ) → NoneNamed (entry ∷ entries) name → same_name name entry.name ≡ false
not_first entry entries name none = by_name name entry.name (λ is _. absurd (none 0 (omega arith) (sym is))) (λ other. other)

none_behind : (entry : EntryState) (entries : List EntryState) (name : List ℕ) → NoneNamed (entry ∷ entries) name → NoneNamed entries name
none_behind entry entries name none k within is = none (suc k) (omega arith) is

look_none : {X : Type 0} (value : EntryState → Option X) (entries : List EntryState) (name : List ℕ) → NoneNamed entries name → look value entries name ≡ None
unfolding look
look_none value [] name none = refl
look_none value (entry ∷ entries) name none =
    look_behind value entry entries name (not_first entry entries name none) ∙ look_none value entries name (none_behind entry entries name none)

-- names that differ pairwise
own_behind : (entry : EntryState) (entries : List EntryState) → HaveOwnNames (entry ∷ entries) → HaveOwnNames entries
own_behind entry entries own i j below within is = own (suc i) (suc j) (omega arith) (omega arith) is

first_alone : (entry : EntryState) (entries : List EntryState) → HaveOwnNames (entry ∷ entries) → NoneNamed entries entry.name
first_alone entry entries own k within is = own 0 (suc k) (omega arith) (omega arith) (sym is)

differs_behind : (entry : EntryState) (entries : List EntryState) (i : ℕ) → HaveOwnNames (entry ∷ entries) → i < length entries → same_name (name_at entries i) entry.name ≡ false
differs_behind entry entries i own within = by_name (name_at entries i) entry.name (λ is _. absurd (own 0 (suc i) (omega arith) (omega arith) (sym is))) (λ differs. differs)

-- a scan for the name of an entry finds that entry
look_at : {X : Type 0} (value : EntryState → Option X) (entries : List EntryState) (i : ℕ) → HaveOwnNames entries → i < length entries → look value entries (name_at entries i) ≡ seen_at value None entries i
look_at value [] i own within = absurd (omega arith)
look_at value (entry ∷ entries) zero own within =
    look_here value entry entries entry.name (same_name-self entry.name) (look_none value entries entry.name (first_alone entry entries own))
look_at value (entry ∷ entries) (suc i) own within =
    look_behind value entry entries (name_at entries i) (differs_behind entry entries i own (omega arith)) ∙ look_at value entries i (own_behind entry entries own) (omega arith)

get-at : {X : Type 0} (value : EntryState → Option X) (entries : List EntryState) (i : ℕ) (name : List ℕ) → HaveOwnNames entries → i < length entries → name_at entries i ≡ name → get (table value entries) name ≡ seen_at value None entries i
get-at value entries i name own within named = ap (get (table value entries)) (sym named) ∙ get-table value entries (name_at entries i) ∙ look_at value entries i own within

pub entry_of : (entries : List EntryState) (i : ℕ) (name : List ℕ) → HaveOwnNames entries → i < length entries → name_at entries i ≡ name → IsEntryOf entries name i
entry_of entries i name own within named = record {
  within = within;
  named = named;
  file = get-at (λ entry. entry.file) entries i name own within named;
  room = get-at (λ entry. entry.room) entries i name own within named;
}

pub unknown : (entries : List EntryState) (name : List ℕ) → NoneNamed entries name → IsUnknown entries name
unknown entries name none = record {
  none_named = none;
  file = get-table (λ entry. entry.file) entries name ∙ look_none (λ entry. entry.file) entries name none;
  room = get-table (λ entry. entry.room) entries name ∙ look_none (λ entry. entry.room) entries name none;
}

-- a change behind the first entry, where the changed name isn't its name
look_under : {X : Type 0} (value : EntryState → Option X) (entry : EntryState) (old new : List EntryState) (x : EntryState) (q : List ℕ) → same_name x.name entry.name ≡ false
    → look value new q ≡ cond (same_name q x.name) (value x) (look value old q) → look value (entry ∷ new) q ≡ cond (same_name q x.name) (value x) (look value (entry ∷ old) q)
unfolding look
look_under value entry old new x q apart behind = by_name q x.name
    (λ here tied. let other : same_name q entry.name ≡ false = ap (λ n. same_name n entry.name) here ∙ apart in
    look_behind value entry new q other ∙ behind ∙ ap (cond (same_name q x.name) (value x)) (sym (look_behind value entry old q other)))
    (λ differs.
    let alike : look value new q ≡ look value old q = behind ∙ rw differs refl in
    ap (λ l. option_map_or (λ v. cond (same_name q entry.name) (Some v) l) (value entry) l) alike ∙ rw differs refl)

-- a scan finds this for the name, and for each other name what it found
Changes : {X : Type 0} → (EntryState → Option X) → List EntryState → List EntryState → List ℕ → Option X → Type 0
Changes value old new name shown = (q : List ℕ) → look value new q ≡ cond (same_name q name) shown (look value old q)

-- one entry changed, which keeps its name
changes-set : {X : Type 0} (value : EntryState → Option X) (entries : List EntryState) (i : ℕ) (x : EntryState) → HaveOwnNames entries → i < length entries → x.name ≡ name_at entries i
    → Changes value entries (set entries i x) x.name (value x)
unfolding Changes
changes-set value [] i x own within is q = absurd (omega arith)
changes-set value (entry ∷ entries) zero x own within is q = by_name q x.name
    (λ here tied. look_here value x entries q tied (ap (look value entries) (here ∙ is) ∙ look_none value entries entry.name (first_alone entry entries own)) ∙ rw tied refl)
    (λ differs. look_behind value x entries q differs ∙ sym (look_behind value entry entries q (ap (same_name q) (sym is) ∙ differs)) ∙ rw differs refl)
changes-set value (entry ∷ entries) (suc i) x own within is q =
    look_under value entry entries (set entries i x) x q (ap (λ n. same_name n entry.name) is ∙ differs_behind entry entries i own (omega arith))
    (changes-set value entries i x (own_behind entry entries own) (omega arith) is q)

-- one entry more, whose name is new
changes-push : {X : Type 0} (value : EntryState → Option X) (entries : List EntryState) (x : EntryState) → NoneNamed entries x.name → Changes value entries (entries ++ x ∷ []) x.name (value x)
unfolding Changes
changes-push value [] x none q = by_name q x.name
    (λ here tied. look_here value x [] q tied (look_none value [] q (λ k within _. absurd (omega arith))) ∙ rw tied refl)
    (λ differs. look_behind value x [] q differs ∙ rw differs refl)
changes-push value (entry ∷ entries) x none q =
    look_under value entry entries (entries ++ x ∷ []) x q (not_first entry entries x.name none) (changes-push value entries x (none_behind entry entries x.name none) q)

-- the map after a change: the name has a value, or none, or the one that it had
table-insert : {X : Type 0} (value : EntryState → Option X) (old new : List EntryState) (name : List ℕ) (shown : Option X) (v : X)
    → Changes value old new name shown → shown ≡ Some v → table value new ≡ insert (table value old) name v
unfolding Changes
table-insert value old new name shown v changes is =
    alike _ _ (λ q. get-table value new q ∙ changes q ∙ ap (λ s. cond (same_name q name) s (look value old q)) is ∙ ap (cond (same_name q name) (Some v)) (sym (get-table value old q)) ∙ sym (get-insert nat_list_cmp_total (table value old) name v q))

table-remove : {X : Type 0} (value : EntryState → Option X) (old new : List EntryState) (name : List ℕ) (shown : Option X)
    → Changes value old new name shown → shown ≡ None → table value new ≡ remove (table value old) name
unfolding Changes
table-remove value old new name shown changes is =
    alike _ _ (λ q. get-table value new q ∙ changes q ∙ ap (λ s. cond (same_name q name) s (look value old q)) is ∙ ap (cond (same_name q name) None) (sym (get-table value old q)) ∙ sym (get-remove nat_list_cmp_total (table value old) name q))

table-same : {X : Type 0} (value : EntryState → Option X) (old new : List EntryState) (name : List ℕ) (shown : Option X)
    → Changes value old new name shown → get (table value old) name ≡ shown → table value new ≡ table value old
unfolding Changes
table-same value old new name shown changes had = alike _ _ (λ q. get-table value new q ∙ changes q
    ∙ by_name q name (λ here tied. rw tied (sym had ∙ get-table value old name ∙ ap (look value old) (sym here))) (λ differs. rw differs refl)
    ∙ sym (get-table value old q))

-- the names and the files of the places
name-set : (entries : List EntryState) (i : ℕ) (x : EntryState) (k : ℕ) → x.name ≡ name_at entries i → i < length entries → name_at (set entries i x) k ≡ name_at entries k
name-set [] i x k is within = absurd (omega arith)
name-set (entry ∷ entries) zero x zero is within = is
name-set (entry ∷ entries) zero x (suc k) is within = refl
name-set (entry ∷ entries) (suc i) x zero is within = refl
name-set (entry ∷ entries) (suc i) x (suc k) is within = name-set entries i x k is (omega arith)

file-set : (entries : List EntryState) (i : ℕ) (x : EntryState) (k : ℕ) → (IsSome (file_at entries i) → IsSome x.file) → IsSome (file_at entries k) → IsSome (file_at (set entries i x) k)
file-set [] i x k keeps had = had
file-set (entry ∷ entries) zero x zero keeps had = keeps had
file-set (entry ∷ entries) zero x (suc k) keeps had = had
file-set (entry ∷ entries) (suc i) x zero keeps had = had
file-set (entry ∷ entries) (suc i) x (suc k) keeps had = file-set entries i x k keeps had

file-set_here : (entries : List EntryState) (i : ℕ) (x : EntryState) → i < length entries → file_at (set entries i x) i ≡ x.file
file-set_here [] i x within = absurd (omega arith)
file-set_here (entry ∷ entries) zero x within = refl
file-set_here (entry ∷ entries) (suc i) x within = file-set_here entries i x (omega arith)

name-push : (entries : List EntryState) (x : EntryState) (k : ℕ) → k < length entries → name_at (entries ++ x ∷ []) k ≡ name_at entries k
name-push [] x k within = absurd (omega arith)
name-push (entry ∷ entries) x zero within = refl
name-push (entry ∷ entries) x (suc k) within = name-push entries x k (omega arith)

name_pushed : (entries : List EntryState) (x : EntryState) → name_at (entries ++ x ∷ []) (length entries) ≡ x.name
name_pushed [] x = refl
name_pushed (entry ∷ entries) x = name_pushed entries x

file-push : (entries : List EntryState) (x : EntryState) (k : ℕ) → IsSome (file_at entries k) → IsSome (file_at (entries ++ x ∷ []) k)
file-push [] x k had = absurd (cc)
file-push (entry ∷ entries) x zero had = had
file-push (entry ∷ entries) x (suc k) had = file-push entries x k had

-- what the name holds grows where its file is set to more
grow-insert : (m : Contents) (name held bytes : List ℕ) → get m name ≡ Some held → insert m name (held ++ bytes) ≡ grow m name bytes
unfolding grow
grow-insert m name held bytes is = rw is refl

-- the entry that stands at this place is changed, and keeps its name
pub record IsChange (entries : List EntryState) (i : ℕ) (before after : EntryState) : Type 0 where
  pub own : HaveOwnNames entries
  pub within : i < length entries
  pub item : before ≡ get_or entries i before
  pub named : after.name ≡ before.name

module _ {entries : List EntryState} {i : ℕ} {before after : EntryState} (c : IsChange entries i before after) where
  pub name-change : after.name ≡ name_at entries i
  name-change = c.named ∙ sym (name_is entries i before c.within c.item)

  file-change : get (contents entries) after.name ≡ before.file
  file-change = (entry_of entries i after.name c.own c.within (sym name-change)).file ∙ file_is entries i before c.within c.item

  room-change : get (rooms entries) after.name ≡ before.room
  room-change = (entry_of entries i after.name c.own c.within (sym name-change)).room ∙ room_is entries i before c.within c.item

  pub own-change : HaveOwnNames (set entries i after)
  own-change a b below inside ties = c.own a b below (omega (arith, length-set entries i after)) (sym (name-set entries i after a name-change c.within) ∙ ties ∙ name-set entries i after b name-change c.within)

  pub places-change : (IsSome before.file → IsSome after.file) → KeepsPlaces entries (set entries i after)
  places-change keeps = record {
    longer = omega (arith, length-set entries i after);
    names = λ k inside. name-set entries i after k name-change c.within;
    files = λ k had. file-set entries i after k (λ here. keeps (subst IsSome (file_is entries i before c.within c.item) here)) had;
  }

  pub file_at-change : file_at (set entries i after) i ≡ after.file
  file_at-change = file-set_here entries i after c.within

  pub contents-change : (name bytes : List ℕ) → after.name ≡ name → after.file ≡ Some bytes → contents (set entries i after) ≡ insert (contents entries) name bytes
  contents-change name bytes named is = table-insert _ entries (set entries i after) after.name after.file bytes (changes-set (λ entry. entry.file) entries i after c.own c.within name-change) is
      ∙ ap (λ (n : List ℕ). insert (contents entries) n bytes) named

  pub contents-change_same : after.file ≡ before.file → contents (set entries i after) ≡ contents entries
  contents-change_same is = table-same _ entries (set entries i after) after.name after.file (changes-set (λ entry. entry.file) entries i after c.own c.within name-change) (file-change ∙ sym is)

  pub rooms-change : (name : List ℕ) (room : ℕ) → after.name ≡ name → after.room ≡ Some room → rooms (set entries i after) ≡ insert (rooms entries) name room
  rooms-change name room named is = table-insert _ entries (set entries i after) after.name after.room room (changes-set (λ entry. entry.room) entries i after c.own c.within name-change) is
      ∙ ap (λ (n : List ℕ). insert (rooms entries) n room) named

  pub rooms-change_none : (name : List ℕ) → after.name ≡ name → after.room ≡ None → rooms (set entries i after) ≡ remove (rooms entries) name
  rooms-change_none name named is = table-remove _ entries (set entries i after) after.name after.room (changes-set (λ entry. entry.room) entries i after c.own c.within name-change) is
      ∙ ap (λ (n : List ℕ). remove (rooms entries) n) named

  pub rooms-change_same : after.room ≡ before.room → rooms (set entries i after) ≡ rooms entries
  rooms-change_same is = table-same _ entries (set entries i after) after.name after.room (changes-set (λ entry. entry.room) entries i after c.own c.within name-change) (room-change ∙ sym is)

  -- what the name holds grows where its file is set to more
  pub contents-change_grow : (held bytes : List ℕ) → before.file ≡ Some held → after.file ≡ Some (held ++ bytes) → contents (set entries i after) ≡ grow (contents entries) (name_at entries i) bytes
  contents-change_grow held bytes had is =
      contents-change (name_at entries i) (held ++ bytes) name-change is
      ∙ grow-insert (contents entries) (name_at entries i) held bytes (ap (get (contents entries)) (sym name-change) ∙ file-change ∙ had)

-- an entry is added behind the others, whose name is new
pub record IsAddition (entries : List EntryState) (entry : EntryState) : Type 0 where
  pub own : HaveOwnNames entries
  pub none : NoneNamed entries entry.name

module _ {entries : List EntryState} {entry : EntryState} (c : IsAddition entries entry) where
  pub own-addition : HaveOwnNames (entries ++ entry ∷ [])
  own-addition a b below inside ties =
      let last : b ≤ length entries = omega (arith, length-append entries (entry ∷ [])) in
      elim (cases_eq b (length entries)) [
        | inl is ↦ c.none a (omega arith) (sym (name-push entries entry a (omega arith)) ∙ ties ∙ ap (λ k. name_at (entries ++ entry ∷ []) k) is ∙ name_pushed entries entry)
        | inr before ↦ c.own a b below (omega arith) (sym (name-push entries entry a (omega arith)) ∙ ties ∙ name-push entries entry b (omega arith))
      ]

  pub places-addition : KeepsPlaces entries (entries ++ entry ∷ [])
  places-addition = record {
    longer = omega (arith, length-append entries (entry ∷ []));
    names = λ k inside. name-push entries entry k inside;
    files = λ k had. file-push entries entry k had;
  }

  pub contents-addition : (name bytes : List ℕ) → entry.name ≡ name → entry.file ≡ Some bytes → contents (entries ++ entry ∷ []) ≡ insert (contents entries) name bytes
  contents-addition name bytes named is = table-insert _ entries (entries ++ entry ∷ []) entry.name entry.file bytes (changes-push (λ entry. entry.file) entries entry c.none) is
      ∙ ap (λ (n : List ℕ). insert (contents entries) n bytes) named

  pub contents-addition_same : entry.file ≡ None → contents (entries ++ entry ∷ []) ≡ contents entries
  contents-addition_same is = table-same _ entries (entries ++ entry ∷ []) entry.name entry.file (changes-push (λ entry. entry.file) entries entry c.none) ((unknown entries entry.name c.none).file ∙ sym is)

  pub rooms-addition : (name : List ℕ) (room : ℕ) → entry.name ≡ name → entry.room ≡ Some room → rooms (entries ++ entry ∷ []) ≡ insert (rooms entries) name room
  rooms-addition name room named is = table-insert _ entries (entries ++ entry ∷ []) entry.name entry.room room (changes-push (λ entry. entry.room) entries entry c.none) is
      ∙ ap (λ (n : List ℕ). insert (rooms entries) n room) named

  pub rooms-addition_none : (name : List ℕ) → entry.name ≡ name → entry.room ≡ None → rooms (entries ++ entry ∷ []) ≡ remove (rooms entries) name
  rooms-addition_none name named is = table-remove _ entries (entries ++ entry ∷ []) entry.name entry.room (changes-push (λ entry. entry.room) entries entry c.none) is
      ∙ ap (λ (n : List ℕ). remove (rooms entries) n) named

-- a file that exists holds something, and one that doesn't nothing
pub some_held : (file : Option (List ℕ)) → IsSome file → file ≡ Some (unwrap_or file [])
some_held None held = absurd (cc)
some_held (Some bytes) held = refl

pub none_held : (file : Option (List ℕ)) → (IsSome file → ⊥) → file ≡ None
none_held None not = refl
none_held (Some bytes) not = absurd (not refl)
