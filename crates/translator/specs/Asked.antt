-- What a run is asked for: what the words say, where each of the passes that they name is in the book.
use Rattle.std.specs.Prelude.{ℕ, ◌==◌, List, [], ◌∷◌, map, Option, Some, None, if◌then◌else◌, codes}
use Rattle.std.specs.List.{slice_split}
use Rattle.std.specs.String.{string_bytes}
use Rattle.std.specs.declared.string.String.{String}
use Rattle.std.specs.declared.alloc.Global.{Global}
use Rattle.names.specs.Names.{is_same}
use Rattle.command_line.specs.Accepted.{Source, accepted}
use Rattle.command_line.specs.Accepted as words
use Rattle.command_line.specs.declared.accepted.Settings.{Settings}
use Rattle.pass_book.specs.declared.kind.PassKind.{PassKind}
use Rattle.pass_book.specs.declared.kind.PassKind.TheVariants.{Order, Relevance, H2}
use Rattle.pass_book.specs.Passes.{is_held}
use Rattle.pass_book.specs.declared.book.Book.{Book}
use Rattle.pass_book.specs.Held.{held_kinds}

-- where the task comes from, how it is made, the passes that change it then, the name of the output file, and the name of a plan file that is to be mapped back, if there is one
pub record Asked : Type 0 where
  pub source : Source
  pub settings : Settings
  pub passes : List PassKind
  pub output : List ℕ
  pub plan : Option (List ℕ)

-- a pass of each kind
abbrev pub every_pass : List PassKind
every_pass = Order ∷ Relevance ∷ H2 ∷ []

-- the kind of the passes of this name
abbrev pub kind_named : List ℕ → Option PassKind
kind_named name =
    if is_same name (codes "order") then Some Order
    else if is_same name (codes "relevance") then Some Relevance
    else if is_same name (codes "h2") then Some H2 else None

-- the kind, if it is held
abbrev pub if_one_held : List PassKind → Option PassKind → Option PassKind
if_one_held held (Some kind) = if is_held held kind then Some kind else None
if_one_held held None = None

-- the kind of this name, if it is one and is held
abbrev pub kind_held : List PassKind → List ℕ → Option PassKind
kind_held held name = if_one_held held (kind_named name)

-- the kind before these
abbrev pub put_first : Option PassKind → Option (List PassKind) → Option (List PassKind)
put_first (Some kind) (Some kinds) = Some (kind ∷ kinds)
put_first kind kinds = None

-- the kinds of these names, in their order, if each name is one of a kind that is held
abbrev pub kinds_named : List PassKind → List (List ℕ) → Option (List PassKind)
kinds_named held [] = Some []
kinds_named held (name ∷ names) = put_first (kind_held held name) (kinds_named held names)

-- the kinds that a list names, whose names have commas between them; without a list there is no pass
abbrev pub kinds_of : List PassKind → Option (List ℕ) → Option (List PassKind)
kinds_of held None = Some []
kinds_of held (Some text) = kinds_named held (slice_split (λ byte. byte == 44) text)

-- what the words ask for, with passes of these kinds
abbrev pub with_kinds : words.Asked → List PassKind → Asked
with_kinds asked kinds = record { source = asked.source; settings = asked.settings; passes = kinds; output = asked.output; plan = asked.plan }

-- the same, if there are kinds
abbrev pub if_kinds : words.Asked → Option (List PassKind) → Option Asked
if_kinds asked (Some kinds) = Some (with_kinds asked kinds)
if_kinds asked None = None

-- what accepted words ask for, if the passes that they name are held
abbrev pub if_held : List PassKind → Option words.Asked → Option Asked
if_held held (Some asked) = if_kinds asked (kinds_of held asked.passes)
if_held held None = None

-- what the words ask for, where they are accepted and the kinds of passes that they name are held: the program's name stands first
abbrev pub asked_by_words : List PassKind → List (String Global) → Option Asked
asked_by_words held words = if_held held (accepted (map string_bytes words))

-- the same, with the passes that the book holds, whatever their functions are
abbrev pub asked_of : {X : Type 0} {F : X → Type 0} {run : _} → Book X F run → List (String Global) → Option Asked
asked_of book words = asked_by_words (held_kinds book) words
