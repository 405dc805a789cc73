-- How a text is read: line by line, and in a line word by word, up to the first line that breaks its rule.
use Rattle.std.specs.Prelude.{ℕ, zero, suc, ◌+◌, Bool, ◌==◌, List, [], ◌∷◌, ◌++◌, Option, Some, None, Result, Ok, Err, if◌then◌else◌}
use Rattle.std.specs.List.{slice_split}
use Rattle.sas_task.specs.Output.{Line}
use Rattle.sas_reader.specs.declared.fault.SasFault.{SasFault}
use Rattle.sas_reader.specs.declared.fault.SasPlace.{SasPlace}
use Rattle.sas_reader.specs.declared.fault.SasPlace.TheVariants.{Version}
use Rattle.sas_reader.specs.Words.{is_same}

-- What is still to be read of a text: its section, how many lines were begun, the words that are left of the line that was begun last, and
-- the pieces of the text after that line. A text is cut at its line feeds. Each piece but the last is a line; the last has no line feed.
pub record Unread : Type 0 where
  pub place : SasPlace
  pub begun : ℕ
  pub words : List Line
  pub pieces : List Line

-- the bytes, cut at this byte
abbrev pub pieces_of : ℕ → List ℕ → List Line
pieces_of byte bytes = slice_split (λ b. b == byte) bytes

-- a whole text
abbrev pub unread : List ℕ → Unread
unread text = record { place = Version; begun = 0; words = []; pieces = pieces_of 10 text }

-- the line that was begun last breaks its rule
abbrev pub here : Unread → SasFault
here now = record { line = now.begun; place = now.place }

-- the line after it does: it is missing or has no line feed, or no line should follow
abbrev pub next : Unread → SasFault
next now = record { line = now.begun + 1; place = now.place }

-- what was read and what is still unread, or the first line that breaks its rule
abbrev pub Reading : Type 0 → Type 0
Reading A = Result (A × Unread) SasFault

-- how something is read
abbrev pub Form : Type 0 → Type 0
Form A = Unread → Reading A

abbrev pub followed : {A B : Type 0} → Reading A → (A → Form B) → Reading B
followed (Ok x) more = more x.0 x.1
followed (Err fault) more = Err fault

-- one after the other: the second may look at what the first has read
infixl 10 ◌>>=◌
abbrev pub ◌>>=◌ : {A B : Type 0} → Form A → (A → Form B) → Form B
(form >>= more) now = followed (form now) more

-- one after the other
infixl 10 ◌>>◌
abbrev pub ◌>>◌ : {A B : Type 0} → Form A → Form B → Form B
(form >> more) now = followed (form now) (λ _. more)

-- a value, with nothing read
abbrev pub given : {A : Type 0} → A → Form A
given x now = Ok (x, now)

-- the value, where its line meets its rule
abbrev pub passing : {A : Type 0} → Bool → A → Form A
passing test x now = if test then Ok (x, now) else Err (here now)

-- the value that the line has by its rule
abbrev pub met : {A : Type 0} → Option A → Form A
met (Some x) now = Ok (x, now)
met None now = Err (here now)

abbrev pub line_of : List Line → Form Line
line_of [] now = Err (next now)
line_of (rest ∷ []) now = Err (next now)
line_of (next_piece ∷ piece ∷ pieces) now = Ok (next_piece, record now { begun = now.begun + 1; pieces = piece ∷ pieces })

-- the next line
abbrev pub next_line : Form Line
next_line now = line_of now.pieces now

abbrev pub with_words : List Line → Form (Unit {0})
with_words words now = Ok (tt, record now { words = words })

-- the next line, to be read word by word: it is cut at its spaces
unfoldable pub begin_words : Form (Unit {0})
begin_words = next_line >>= λ line. with_words (pieces_of 32 line)

abbrev pub word_of : List Line → Form Line
word_of [] now = Err (here now)
word_of (next_word ∷ words) now = Ok (next_word, record now { words = words })

-- the next word
abbrev pub word : Form Line
word now = word_of now.words now

abbrev pub no_word : List Line → Form (Unit {0})
no_word [] now = Ok (tt, now)
no_word (next_word ∷ words) now = Err (here now)

-- no word is left
abbrev pub end_words : Form (Unit {0})
end_words now = no_word now.words now

-- a line of words
unfoldable pub line : {A : Type 0} → Form A → Form A
line form = begin_words >> form >>= λ x. end_words >> given x

abbrev pub nothing : List Line → Form (Unit {0})
nothing [] now = Err (next now)
nothing ([] ∷ []) now = Ok (tt, now)
nothing ((byte ∷ bytes) ∷ []) now = Err (next now)
nothing (next_piece ∷ piece ∷ pieces) now = Err (next now)

-- no byte is left
abbrev pub end : Form (Unit {0})
end now = nothing now.pieces now

abbrev pub in_section : SasPlace → Unread → Unread
in_section place now = record now { place = place }

-- the lines from here on are of this section
abbrev pub section : SasPlace → Form (Unit {0})
section place now = Ok (tt, in_section place now)

-- a line of fixed words
unfoldable pub fixed : Line → Form (Unit {0})
fixed words = next_line >>= λ line. passing (is_same line words) tt

-- so many more items, one after the other, each by the rule of one, which is given those before it
unfoldable pub listed : {A : Type 0} → (List A → Form A) → ℕ → List A → Form (List A)
listed one zero before now = Ok (before, now)
listed one (suc count) before now = followed (one before now) (λ x. listed one count (before ++ x ∷ []))
