-- The pieces in which lines are printed.
use Rattle.std.specs.Prelude.{ℕ, List, codes, decimal}
use Rattle.std.specs.List.{flat_map}
use Rattle.messages.specs.declared.message.Phrase.{Phrase}
use Rattle.messages.specs.declared.message.Phrase.TheVariants as phrases
use Rattle.messages.specs.declared.message.Piece.{Piece}
use Rattle.messages.specs.declared.message.Piece.TheVariants as pieces
use Rattle.messages.specs.Messages.{usage_line, memory_line}

-- the bytes of a fixed part
unfoldable pub bytes_of : Phrase → List ℕ
bytes_of phrases.Usage = usage_line
bytes_of phrases.OutOfMemory = memory_line
bytes_of phrases.CannotWrite = codes "translate: cannot write "
bytes_of phrases.CannotRead = codes "translate: cannot read "
bytes_of phrases.Prefix = codes "translate: "
bytes_of phrases.Colon = codes ":"
bytes_of phrases.BeforeWords = codes ": "
bytes_of phrases.Candidates = codes "Translator candidates: "
bytes_of phrases.Invariants = codes "\nTranslator invariants: "
bytes_of phrases.Variables = codes "\nTranslator variables: "
bytes_of phrases.Facts = codes "\nTranslator facts: "
bytes_of phrases.MutexGroups = codes "\nTranslator mutex groups: "
bytes_of phrases.Operators = codes "\nTranslator operators: "
bytes_of phrases.Axioms = codes "\nTranslator axioms: "
bytes_of phrases.LineFeed = codes "\n"

-- the bytes of a part
abbrev pub piece_bytes : Piece → List ℕ
piece_bytes (pieces.Fixed phrase) = bytes_of phrase
piece_bytes (pieces.Name name) = name.now
piece_bytes (pieces.Number number) = decimal number

-- parts one after another
abbrev pub joined : List (List ℕ) → List ℕ
joined parts = flat_map (λ part. part) parts
