-- Each line is its pieces, one after another.
use Rattle.std.proofs.Common.{◌≡◌, ℕ, List, [], ◌∷◌, ◌++◌, refl, sym, ap, ◌∙◌, append-nil, append_assoc}
use Rattle.std.specs.Prelude.{fold, codes, decimal}
use Rattle.pddl_lexer.specs.declared.position.At.{At}
use Rattle.messages.specs.declared.outcome.Summary.{Summary}
use Rattle.messages.specs.declared.message.Phrase.TheVariants as phrases
use Rattle.messages.specs.Messages.{named_line, unreadable_line, unwritable_line, fault_line, position_text, summary_lines}
use Rattle.messages.specs.Pieces.{bytes_of, joined}

run_on : (before : List ℕ) (parts : List (List ℕ)) → before ++ joined parts ≡ fold (λ line part. line ++ part) before parts
run_on before [] = append-nil before
run_on before (part ∷ parts) = sym (append_assoc before part (joined parts)) ∙ run_on (before ++ part) parts

pub named_pieces : (words name : List ℕ) → joined (words ∷ name ∷ bytes_of phrases.LineFeed ∷ []) ≡ named_line words name
unfolding bytes_of
named_pieces words name = run_on words (name ∷ codes "\n" ∷ [])

pub unreadable_is : (name : List ℕ) → named_line (bytes_of phrases.CannotRead) name ≡ unreadable_line name
unfolding bytes_of unreadable_line
unreadable_is name = refl

pub unwritable_is : (name : List ℕ) → named_line (bytes_of phrases.CannotWrite) name ≡ unwritable_line name
unfolding bytes_of unwritable_line
unwritable_is name = refl

pub line_pieces : (name : List ℕ) (line : ℕ) (words : List ℕ) →
    joined (bytes_of phrases.Prefix ∷ name ∷ bytes_of phrases.Colon ∷ decimal line ∷ bytes_of phrases.BeforeWords ∷ words ∷ bytes_of phrases.LineFeed ∷ []) ≡ fault_line name (decimal line) words
unfolding bytes_of fault_line
line_pieces name line words = run_on (codes "translate: ") (name ∷ codes ":" ∷ decimal line ∷ codes ": " ∷ words ∷ codes "\n" ∷ [])

three_at_once : (before first second third : List ℕ) → before ++ first ++ second ++ third ≡ before ++ (first ++ second ++ third)
three_at_once before first second third = ap (λ (line : List ℕ). line ++ third) (append_assoc before first second) ∙ append_assoc before (first ++ second) third

pub position_pieces : (name : List ℕ) (at : At) (words : List ℕ) →
    joined (bytes_of phrases.Prefix ∷ name ∷ bytes_of phrases.Colon ∷ decimal at.line ∷ bytes_of phrases.Colon ∷ decimal at.column ∷ bytes_of phrases.BeforeWords ∷ words ∷ bytes_of phrases.LineFeed ∷ [])
    ≡ fault_line name (position_text at) words
unfolding bytes_of fault_line
position_pieces name at words =
    run_on (codes "translate: ") (name ∷ codes ":" ∷ decimal at.line ∷ codes ":" ∷ decimal at.column ∷ codes ": " ∷ words ∷ codes "\n" ∷ [])
    ∙ ap (λ (line : List ℕ). line ++ codes ": " ++ words ++ codes "\n") (three_at_once (codes "translate: " ++ name ++ codes ":") (decimal at.line) (codes ":") (decimal at.column))

pub summary_pieces : (summary : Summary) →
    joined (bytes_of phrases.Candidates ∷ decimal summary.candidates ∷ bytes_of phrases.Invariants ∷ decimal summary.invariants
    ∷ bytes_of phrases.Variables ∷ decimal summary.variables ∷ bytes_of phrases.Facts ∷ decimal summary.facts ∷ bytes_of phrases.MutexGroups ∷ decimal summary.mutex_groups
    ∷ bytes_of phrases.Operators ∷ decimal summary.operators ∷ bytes_of phrases.Axioms ∷ decimal summary.axioms ∷ bytes_of phrases.LineFeed ∷ []) ≡ summary_lines summary
unfolding bytes_of summary_lines
summary_pieces summary =
    run_on (codes "Translator candidates: ")
    (decimal summary.candidates ∷ codes "\nTranslator invariants: " ∷ decimal summary.invariants
    ∷ codes "\nTranslator variables: " ∷ decimal summary.variables ∷ codes "\nTranslator facts: " ∷ decimal summary.facts ∷ codes "\nTranslator mutex groups: " ∷ decimal summary.mutex_groups
    ∷ codes "\nTranslator operators: " ∷ decimal summary.operators ∷ codes "\nTranslator axioms: " ∷ decimal summary.axioms ∷ codes "\n" ∷ [])
