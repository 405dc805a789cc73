-- What is printed at the end of a run.
use Rattle.std.specs.Prelude.{ℕ, List, ◌++◌, codes, decimal}
use Rattle.pddl_lexer.specs.Kinds.{text}
use Rattle.pddl_lexer.specs.declared.position.At.{At}
use Rattle.sas_reader.specs.Places.{text as place_text}
use Rattle.messages.specs.declared.outcome.Summary.{Summary}
use Rattle.messages.specs.declared.outcome.Message.{Message}
use Rattle.messages.specs.declared.outcome.Message.TheVariants as messages

-- the line that refuses the words
unfoldable pub usage_line : List ℕ
usage_line = codes "usage: translate DOMAIN PROBLEM [options]\n"

-- the line on want of memory
unfoldable pub memory_line : List ℕ
memory_line = codes "translate: out of memory\n"

-- a line that ends with a name
abbrev pub named_line : List ℕ → List ℕ → List ℕ
named_line words name = words ++ name ++ codes "\n"

-- the line that names a file that can't be read
unfoldable pub unreadable_line : List ℕ → List ℕ
unreadable_line name = named_line (codes "translate: cannot read ") name

-- the line that names a file that can't be written
unfoldable pub unwritable_line : List ℕ → List ℕ
unwritable_line name = named_line (codes "translate: cannot write ") name

-- the line that says this of a place in the text of this name
unfoldable pub fault_line : List ℕ → List ℕ → List ℕ → List ℕ
fault_line name place words = codes "translate: " ++ name ++ codes ":" ++ place ++ codes ": " ++ words ++ codes "\n"

-- a position, told by its line and its column
abbrev pub position_text : At → List ℕ
position_text at = decimal at.line ++ codes ":" ++ decimal at.column

-- the place that a message is about: a position, or a whole line
abbrev pub place_of : Message → List ℕ
place_of (messages.Fault fault) = position_text fault.at
place_of (messages.BadPlanLine line) = decimal line
place_of (messages.UnknownStep line) = decimal line
place_of (messages.TaskLine fault) = decimal fault.line

-- what it says
abbrev pub words_of : Message → List ℕ
words_of (messages.Fault fault) = text fault.kind
words_of (messages.BadPlanLine line) = codes "malformed plan line"
words_of (messages.UnknownStep line) = codes "unknown step"
words_of (messages.TaskLine fault) = place_text fault.place

-- the line on a text that is refused
abbrev pub refusal_line : List ℕ → Message → List ℕ
refusal_line name message = fault_line name (place_of message) (words_of message)

-- the seven lines on the search for invariants and on the written task
unfoldable pub summary_lines : Summary → List ℕ
summary_lines summary =
    codes "Translator candidates: " ++ decimal summary.candidates ++ codes "\nTranslator invariants: " ++ decimal summary.invariants
    ++ codes "\nTranslator variables: " ++ decimal summary.variables ++ codes "\nTranslator facts: " ++ decimal summary.facts
    ++ codes "\nTranslator mutex groups: " ++ decimal summary.mutex_groups ++ codes "\nTranslator operators: " ++ decimal summary.operators
    ++ codes "\nTranslator axioms: " ++ decimal summary.axioms ++ codes "\n"

-- the lines on a written task: those seven, and those on a plan that is mapped back
abbrev pub task_lines : Summary → List ℕ → List ℕ
task_lines summary plan = summary_lines summary ++ plan
