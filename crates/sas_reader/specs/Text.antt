-- The first line of a text that breaks its rule (the planner's output format, version 3).
use Rattle.std.specs.Prelude.{◌≡◌, ℕ, ◌==◌, List, [], map, count_by, Option, Some, None, Result, Ok, Err}
use Rattle.sas_task.specs.declared.parts.Operator.{Operator}
use Rattle.sas_task.specs.Output.{text_of}
use Rattle.sas_task.specs.Task.{Task}
use Rattle.sas_task.specs.Valid.{IsValid}
use Rattle.sas_reader.specs.declared.fault.SasFault.{SasFault}
use Rattle.sas_reader.specs.declared.fault.SasPlace.TheVariants as places
use Rattle.sas_reader.specs.Forms.{◌>>=◌, ◌>>◌, Form, Reading, given, section, end, unread}
use Rattle.sas_reader.specs.Contexts.{so_far}
use Rattle.sas_reader.specs.Sections.{version, metric, variables, groups, state, goal}
use Rattle.sas_reader.specs.Operators.{operators, spared}
use Rattle.sas_reader.specs.Rules.{rules}

-- the eight sections, and no more
unfoldable pub task : Form Task
task =
    version
    >> section places.Metric
    >> metric
    >>= λ metric. section places.Variables
    >> variables
    >>= λ variables. section places.Groups
    >> groups (so_far variables [])
    >>= λ groups. section places.State
    >> state (so_far variables [])
    >>= λ state. section places.Goal
    >> goal (so_far variables [])
    >>= λ goal. section places.Operators
    >> operators metric (so_far variables [])
    >>= λ operators. section places.Rules
    >> rules variables state
    >>= λ rules. section places.End
    >> end
    >> given (record { metric = metric; variables = variables; groups = groups; state = state; goal = goal; operators = operators; rules = rules })

abbrev pub read_of : Reading Task → Result Task SasFault
read_of (Ok read) = Ok read.0
read_of (Err fault) = Err fault

-- what a text is read as: a task, or the first line that breaks its rule
abbrev pub reading_of : List ℕ → Result Task SasFault
reading_of bytes = read_of (task (unread bytes))

abbrev pub fault_of : Reading Task → Option SasFault
fault_of (Ok read) = None
fault_of (Err fault) = Some fault

-- the first line that breaks its rule, with its section, if one does
abbrev pub line_fault : List ℕ → Option SasFault
line_fault bytes = fault_of (task (unread bytes))

-- the task with these operators
abbrev pub with_operators : Task → List Operator → Task
with_operators t operators =
    record { metric = t.metric; variables = t.variables; groups = t.groups; state = t.state; goal = t.goal; operators = operators; rules = t.rules }

-- the bytes, less one space at the end of each operator's name that has one, are the text of the task
pub record IsTextOf (bytes : List ℕ) (t : Task) : Type 0 where
  pub written : List Operator
  pub spares : map spared written ≡ t.operators
  pub text : bytes ≡ text_of (with_operators t written)

-- the bytes are the text of some valid task
abbrev pub HasTask : List ℕ → Type 0
HasTask bytes = (t : Task) × IsValid t × IsTextOf bytes t

-- how many whole lines the bytes have: each ends at a line feed
abbrev pub whole_lines : List ℕ → ℕ
whole_lines bytes = count_by (λ b. b == 10) bytes
