-- Which words are accepted, and what they ask for.
use Rattle.std.specs.Prelude.{ℕ, Bool, false, List, [], ◌∷◌, length, Option, Some, None, option_map, unwrap_or, ◌&&◌, if◌then◌else◌, nat_lt, nat_le, codes}
use Rattle.std.specs.List.{list_all}
use Rattle.std.specs.Char.{is_ascii_digit}
use Rattle.std.specs.Str.{bytes_eq}
use Rattle.std.specs.Str.Parse.{digits_value}
use Rattle.clap.specs.Words.{Row, Text, fault_of, first_of, matches_of}
use Rattle.clap.specs.Kinds.{Kinds}
use Rattle.command_line.specs.Command.{command}
use Rattle.command_line.specs.declared.accepted.Accepted.{Accepted}
use Rattle.command_line.specs.declared.accepted.Settings.{Settings}
use Rattle.command_line.specs.declared.accepted.Source.{Source as GivenSource}
use Rattle.command_line.specs.declared.accepted.Source.TheVariants as sources

-- where a task comes from: a domain file and a problem file of these names, the made texts with so many balls, or the file of this name, in which it is written
pub data Source : Type 0 where
  Files : (domain problem : Text) → Source
  Made : (balls : ℕ) → Source
  WrittenTask : (file : Text) → Source

-- What accepted words ask for: where the task comes from, how it is made, the name of the output file, the name of a plan file that is to be mapped back, if there is one, and the list of passes as it is written, if there is one.
pub record Asked : Type 0 where
  pub source : Source
  pub settings : Settings
  pub output : Text
  pub plan : Option Text
  pub passes : Option Text

abbrev pub source_by : GivenSource → Source
source_by (sources.Files domain problem) = Files domain.now problem.now
source_by (sources.Made balls) = Made balls
source_by (sources.WrittenTask file) = WrittenTask file.now

abbrev pub asked_by : Accepted → Asked
asked_by a = record { source = source_by a.source; settings = a.settings; output = a.output.now; plan = option_map (λ name. name.now) a.plan; passes = option_map (λ names. names.now) a.passes }

abbrev pub number_if : Bool → ℕ → Option ℕ
number_if holds n = if holds then Some n else None

-- the number that these decimal digits write, and no other character, where it is one from `least` to `most`
abbrev pub number_within : ℕ → ℕ → Text → Option ℕ
number_within least most text =
    number_if (nat_lt 0 (length text) && (list_all is_ascii_digit text && (nat_le least (digits_value 10 text) && nat_le (digits_value 10 text) most))) (digits_value 10 text)

-- the number of candidates, where it is given and where it isn't
abbrev pub candidates_of : Option Text → Option ℕ
candidates_of None = Some 100000
candidates_of (Some text) = number_within 0 2147483647 text

-- whether a flag is given: its value is `true` where it is, and `false` where it isn't
abbrev pub is_set : Option Text → Bool
is_set None = false
is_set (Some text) = bytes_eq text (codes "true")

-- both input files are named, or a number of balls is given, or the file of a written task is named, and nothing else of these
abbrev pub source_of : Option Text → Option Text → Option Text → Option Text → Option Source
source_of (Some domain) (Some problem) None None = Some (Files domain problem)
source_of None None (Some balls) None = option_map Made (number_within 1 200 balls)
source_of None None None (Some file) = Some (WrittenTask file)
source_of domain problem balls file = None

-- there is a source, and the number of candidates is one
abbrev pub asked_with : Text → Option Text → Option Text → Bool → Option Source → Option ℕ → Option Asked
asked_with output plan passes full (Some source) (Some candidates) =
    Some record { source = source; settings = record { max_candidates = candidates; full_encoding = full }; output = output; plan = plan; passes = passes }
asked_with output plan passes full source candidates = None

-- what the matches ask for, where the rules on them hold
abbrev pub asked_of : List Row → Option Asked
asked_of rows = asked_with (unwrap_or (first_of (codes "sas-file") rows) (codes "output.sas")) (first_of (codes "map-plan") rows) (first_of (codes "pass") rows)
    (is_set (first_of (codes "full-encoding") rows))
    (source_of (first_of (codes "domain") rows) (first_of (codes "problem") rows) (first_of (codes "make") rows) (first_of (codes "from-sas") rows))
    (candidates_of (first_of (codes "invariant-generation-max-candidates") rows))

-- nothing is wrong with the words
abbrev pub if_faultless : {X : Type 0} → Kinds → Option X → Option X
if_faultless [] x = x
if_faultless (kind ∷ kinds) x = None

-- The words, the program's name first, are accepted and ask for this: clap's definitions give the command matches on
-- them, and the rules on the matches hold.
unfoldable pub accepted : List Text → Option Asked
accepted words = if_faultless (fault_of command words) (asked_of (matches_of command words))
