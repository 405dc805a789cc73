-- The reading of a problem file (PDDL 2.2 and 3.1), or all its shape faults, in the order of the file: a list's own fault, and if it has none
-- those of its members from left to right; missing sections last.
pub use Rattle.pddl_parser.specs.declared.problem.ProblemKey.{ProblemKey}
pub use Rattle.pddl_parser.specs.declared.problem.ProblemSection.{ProblemSection}
pub use Rattle.pddl_syntax.specs.Reading.{check_file, title, section, sections}
use Rattle.std.specs.Prelude.{ℕ, Bool, true, false, ◌&&◌, ◌||◌, List, [], ◌∷◌, ◌++◌, Option, Some, None, Err, codes, if◌then◌else◌}
use Rattle.std.specs.List.{fold}
use Rattle.pddl_lexer.specs.declared.position.At.{At}
use Rattle.pddl_lexer.specs.Members.{Members, NoMore, WordThen, ListThen, is_empty, position, word, inside, rest}
use Rattle.pddl_lexer.specs.declared.fault.Fault.{Fault}
use Rattle.pddl_lexer.specs.declared.fault.Kind.TheVariants.{MissingSection}
use Rattle.pddl_lexer.specs.declared.fault.ShapePlace.TheVariants as places
use Rattle.pddl_syntax.specs.declared.expected.Expected.TheVariants as expected
use Rattle.pddl_syntax.specs.declared.types.Atom.{Atom}
use Rattle.pddl_syntax.specs.declared.types.Condition.TheVariants.{True}
use Rattle.pddl_syntax.specs.declared.types.Init.{Init}
use Rattle.pddl_syntax.specs.declared.types.Init.TheVariants.{Holds, HoldsNot, Value}
use Rattle.pddl_syntax.specs.declared.types.Problem.{Problem}
use Rattle.pddl_syntax.specs.Conditions.{condition}
use Rattle.pddl_syntax.specs.Outcome.{Reading, Reads, made, both, own, refused, with_last, every}
use Rattle.pddl_syntax.specs.Shapes.{Check, passes, fault, unsupported, check_all, check_exact}
use Rattle.pddl_syntax.specs.Values.{atom, number, names}
use Rattle.pddl_syntax.specs.Words.{Name, spells, is_word}
use Rattle.pddl_parser.specs.declared.problem.ProblemKey.TheVariants as problem_keys
use Rattle.pddl_parser.specs.declared.problem.ProblemSection.TheVariants as problem

-- ---- entries of `:init`

-- a list stands among the members
unfoldable pub has_list : Members → Bool
has_list NoMore = false
has_list (WordThen at word more) = has_list more
has_list (ListThen at inside more) = true

-- (NAME NAME*)
abbrev pub ground_atom : Members → Reading Atom
ground_atom m = atom (expected.Name places.InitEntry) places.InitEntry (position m) (inside m)

-- an atom; (not ATOM); (= FUNCTION NUMBER); a timed literal, (at NUMBER LITERAL), isn't supported
unfoldable pub init : Members → Reading Init
init m =
    if is_word (codes "at") (inside m) && has_list (inside m) then refused (unsupported (position m))
    else if is_word (codes "not") (inside m) then
    own (check_exact places.InitEntry (position m) (expected.List places.InitEntry ∷ []) (rest (inside m)))
    (made (λ atom. HoldsNot atom (position m)) (ground_atom (rest (inside m))))
    else if is_word (codes "=") (inside m) then
    own (check_exact places.InitEntry (position m) (expected.List places.InitEntry ∷ expected.Number places.InitEntry ∷ []) (rest (inside m)))
    (both (λ term value. Value term value (position m)) (ground_atom (rest (inside m))) (number (rest (rest (inside m)))))
    else made Holds (ground_atom m)

-- ---- problems

abbrev pub problem_key : List ℕ → Option ProblemKey
problem_key bytes =
    if spells (codes ":requirements") bytes then Some problem_keys.Requirements
    else if spells (codes ":domain") bytes then Some problem_keys.Domain
    else if spells (codes ":objects") bytes then Some problem_keys.Objects
    else if spells (codes ":init") bytes then Some problem_keys.Init
    else if spells (codes ":goal") bytes then Some problem_keys.Goal
    else if spells (codes ":metric") bytes then Some problem_keys.Metric
    else None

-- minimize (total-cost)
abbrev pub is_total_cost : Members → Bool
is_total_cost m =
    is_word (codes "minimize") m && is_word (codes "total-cost") (inside (rest m)) && is_empty (rest (inside (rest m))) && is_empty (rest (rest m))

-- the members after the keyword of a section at this position
unfoldable pub problem_section_of : ProblemKey → At → Members → Reading ProblemSection
problem_section_of problem_keys.Requirements at m = own (check_all expected.Requirement m) (Reads problem.Requirements)
problem_section_of problem_keys.Domain at m = own (check_exact places.Section at (expected.Name places.Section ∷ []) m) (Reads problem.Domain)
problem_section_of problem_keys.Objects at m = made problem.Objects (names at m)
problem_section_of problem_keys.Init at m = made problem.Init (own (check_all (expected.List places.InitEntry) m) (every init m))
problem_section_of problem_keys.Goal at m = own (check_exact places.Section at (expected.List places.Condition ∷ []) m) (made problem.Goal (condition m))
problem_section_of problem_keys.Metric at m = if is_total_cost m then Reads problem.Metric else refused (unsupported at)

-- a section of a problem, after sections with these keywords
unfoldable pub problem_section : List Name → Members → Reading ProblemSection
problem_section earlier m = section problem_key problem_section_of earlier m

-- a section with this keyword stands among the members
unfoldable pub has_section : List ℕ → Members → Bool
has_section keyword NoMore = false
has_section keyword (WordThen at word more) = has_section keyword more
has_section keyword (ListThen at inside more) = spells keyword (word inside) || has_section keyword more

-- a fault at this position, unless the section is there
abbrev pub missing_unless : Bool → At → List Fault
missing_unless there at = if there then [] else fault MissingSection at ∷ []

-- what a problem at this position lacks, by the members that are its sections
abbrev pub missing_sections : At → Members → List Fault
missing_sections at m =
    missing_unless (has_section (codes ":domain") m) at ++ (missing_unless (has_section (codes ":init") m) at ++ missing_unless (has_section (codes ":goal") m) at)

abbrev pub with_problem_section : Problem → ProblemSection → Problem
with_problem_section so_far problem.Requirements = so_far
with_problem_section so_far problem.Domain = so_far
with_problem_section so_far (problem.Objects objects) = record so_far { objects = objects }
with_problem_section so_far (problem.Init init) = record so_far { init = init }
with_problem_section so_far (problem.Goal goal) = record so_far { goal = goal }
with_problem_section so_far problem.Metric = record so_far { metric = true }

-- the first of these faults, if there is one
abbrev pub check_list : List Fault → Check
check_list [] = passes
check_list (fault ∷ more) = Err fault

-- what no section says
abbrev pub no_problem : At → Problem
no_problem at = record { objects = []; init = []; goal = True at; metric = false }

-- (define (problem NAME) SECTION*)
unfoldable pub problem_reading : Members → Reading Problem
problem_reading m =
    own (check_file (position m) (inside m))
    (with_last (missing_sections (position m) (rest (rest (inside m))))
    (both (λ name found. fold with_problem_section (no_problem (position m)) found) (title (codes "problem") (rest (inside m)))
    (sections problem_section [] (rest (rest (inside m))))))
