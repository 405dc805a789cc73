-- A problem that is read is well spelled.
use Rattle.std.proofs.Common.{◌≡◌, Bool, true, false, ◌&&◌, List, [], ◌∷◌, subst}
use Rattle.std.specs.Prelude.{All, IfOk, codes, if◌then◌else◌}
use Rattle.std.proofs.lemmas.List.Elements.{All-nil}
use Rattle.pddl_lexer.specs.declared.position.At.{At}
use Rattle.pddl_lexer.specs.Members.{Members, position, inside, rest}
use Rattle.pddl_lexer.specs.declared.fault.ShapePlace.TheVariants as places
use Rattle.pddl_syntax.specs.declared.expected.Expected.TheVariants as expected
use Rattle.pddl_syntax.specs.declared.types.Init.{Init}
use Rattle.pddl_syntax.specs.declared.types.Init.TheVariants.{Holds, HoldsNot, Value}
use Rattle.pddl_syntax.specs.declared.types.Problem.{Problem}
use Rattle.pddl_syntax.specs.declared.types.Typed.{Typed}
use Rattle.pddl_syntax.specs.Conditions.{condition}
use Rattle.pddl_syntax.specs.Outcome.{Outcome, Reads, made, both, own, refused, every, first, Gives}
use Rattle.pddl_syntax.specs.Shapes.{unsupported, check_all, check_exact}
use Rattle.pddl_syntax.specs.Spelled.{IsSpelled, HasSmallValue, IsWellSpelledProblem}
use Rattle.pddl_syntax.specs.Values.{number, names}
use Rattle.pddl_syntax.specs.Words.{Name, is_word}
use Rattle.pddl_syntax.proofs.Given.{own_reads, made_reads, both_reads, with_last_reads, refused_never, every_has, fold_has, given_has}
use Rattle.pddl_syntax.proofs.Numbers.{number_small}
use Rattle.pddl_syntax.proofs.Sections.{section_has, sections_have}
use Rattle.pddl_syntax.proofs.Spelling.{names_spelled, without_types}
use Rattle.pddl_parser.specs.declared.problem.ProblemKey.TheVariants as problem_keys
use Rattle.pddl_parser.specs.declared.problem.ProblemSection.TheVariants as problem
use Rattle.pddl_parser.specs.ProblemReading.{has_list, ground_atom, init, ProblemKey, ProblemSection, check_file, title, sections, problem_key, is_total_cost, problem_section_of, problem_section, missing_sections, with_problem_section, no_problem, problem_reading}

-- ---- entries of `:init`

entry_small : (timed negated valued : Bool) (m : Members) (entry : Init) →
    (if timed then refused (unsupported (position m))
    else if negated then
    own (check_exact places.InitEntry (position m) (expected.List places.InitEntry ∷ []) (rest (inside m)))
    (made (λ atom. HoldsNot atom (position m)) (ground_atom (rest (inside m))))
    else if valued then
    own (check_exact places.InitEntry (position m) (expected.List places.InitEntry ∷ expected.Number places.InitEntry ∷ []) (rest (inside m)))
    (both (λ term value. Value term value (position m)) (ground_atom (rest (inside m))) (number (rest (rest (inside m)))))
    else made Holds (ground_atom m)) ≡ Reads entry → HasSmallValue entry
entry_small true negated valued m entry e = absurd (refused_never (unsupported (position m)) entry e)
entry_small false true valued m entry e =
    let read = own_reads (check_exact places.InitEntry (position m) (expected.List places.InitEntry ∷ []) (rest (inside m))) _ entry e in
    let negated = made_reads (λ atom. HoldsNot atom (position m)) (ground_atom (rest (inside m))) entry read.1 in
    subst HasSmallValue negated.1.1 tt
entry_small false false true m entry e =
    let read = own_reads (check_exact places.InitEntry (position m) (expected.List places.InitEntry ∷ expected.Number places.InitEntry ∷ []) (rest (inside m))) _ entry e in
    let parts = both_reads (λ term value. Value term value (position m)) (ground_atom (rest (inside m))) (number (rest (rest (inside m)))) entry read.1 in
    subst HasSmallValue parts.1.1.1.1 (number_small (rest (rest (inside m))) parts.1.0 parts.1.1.1.0)
entry_small false false false m entry e =
    let read = made_reads Holds (ground_atom m) entry e in
    subst HasSmallValue read.1.1 tt

pub init_small : (m : Members) (entry : Init) → init m ≡ Reads entry → HasSmallValue entry
unfolding init
init_small m entry e =
    entry_small (is_word (codes "at") (inside m) && has_list (inside m)) (is_word (codes "not") (inside m)) (is_word (codes "=") (inside m)) m entry e

-- ---- problems

abbrev IsSpelledProblemSection : ProblemSection → Type 0
IsSpelledProblemSection (problem.Objects objects) = All (λ object. IsSpelled object.name) objects
IsSpelledProblemSection (problem.Init init) = All HasSmallValue init
IsSpelledProblemSection other = Unit {0}

problem_section_of_spelled : (key : ProblemKey) (at : At) (m : Members) (s : ProblemSection) → problem_section_of key at m ≡ Reads s → IsSpelledProblemSection s
unfolding problem_section_of
problem_section_of_spelled problem_keys.Requirements at m s e =
    let read = own_reads (check_all expected.Requirement m) (Reads problem.Requirements) s e in
    let same : problem.Requirements ≡ s = cc (read.1) in
    subst IsSpelledProblemSection same tt
problem_section_of_spelled problem_keys.Domain at m s e =
    let read = own_reads (check_exact places.Section at (expected.Name places.Section ∷ []) m) (Reads problem.Domain) s e in
    let same : problem.Domain ≡ s = cc (read.1) in
    subst IsSpelledProblemSection same tt
problem_section_of_spelled problem_keys.Objects at m s e =
    let read = made_reads problem.Objects (names at m) s e in
    subst IsSpelledProblemSection read.1.1 (without_types read.0 (names_spelled at m read.0 read.1.0))
problem_section_of_spelled problem_keys.Init at m s e =
    let read = made_reads problem.Init _ s e in
    let inside = own_reads (check_all (expected.List places.InitEntry) m) (every init m) read.0 read.1.0 in
    subst IsSpelledProblemSection read.1.1 (every_has HasSmallValue init init_small m read.0 inside.1)
problem_section_of_spelled problem_keys.Goal at m s e =
    let read = own_reads (check_exact places.Section at (expected.List places.Condition ∷ []) m) (made problem.Goal (condition m)) s e in
    let goal = made_reads problem.Goal (condition m) s read.1 in
    subst IsSpelledProblemSection goal.1.1 tt
problem_section_of_spelled problem_keys.Metric at m s e = by (is_total_cost m) e
  where
    by : (total : Bool) → (if total then Reads problem.Metric else refused (unsupported at)) ≡ Reads s → IsSpelledProblemSection s
    by true found = let same : problem.Metric ≡ s = cc (found) in subst IsSpelledProblemSection same tt
    by false found = absurd (refused_never (unsupported at) s found)

with_problem_section_spelled : (so_far : Problem) (s : ProblemSection) → IsWellSpelledProblem so_far → IsSpelledProblemSection s → IsWellSpelledProblem (with_problem_section so_far s)
with_problem_section_spelled so_far problem.Requirements well here = well
with_problem_section_spelled so_far problem.Domain well here = well
with_problem_section_spelled so_far (problem.Objects objects) well here = record { objects = here; values = well.values }
with_problem_section_spelled so_far (problem.Init init) well here = record { objects = well.objects; values = here }
with_problem_section_spelled so_far (problem.Goal goal) well here = record { objects = well.objects; values = well.values }
with_problem_section_spelled so_far problem.Metric well here = record { objects = well.objects; values = well.values }

no_problem_spelled : (at : At) → IsWellSpelledProblem (no_problem at)
no_problem_spelled at = record { objects = All-nil (λ (o : Typed). IsSpelled o.name); values = All-nil HasSmallValue }

-- a problem that is read is well spelled
pub problem_spelled : (m : Members) (given : Problem) → problem_reading m ≡ Reads given → IsWellSpelledProblem given
unfolding problem_reading problem_section
problem_spelled m given e =
    let read = own_reads (check_file (position m) (inside m)) _ given e in
    let complete = with_last_reads (missing_sections (position m) (rest (rest (inside m)))) _ given read.1 in
    let parts = both_reads _ (title (codes "problem") (rest (inside m))) (sections problem_section [] (rest (rest (inside m)))) given complete in
    let each = section_has problem_key problem_section_of IsSpelledProblemSection problem_section_of_spelled in
    let spelled = sections_have IsSpelledProblemSection problem_section each [] (rest (rest (inside m))) parts.1.0 parts.1.1.1.0 in
    subst IsWellSpelledProblem parts.1.1.1.1 (fold_has IsWellSpelledProblem IsSpelledProblemSection with_problem_section with_problem_section_spelled (no_problem (position m)) parts.1.0 (no_problem_spelled (position m)) spelled)

-- the same of a function that gives the reading
pub given_problem : (given : Outcome Problem) (m : Members) → Gives given (first (problem_reading m)) → IfOk given IsWellSpelledProblem
given_problem given m gives = given_has IsWellSpelledProblem (problem_reading m) (problem_spelled m) given gives
