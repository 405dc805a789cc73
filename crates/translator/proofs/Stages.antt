-- How stages on values follow one another: the run ends as the first of them that gives nothing.
use Rattle.std.proofs.Common.{◌≡◌, ◌≢◌, ℕ, List, [], ◌∷◌, Result, Ok, Err, refl, sym, ap, ap₂, ◌∙◌, subst}
use Rattle.std.specs.Prelude.{Contains, IfErr, codes}
use Rattle.std.specs.Result.{IsErrAnd}
use Rattle.pddl_lexer.specs.Members.{Members}
use Rattle.pddl_lexer.specs.Nested.{tree}
use Rattle.lists.specs.Stops.{IfFault, IsFirst}
use Rattle.pddl_lexer.specs.Faults.{tree_faults}
use Rattle.lists.specs.declared.stop.Stop.{Stop}
use Rattle.lists.specs.declared.stop.Stop.TheVariants as stops
use Rattle.pddl_lexer.specs.declared.fault.Fault.{Fault}
use Rattle.pddl_syntax.specs.declared.types.Domain.{Domain}
use Rattle.pddl_syntax.specs.declared.types.Problem.{Problem}
use Rattle.pddl_syntax.specs.Outcome.{Reading, Reads, Faults, first}
use Rattle.pddl_parser.specs.DomainReading.{domain_reading}
use Rattle.pddl_parser.specs.ProblemReading.{problem_reading}
use Rattle.pddl_syntax.specs.Spelled.{IsWellSpelled, IsWellSpelledProblem}
use Rattle.type_checker.specs.Checked.{FilePair, IsChecked, ChecksTo}
use Rattle.type_checker.specs.Faults.{SidedFault, check_faults}
use Rattle.type_checker.specs.declared.side.Side.TheVariants as sides
use Rattle.messages.specs.declared.outcome.Message.{Message}
use Rattle.messages.specs.declared.outcome.Message.TheVariants as messages
use Rattle.messages.specs.declared.outcome.End.{End}
use Rattle.messages.specs.declared.outcome.End.TheVariants as ends
use Rattle.translator.specs.Ending.{Ending, Gives, Absent, Refused, ◌>>=◌, unless}
use Rattle.run_task.specs.RunTask.{Start, FromPair}
use Rattle.translator.specs.Run.{Text, text, made_domain, made_problem, tree_of, said, unless_checked, from_pair, of_texts}
use Rattle.translator.specs.Stages.{StopsWhere}

-- ---- one stage

pub given_unless : {A : Type 0} (name : List ℕ) (faults : List Fault) (value given : A) → faults ≡ [] → value ≡ given → unless name faults value ≡ Gives given
given_unless name faults value given none is = ap (λ (fs : List Fault). unless name fs value) none ∙ ap Gives is

pub refused_unless : {A : Type 0} (name : List ℕ) (faults : List Fault) (value : A) (end : Stop Fault) (fault : Fault) → end ≡ stops.Fault fault → IfFault {A = Unit {0}} (Err end) (IsFirst faults) → unless name faults value ≡ Refused name (messages.Fault fault)
refused_unless name faults value end fault is given =
    let first = subst (λ (e : Stop Fault). IfFault {A = Unit {0}} (Err e) (IsFirst faults)) is given in
    ap (λ (fs : List Fault). unless name fs value) first.1

pub said_given : {A : Type 0} (name : List ℕ) (reading : Reading A) (value : A) → first reading ≡ Ok value → said name reading ≡ Gives value
said_given name (Reads found) value e = let same : found ≡ value = cc (e) in ap Gives same
said_given name (Faults fault more) value e = absurd (let no : Err (stops.Fault fault) ≡ Ok value = e in cc (no))

pub said_refused : {A : Type 0} (name : List ℕ) (reading : Reading A) (end : Stop Fault) (fault : Fault) → end ≡ stops.Fault fault → (end ≢ stops.NoMemory → first reading ≡ Err end) → said name reading ≡ Refused name (messages.Fault fault)
said_refused name (Reads value) end fault is given = absurd (let e = given (λ memory. cc (is, memory)) in cc (e))
said_refused name (Faults found more) end fault is given =
    let e = given (λ memory. cc (is, memory)) in
    let same : found ≡ fault = cc (e, is) in
    ap (λ (f : Fault). Refused name (messages.Fault f)) same

-- a pair that the check answers is checked
pub checked_pair : (d : Domain) (p : Problem) (pair : FilePair) → ChecksTo d p (Ok pair) → IsWellSpelled d → IsWellSpelledProblem p → IsChecked pair
checked_pair d p pair checks spelled spelled' = subst IsChecked (sym checks.0) (record { faultless = checks.1; spelled = spelled; spelled_problem = spelled' })

-- ---- what the stages gave, where there is something to go on with

pub stage_gives : {A B : Type 0} (e : Ending A) (next : A → Ending B) (value : B) → (e >>= next) ≡ Gives value → (given : A) × (e ≡ Gives given) × (next given ≡ Gives value)
stage_gives (Gives given) next value is = (given, refl, is)
stage_gives (Absent name) next value is = absurd (cc (is))
stage_gives (Refused name message) next value is = absurd (cc (is))

said_reads : {A : Type 0} (name : List ℕ) (reading : Reading A) (value : A) → said name reading ≡ Gives value → reading ≡ Reads value
said_reads name (Reads found) value is = let same : found ≡ value = cc (is) in ap Reads same
said_reads name (Faults fault more) value is = absurd (cc (is))

unless_checked_gives : (domain problem : Text) (faults : List SidedFault) (pair given : FilePair) → unless_checked domain problem faults pair ≡ Gives given → (faults ≡ []) × (pair ≡ given)
unless_checked_gives domain problem [] pair given is = (refl, cc (is))
unless_checked_gives domain problem ((side, fault) ∷ more) pair given is = absurd (cc (is))

-- ---- one after another

-- what the one stage comes to the other does too, but where it gives something
pub record Leads {A B : Type 0} (Comes : Ending A → Type 0) (Comes' : Ending B → Type 0) : Type 0 where
  pub absent : (name : List ℕ) → Comes (Absent name) → Comes' (Absent name)
  pub refused : (name : List ℕ) (message : Message) → Comes (Refused name message) → Comes' (Refused name message)

module _ {A B : Type 0} (whole : Ending B) (e : Ending A) (next : A → Ending B) (is : whole ≡ (e >>= next)) where
  pub first_leads : Leads (λ (x : Ending A). e ≡ x) (λ (x : Ending B). whole ≡ x)
  first_leads =
      record {
        absent = λ name comes. is ∙ ap (λ (s : Ending A). s >>= next) comes;
        refused = λ name message comes. is ∙ ap (λ (s : Ending A). s >>= next) comes;
      }

  pub goes_on : (value : A) → e ≡ Gives value → whole ≡ next value
  goes_on value gives = is ∙ ap (λ (s : Ending A). s >>= next) gives

  pub first_stops : (end : End) → StopsWhere e end → StopsWhere whole end
  first_stops ends.NoMemory stops = tt
  first_stops (ends.Refused name message) stops = first_leads.refused name.now message stops
  first_stops ends.Usage stops = absurd stops
  first_stops (ends.CannotRead name) stops = absurd stops
  first_stops (ends.CannotWrite name) stops = absurd stops

-- an error that was made of want of memory
pub starved : {A B : Type 0} (e : Ending B) (result : Result A End) → IsErrAnd result (λ end. end ≡ ends.NoMemory) → IfErr result (StopsWhere e)
starved e (Ok value) is = tt
starved e (Err end) is = subst (λ (x : End). StopsWhere e x) (sym is) tt

-- ---- two texts

module _ (domain problem : Text) where
  abbrev Checks : Domain → Problem → Ending FilePair
  Checks d p = unless_checked domain problem (check_faults d p) (record { domain = d; problem = p })

  abbrev AfterBoth : Domain → Problem → Ending Start
  AfterBoth d p = Checks d p >>= from_pair

  abbrev AfterDomain : Members → Domain → Ending Start
  AfterDomain u d = said problem.name (problem_reading u) >>= AfterBoth d

  abbrev AfterTrees : Members → Members → Ending Start
  AfterTrees t u = said domain.name (domain_reading t) >>= AfterDomain u

  abbrev AfterTree : Members → Ending Start
  AfterTree t = tree_of problem >>= AfterTrees t

  begins : of_texts domain problem ≡ (tree_of domain >>= AfterTree)
  unfolding of_texts
  begins = refl

  -- the pair that they come to has no check fault, and its names and numbers are well spelled
  module _ (spelled : (tree : Members) (domain : Domain) → domain_reading tree ≡ Reads domain → IsWellSpelled domain)
      (spelled_problem : (tree : Members) (problem : Problem) → problem_reading tree ≡ Reads problem → IsWellSpelledProblem problem) where
    pub gives_checked : (start : Start) → of_texts domain problem ≡ Gives start → (pair : FilePair) × IsChecked pair × (start ≡ FromPair pair)
    gives_checked start is =
        let t = stage_gives (tree_of domain) AfterTree start (sym begins ∙ is) in
        let u = stage_gives (tree_of problem) (AfterTrees t.0) start t.2 in
        let d = stage_gives (said domain.name (domain_reading t.0)) (AfterDomain u.0) start u.2 in
        let p = stage_gives (said problem.name (problem_reading u.0)) (AfterBoth d.0) start d.2 in
        let checked = stage_gives (Checks d.0 p.0) from_pair start p.2 in
        let faultless = unless_checked_gives domain problem (check_faults d.0 p.0) _ checked.0 checked.1 in
        let pair_spelled = spelled t.0 d.0 (said_reads domain.name (domain_reading t.0) d.0 d.1) in
        let problem_spelled = spelled_problem u.0 p.0 (said_reads problem.name (problem_reading u.0) p.0 p.1) in
        (checked.0, subst IsChecked faultless.1 (record { faultless = faultless.0; spelled = pair_spelled; spelled_problem = problem_spelled }), cc (checked.2))

  pub stops_at_domain : (end : End) → StopsWhere (tree_of domain) end → StopsWhere (of_texts domain problem) end
  stops_at_domain = first_stops (of_texts domain problem) (tree_of domain) AfterTree begins

  module _ (t : Members) (is : tree_of domain ≡ Gives t) where
    second : of_texts domain problem ≡ (tree_of problem >>= AfterTrees t)
    second = goes_on (of_texts domain problem) (tree_of domain) AfterTree begins t is

    pub stops_at_problem : (end : End) → StopsWhere (tree_of problem) end → StopsWhere (of_texts domain problem) end
    stops_at_problem = first_stops (of_texts domain problem) (tree_of problem) (AfterTrees t) second

    module _ (u : Members) (is' : tree_of problem ≡ Gives u) where
      third : of_texts domain problem ≡ (said domain.name (domain_reading t) >>= AfterDomain u)
      third = goes_on (of_texts domain problem) (tree_of problem) (AfterTrees t) second u is'

      pub stops_in_domain : (end : End) → StopsWhere (said domain.name (domain_reading t)) end → StopsWhere (of_texts domain problem) end
      stops_in_domain = first_stops (of_texts domain problem) (said domain.name (domain_reading t)) (AfterDomain u) third

      module _ (d : Domain) (reads : said domain.name (domain_reading t) ≡ Gives d) where
        fourth : of_texts domain problem ≡ (said problem.name (problem_reading u) >>= AfterBoth d)
        fourth = goes_on (of_texts domain problem) (said domain.name (domain_reading t)) (AfterDomain u) third d reads

        pub stops_in_problem : (end : End) → StopsWhere (said problem.name (problem_reading u)) end → StopsWhere (of_texts domain problem) end
        stops_in_problem = first_stops (of_texts domain problem) (said problem.name (problem_reading u)) (AfterBoth d) fourth

        -- both texts are read, and their check follows
        fifth : (p : Problem) → said problem.name (problem_reading u) ≡ Gives p → of_texts domain problem ≡ AfterBoth d p
        fifth p reads' = goes_on (of_texts domain problem) (said problem.name (problem_reading u)) (AfterBoth d) fourth p reads'

        -- they come to the pair that is checked
        pub comes_to_pair : (p : Problem) → said problem.name (problem_reading u) ≡ Gives p → (pair : FilePair) → Checks d p ≡ Gives pair → of_texts domain problem ≡ Gives (FromPair pair)
        comes_to_pair p reads' pair checks = goes_on (of_texts domain problem) (Checks d p) from_pair (fifth p reads') pair checks

        pub stops_in_check : (p : Problem) → said problem.name (problem_reading u) ≡ Gives p → (end : End) → StopsWhere (Checks d p) end → StopsWhere (of_texts domain problem) end
        stops_in_check p reads' = first_stops (of_texts domain problem) (Checks d p) from_pair (fifth p reads')

-- the made texts, by their bytes
pub made_texts_are : (domain problem : List ℕ) (balls : ℕ) → domain ≡ made_domain.bytes → problem ≡ (made_problem balls).bytes
    → of_texts (text (codes "domain") domain) (text (codes "problem") problem) ≡ of_texts made_domain (made_problem balls)
made_texts_are domain problem balls is is' = ap₂ (λ (d : List ℕ) (p : List ℕ). of_texts (text (codes "domain") d) (text (codes "problem") p)) is is'

-- ---- of which file it is told

-- an ending is told of one of these files
module _ (names : List (List ℕ)) where
  abbrev pub IsToldOf : {A : Type 0} → Ending A → Type 0
  IsToldOf (Gives value) = Unit {0}
  IsToldOf (Absent name) = Contains names name
  IsToldOf (Refused name message) = Contains names name

  told_unless : {A : Type 0} (name : List ℕ) (faults : List Fault) (value : A) → Contains names name → IsToldOf (unless name faults value)
  told_unless name [] value in' = tt
  told_unless name (fault ∷ more) value in' = in'

  told_said : {A : Type 0} (name : List ℕ) (reading : Reading A) → Contains names name → IsToldOf (said name reading)
  told_said name (Reads value) in' = tt
  told_said name (Faults fault more) in' = in'

  told_checked : (domain problem : Text) (faults : List SidedFault) (pair : FilePair) → Contains names domain.name → Contains names problem.name → IsToldOf (unless_checked domain problem faults pair)
  told_checked domain problem [] pair in' in'' = tt
  told_checked domain problem ((sides.Domain, fault) ∷ more) pair in' in'' = in'
  told_checked domain problem ((sides.Problem, fault) ∷ more) pair in' in'' = in''

  told_after : {A B : Type 0} (e : Ending A) (next : A → Ending B) → IsToldOf e → ((value : A) → IsToldOf (next value)) → IsToldOf (e >>= next)
  told_after (Gives value) next here later = later value
  told_after (Absent name) next here later = here
  told_after (Refused name message) next here later = here

  pub texts_told : (domain problem : Text) → Contains names domain.name → Contains names problem.name → IsToldOf (of_texts domain problem)
  unfolding of_texts
  texts_told domain problem in' in'' =
      told_after (tree_of domain) (AfterTree domain problem) (told_unless domain.name (tree_faults domain.bytes) (tree domain.bytes) in') (λ t.
      told_after (tree_of problem) (AfterTrees domain problem t) (told_unless problem.name (tree_faults problem.bytes) (tree problem.bytes) in'') (λ u.
      told_after (said domain.name (domain_reading t)) (AfterDomain domain problem u) (told_said domain.name (domain_reading t) in') (λ d.
      told_after (said problem.name (problem_reading u)) (AfterBoth domain problem d) (told_said problem.name (problem_reading u) in'') (λ p.
      told_after (Checks domain problem d p) from_pair (told_checked domain problem (check_faults d p) (record { domain = d; problem = p }) in' in'') (λ pair. tt)))))

  pub refused_of : {A : Type 0} (e : Ending A) (name : List ℕ) (message : Message) → IsToldOf e → e ≡ Refused name message → Contains names name
  refused_of e name message told is = subst IsToldOf is told
