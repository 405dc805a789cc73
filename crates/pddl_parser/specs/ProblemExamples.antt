-- The shape faults of small problem files, worked by hand.
use Rattle.std.specs.Prelude.{◌≡◌, List, ℕ, [], ◌∷◌, codes}
use Rattle.pddl_lexer.specs.declared.fault.Kind.TheVariants.{Shape, BadName, MissingSection}
use Rattle.pddl_lexer.specs.declared.fault.ShapePlace.TheVariants.{NameList, Condition, Term, InitEntry}
use Rattle.pddl_lexer.specs.Examples.{then_line, fault}
use Rattle.pddl_lexer.specs.Nested.{tree}
use Rattle.pddl_syntax.specs.declared.types.Problem.{Problem}
use Rattle.pddl_syntax.specs.Outcome.{Reading, Faults}
use Rattle.pddl_parser.specs.ProblemReading.{problem_reading}

-- what a text without tree faults is read as
abbrev pub reading_of : List ℕ → Reading Problem
reading_of text = problem_reading (tree text)

-- objects, and a goal in which lists stand at several depths
abbrev pub nested : List ℕ
nested = then_line (then_line (codes "(define (problem p)") (codes "(:objects (a))")) (codes "(:goal (and (p (q)) (or (not) (r :s)) (or t (not)))))")

pub record FaultExamples : Type 0 where
  -- each list's faults from left to right, and the missing section last
  pub in_order :
      reading_of (codes "(define (problem :p) (:goal p) (:init p))")
      ≡ Faults (fault BadName 1 18) (fault (Shape Condition) 1 29 ∷ fault (Shape InitEntry) 1 39 ∷ fault MissingSection 1 1 ∷ [])
  -- the members of a list are looked into, but for the last `or`, which is at fault itself; two sections are missing
  pub inside :
      reading_of nested
      ≡ Faults (fault (Shape NameList) 2 11)
      (fault (Shape Term) 3 16 ∷ fault (Shape Condition) 3 25 ∷ fault BadName 3 34 ∷ fault (Shape Condition) 3 43 ∷ fault MissingSection 1 1 ∷ fault MissingSection 1 1 ∷ [])
  pub nothing : reading_of (codes "(define (problem p))") ≡ Faults (fault MissingSection 1 1) (fault MissingSection 1 1 ∷ fault MissingSection 1 1 ∷ [])
