-- The check faults of a small pair of files, worked by hand.
use Rattle.std.specs.Prelude.{ℕ, false, List, [], ◌∷◌, codes}
use Rattle.pddl_lexer.specs.declared.fault.Kind.TheVariants.{UnknownType}
use Rattle.pddl_lexer.specs.Examples.{place, fault}
use Rattle.pddl_syntax.specs.declared.types.Condition.TheVariants.{True}
use Rattle.pddl_syntax.specs.declared.types.Domain.{Domain}
use Rattle.pddl_syntax.specs.declared.types.Named.{Named}
use Rattle.pddl_syntax.specs.declared.types.Problem.{Problem}
use Rattle.pddl_syntax.specs.declared.types.Typed.{Typed}
use Rattle.pddl_syntax.specs.Words.{Name}
use Rattle.type_checker.specs.declared.side.Side.TheVariants as sides
use Rattle.type_checker.specs.Faults.{SidedFault}

abbrev pub named : Name → (line column : ℕ) → Named
named name line column = record { name = name; at = place line column }

abbrev pub of_type : Named → Named → Typed
of_type name type = record { name = name; types = type ∷ [] }

-- (define (domain d)
-- (:predicates (p ?x - a) (p))
-- (:constants c - b))
abbrev pub stray : Domain
stray =
    record {
      types = [];
      constants = of_type (named (codes "c") 3 13) (named (codes "b") 3 17) ∷ [];
      predicates =
          record { name = named (codes "p") 2 15; variables = of_type (named (codes "?x") 2 17) (named (codes "a") 2 22) ∷ [] }
          ∷ record { name = named (codes "p") 2 26; variables = [] }
          ∷ [];
      functions = [];
      actions = [];
      axioms = [];
    }

-- (define (problem q) (:domain d)
-- (:objects c - e) (:init) (:goal ()))
abbrev pub astray : Problem
astray = record { objects = of_type (named (codes "c") 2 11) (named (codes "e") 2 15) ∷ []; init = []; goal = True (place 2 33); metric = false }

-- The types aren't declared. That the predicate and the constant are declared twice is of a later kind.
abbrev pub unknown_types : List SidedFault
unknown_types = (sides.Domain, fault UnknownType 2 22) ∷ (sides.Domain, fault UnknownType 3 17) ∷ (sides.Problem, fault UnknownType 2 15) ∷ []
