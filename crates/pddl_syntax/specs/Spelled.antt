-- What is told of the names and the numbers of a domain and a problem.
use Rattle.std.specs.Prelude.{ℕ, ◌≤◌, Bool, ◌&&◌, List, All, IsTrue}
use Rattle.pddl_syntax.specs.declared.types.Action.{Action}
use Rattle.pddl_syntax.specs.declared.types.Cost.{Cost}
use Rattle.pddl_syntax.specs.declared.types.Cost.TheVariants.{Number, Term}
use Rattle.pddl_syntax.specs.declared.types.Domain.{Domain}
use Rattle.pddl_syntax.specs.declared.types.Init.{Init}
use Rattle.pddl_syntax.specs.declared.types.Init.TheVariants.{Holds, HoldsNot, Value}
use Rattle.pddl_syntax.specs.declared.types.Named.{Named}
use Rattle.pddl_syntax.specs.declared.types.Problem.{Problem}
use Rattle.pddl_syntax.specs.declared.types.Typed.{Typed}
use Rattle.pddl_syntax.specs.Step.{increases}
use Rattle.pddl_syntax.specs.Words.{is_same, lowered, is_name, largest}

-- ---- names

-- a name as it is kept: lowered
abbrev pub is_spelled : List ℕ → Bool
is_spelled bytes = is_name bytes && is_same (lowered bytes) bytes

abbrev pub IsSpelled : Named → Type 0
IsSpelled named = IsTrue (is_spelled named.name)

-- a type and each of its supertypes
abbrev pub IsSpelledType : Typed → Type 0
IsSpelledType type = IsSpelled type.name × All IsSpelled type.types

-- ---- numbers

-- a number that isn't too large, or a function's value
abbrev pub IsSmall : Cost → Type 0
IsSmall (Number value) = value ≤ largest
IsSmall (Term term) = Unit {0}

abbrev pub HasSmallCosts : Action → Type 0
HasSmallCosts action = All IsSmall (increases action.effect)

-- the entry gives no value that is too large
abbrev pub HasSmallValue : Init → Type 0
HasSmallValue (Holds atom) = Unit {0}
HasSmallValue (HoldsNot atom at) = Unit {0}
HasSmallValue (Value term value at) = value ≤ largest

-- ---- files

-- whatever the domain declares has a name, and no cost is too large
pub record IsWellSpelled (domain : Domain) : Type 0 where
  pub types : All IsSpelledType domain.types
  pub constants : All (λ constant. IsSpelled constant.name) domain.constants
  pub predicates : All (λ head. IsSpelled head.name) domain.predicates
  pub functions : All (λ head. IsSpelled head.name) domain.functions
  pub actions : All (λ action. IsSpelled action.name) domain.actions
  pub costs : All HasSmallCosts domain.actions

-- each object of the problem has a name, and no value in `:init` is too large
pub record IsWellSpelledProblem (problem : Problem) : Type 0 where
  pub objects : All (λ object. IsSpelled object.name) problem.objects
  pub values : All HasSmallValue problem.init
