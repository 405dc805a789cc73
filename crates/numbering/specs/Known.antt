-- Types whose objects are known.
use Rattle.std.specs.Prelude.{◌≡◌, ℕ, List, map}
use Rattle.std.specs.List.{flat_map}
use Rattle.pddl_syntax.specs.declared.types.Domain.{Domain}
use Rattle.pddl_syntax.specs.declared.types.Named.{Named}
use Rattle.pddl_syntax.specs.declared.types.Problem.{Problem}
use Rattle.pddl_syntax.specs.Words.{Name}
use Rattle.numbering.specs.Below.{has, one_type, objects_of_type}

-- exactly the types that one of the lists has alone are known, each with its objects
pub record AreKnown (domain : Domain) (problem : Problem) (asked : List (List Named)) (types : List Name) (ranges : List (List ℕ)) : Type 0 where
  pub known : (type : Name) → has types type ≡ has (flat_map one_type asked) type
  pub ranged : ranges ≡ map (objects_of_type domain problem) types
