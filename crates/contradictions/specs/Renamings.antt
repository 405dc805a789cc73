-- Copies of places and literals whose variables are renamed: words of contracts.
use Rattle.std.specs.Prelude.{ℕ, false, List, map}
use Rattle.normal_task.specs.declared.task.Literal.{Literal}
use Rattle.normal_task.specs.declared.task.Literal.TheVariants.{Holds}
use Rattle.normal_task.specs.declared.task.Place.{Place}
use Rattle.normal_task.specs.Parts.{moved, moved_place}
use Rattle.contradictions.specs.declared.renaming.Renaming.{Renaming}
use Rattle.contradictions.specs.declared.renaming.Renaming.TheVariants.{Kept, Apart, Given}
use Rattle.contradictions.specs.GivenTerms.{with_terms, literal_with}

abbrev pub renamed_place : Renaming → Place → Place
renamed_place Kept place = place
renamed_place (Apart from by') place = moved_place from by' place
renamed_place (Given from given) place = with_terms from given.now place

abbrev pub renamed_places : Renaming → List Place → List Place
renamed_places Kept places = places
renamed_places (Apart from by') places = map (moved_place from by') places
renamed_places (Given from given) places = map (with_terms from given.now) places

abbrev pub renamed_literal : Renaming → Literal → Literal
renamed_literal Kept literal = literal
renamed_literal (Apart from by') literal = moved from by' literal
renamed_literal (Given from given) literal = literal_with from given.now literal

abbrev pub renamed_literals : Renaming → List Literal → List Literal
renamed_literals Kept literals = literals
renamed_literals (Apart from by') literals = map (moved from by') literals
renamed_literals (Given from given) literals = map (literal_with from given.now) literals

-- the atom is false
abbrev pub denied_atom : ℕ → List Place → Literal
denied_atom predicate places = Holds false predicate places
