-- Places and literals with terms that are given for variables.
use Rattle.std.specs.Prelude.{ℕ, ◌-◌, nat_lt, List, map, get_or, if◌then◌else◌}
use Rattle.normal_task.specs.declared.task.Literal.{Literal}
use Rattle.normal_task.specs.declared.task.Literal.TheVariants.{Holds, Equal}
use Rattle.normal_task.specs.declared.task.Place.{Place}
use Rattle.normal_task.specs.declared.task.Place.TheVariants.{Variable, Object}

-- the place, with the given terms for the variables from the given number on
abbrev pub with_terms : ℕ → List Place → Place → Place
with_terms from given (Variable number) = if nat_lt number from then Variable number else get_or given (number - from) (Object 0)
with_terms from given (Object object) = Object object

abbrev pub literal_with : ℕ → List Place → Literal → Literal
literal_with from given (Holds positive predicate places) = Holds positive predicate (map (with_terms from given) places)
literal_with from given (Equal positive left right) = Equal positive (with_terms from given left) (with_terms from given right)
