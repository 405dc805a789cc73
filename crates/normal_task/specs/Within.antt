-- Places and literals that name variables below a number.
use Rattle.std.specs.Prelude.{ℕ, Bool, true, ◌&&◌, nat_lt}
use Rattle.std.specs.List.{list_all}
use Rattle.normal_task.specs.declared.task.Literal.{Literal}
use Rattle.normal_task.specs.declared.task.Literal.TheVariants.{Holds, Equal}
use Rattle.normal_task.specs.declared.task.Place.{Place}
use Rattle.normal_task.specs.declared.task.Place.TheVariants.{Variable, Object}

abbrev pub place_within : ℕ → Place → Bool
place_within bound (Variable number) = nat_lt number bound
place_within bound (Object object) = true

abbrev pub literal_within : ℕ → Literal → Bool
literal_within bound (Holds positive predicate places) = list_all (place_within bound) places
literal_within bound (Equal positive left right) = place_within bound left && place_within bound right
