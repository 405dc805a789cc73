-- The positions of faults, and which of them is the first.
use Rattle.std.specs.Prelude.{Bool, List, [], ◌∷◌, map, Option, Some, None, if◌then◌else◌}
use Rattle.std.specs.List.{filter, reduce}
use Rattle.pddl_lexer.specs.declared.position.At.{At}
use Rattle.pddl_lexer.specs.Positions.{is_not_after, earlier_of}
use Rattle.pddl_syntax.specs.declared.types.Named.{Named}

-- the positions of the names that pass the test
abbrev pub positions_where : (Named → Bool) → List Named → List At
positions_where test names = map (λ name. name.at) (filter test names)

-- ---- the order of the file

-- a position before the first one that isn't earlier
abbrev pub placed : At → List At → List At
placed at [] = at ∷ []
placed at (other ∷ more) = if is_not_after at other then at ∷ other ∷ more else other ∷ placed at more

-- the same positions, the earliest first
abbrev pub in_file_order : List At → List At
in_file_order [] = []
in_file_order (at ∷ more) = placed at (in_file_order more)

-- the earlier of two positions that may be missing
abbrev pub earlier : Option At → Option At → Option At
earlier None second = second
earlier (Some at) None = Some at
earlier (Some at) (Some other) = Some (earlier_of at other)

-- the earliest of the positions, if there is one
abbrev pub earliest : List At → Option At
earliest positions = reduce earlier_of positions
