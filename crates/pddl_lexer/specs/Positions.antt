-- The order of the positions in a text.
use Rattle.std.specs.Prelude.{Bool, nat_le, nat_lt, ◌==◌, ◌&&◌, ◌||◌, if◌then◌else◌}
use Rattle.pddl_lexer.specs.declared.position.At.{At}

-- the position of no byte
abbrev pub nowhere : At
nowhere = record { line = 0; column = 0 }

-- The first stands before the second or is the same: by their lines, and in one line by their columns.
abbrev pub is_not_after : At → At → Bool
is_not_after first second = nat_lt first.line second.line || first.line == second.line && nat_le first.column second.column

-- the earlier of the two
abbrev pub earlier_of : At → At → At
earlier_of first second = if is_not_after first second then first else second
