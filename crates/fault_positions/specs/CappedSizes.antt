-- Sizes of conditions whose parts are counted no further than the first one that is too many.
use Rattle.std.specs.Prelude.{ℕ, ◌+◌, ◌*◌, min, nat_le, Option, Some, None, if◌then◌else◌}
use Rattle.pddl_lexer.specs.declared.position.At.{At}
use Rattle.fault_positions.specs.declared.sizes.CappedSize.{CappedSize}
use Rattle.fault_positions.specs.Positions.{earlier, earliest}
use Rattle.fault_positions.specs.Sizes.{Size, most_parts, too_large}

-- so many parts are counted
abbrev pub cap : ℕ
cap = most_parts + 1

abbrev pub capped : Size → CappedSize
capped size = record { parts = min size.parts cap; first_too_large = earliest (too_large size.replaced) }

abbrev pub of_parts : ℕ → CappedSize
of_parts parts = record { parts = parts; first_too_large = None }

abbrev pub paired_with : CappedSize → CappedSize → CappedSize
paired_with size other = record { parts = min (size.parts * other.parts) cap; first_too_large = earlier size.first_too_large other.first_too_large }

abbrev pub listed_with : CappedSize → CappedSize → CappedSize
listed_with size other = record { parts = min (size.parts + other.parts) cap; first_too_large = earlier size.first_too_large other.first_too_large }

-- the first position that is too large, where a condition of this size is at this position
abbrev pub first_at : CappedSize → At → Option At
first_at size at = if nat_le size.parts most_parts then size.first_too_large else earlier (Some at) size.first_too_large

abbrev pub replaced_at : CappedSize → At → CappedSize
replaced_at size at = record { parts = 1; first_too_large = first_at size at }
