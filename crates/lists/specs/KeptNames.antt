-- How a name is kept. No public clause cites this module.
use Rattle.std.specs.Prelude.{ℕ, ◌≤◌, List, take}
use Rattle.lists.specs.declared.name.Kept.{Kept}
use Rattle.lists.specs.declared.name.Kept.TheVariants.{Short, Long}

-- the bytes
abbrev pub bytes_of : Kept → List ℕ
bytes_of (Short count bytes) = take count bytes
bytes_of (Long text) = text

-- no more bytes are counted than the value has room for
abbrev pub IsCounted : Kept → Type 0
IsCounted (Short count bytes) = count ≤ 14
IsCounted (Long text) = Unit {0}
