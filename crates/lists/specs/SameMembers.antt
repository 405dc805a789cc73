-- Lists with the same members.
use Rattle.std.specs.Prelude.{List, Contains}

-- each member of one list is a member of the other, in whatever order and however often
abbrev pub SameMembers : {X : Type 0} → List X → List X → Type 0
SameMembers {X} xs ys = (x : X) → (Contains xs x → Contains ys x) × (Contains ys x → Contains xs x)
