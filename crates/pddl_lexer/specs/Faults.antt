-- The tree faults of a text, in reading order.
use Rattle.std.specs.Prelude.{ℕ, ◌+◌, Bool, true, false, List, [], ◌∷◌, ◌++◌, Option, Some, None, nat_le, nat_lt, ◌&&◌, ◌||◌, not, if◌then◌else◌}
use Rattle.pddl_lexer.specs.declared.scanner.Mark.{Mark}
use Rattle.pddl_lexer.specs.declared.scanner.Mark.TheVariants.{Nothing, Bad, Opening, Closing, Beginning}
use Rattle.pddl_lexer.specs.declared.fault.Kind.{Kind}
use Rattle.pddl_lexer.specs.declared.fault.Kind.TheVariants.{BadByte, StrayClose, MissingClose, TooDeep, TextAfterEnd, NoList}
use Rattle.pddl_lexer.specs.declared.fault.Fault.{Fault}
use Rattle.pddl_lexer.specs.Text.{mark, position}
use Rattle.pddl_lexer.specs.declared.position.At.{At}

abbrev pub is_opening : Mark → Bool
is_opening Nothing = false
is_opening Bad = false
is_opening Opening = true
is_opening Closing = false
is_opening Beginning = false

abbrev pub is_closing : Mark → Bool
is_closing Nothing = false
is_closing Bad = false
is_closing Opening = false
is_closing Closing = true
is_closing Beginning = false

-- a parenthesis, or the first byte of a word
abbrev pub is_token : Mark → Bool
is_token Nothing = false
is_token Bad = false
is_token Opening = true
is_token Closing = true
is_token Beginning = true

-- how many ( stand in these bytes outside comments
unfoldable pub opened : List ℕ → ℕ
opened [] = 0
opened (b ∷ behind) = if is_opening (mark behind b) then opened behind + 1 else opened behind

-- how many ) stand in these bytes outside comments
unfoldable pub closed : List ℕ → ℕ
closed [] = 0
closed (b ∷ behind) = if is_closing (mark behind b) then closed behind + 1 else closed behind

-- some token stands in these bytes
unfoldable pub begun : List ℕ → Bool
begun [] = false
begun (b ∷ behind) = is_token (mark behind b) || begun behind

-- The depth after these bytes is the number of ( less the number of ): here it is 0, or below 0.
abbrev pub at_top : List ℕ → Bool
at_top behind = nat_le (opened behind) (closed behind)

-- the depth after these bytes is at least 100
abbrev pub at_limit : List ℕ → Bool
at_limit behind = nat_le (closed behind + 100) (opened behind)

-- the depth after these bytes is 0 or below 0, and some ( stands in them
abbrev pub after_end : List ℕ → Bool
after_end behind = at_top behind && nat_lt 0 (opened behind)

-- The fault of what stands after these bytes. One place has one fault at most: a word can't both be the first
-- token and stand after some (, and the depth can't be at the limit and at the top.
unfoldable pub kind_at : Mark → List ℕ → Option Kind
kind_at Nothing behind = None
kind_at Bad behind = Some BadByte
kind_at Opening behind = if at_limit behind then Some TooDeep else if after_end behind then Some TextAfterEnd else None
kind_at Closing behind = if at_top behind then Some StrayClose else None
kind_at Beginning behind = if not (begun behind) then Some NoList else if after_end behind then Some TextAfterEnd else None

-- the fault at the end of a text of these bytes
unfoldable pub kind_at_end : List ℕ → Option Kind
kind_at_end behind = if not (at_top behind) then Some MissingClose else if not (begun behind) then Some NoList else None

abbrev pub faults_at : Option Kind → At → List Fault
faults_at None at = []
faults_at (Some kind) at = record { kind = kind; at = at } ∷ []

-- the faults from a place on, by the bytes before it and the bytes after it
unfoldable pub faults_from : List ℕ → List ℕ → List Fault
faults_from behind [] = faults_at (kind_at_end behind) (position behind)
faults_from behind (b ∷ after) = faults_at (kind_at (mark behind b) behind) (position behind) ++ faults_from (b ∷ behind) after

-- The tree faults of a text, in order, each with its position: that of the place, or at the end the place after the last byte.
abbrev pub tree_faults : List ℕ → List Fault
tree_faults text = faults_from [] text
