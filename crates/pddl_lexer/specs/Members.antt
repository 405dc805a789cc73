-- A nested list of words: the members of a list, from some member on.
use Rattle.std.specs.Prelude.{◌≡◌, ℕ, suc, ◌+◌, ◌<◌, Bool, true, false, List, [], ◌∷◌, ◌++◌, length, Option, Some, None, slice_index_or, if◌then◌else◌}
use Rattle.pddl_lexer.specs.declared.position.At.{At}
use Rattle.pddl_lexer.specs.Positions.{nowhere}
use Rattle.pddl_lexer.specs.Text.{lowered}

-- No member; or a word with the position of its first byte and its bytes, and the members after it; or a list with
-- the position of its ( and its own members, and the members after it.
pub data Members : Type 0 where
  NoMore : Members
  WordThen : (at : At) (word : List ℕ) (rest : Members) → Members
  ListThen : (at : At) (inside : Members) (rest : Members) → Members

abbrev pub is_empty : Members → Bool
is_empty NoMore = true
is_empty (WordThen at bytes more) = false
is_empty (ListThen at members more) = false

-- the first member is a list
abbrev pub is_list : Members → Bool
is_list NoMore = false
is_list (WordThen at bytes more) = false
is_list (ListThen at members more) = true

-- the position of the first member
abbrev pub position : Members → At
position NoMore = nowhere
position (WordThen at bytes more) = at
position (ListThen at members more) = at

-- the bytes of the first member; a list has none
abbrev pub word : Members → List ℕ
word NoMore = []
word (WordThen at bytes more) = bytes
word (ListThen at members more) = []

-- the members of the first member; a word has none
abbrev pub inside : Members → Members
inside NoMore = NoMore
inside (WordThen at bytes more) = NoMore
inside (ListThen at members more) = members

-- the members after the first member
abbrev pub rest : Members → Members
rest NoMore = NoMore
rest (WordThen at bytes more) = more
rest (ListThen at members more) = more

-- one list is all there is
abbrev pub IsOneList : Members → Type 0
IsOneList NoMore = ⊥
IsOneList (WordThen at bytes more) = ⊥
IsOneList (ListThen at members more) = more ≡ NoMore

-- the same members, with their words lowered
abbrev pub lowered_members : Members → Members
lowered_members NoMore = NoMore
lowered_members (WordThen at bytes more) = WordThen at (lowered bytes) (lowered_members more)
lowered_members (ListThen at members more) = ListThen at (lowered_members members) (lowered_members more)

-- how many words and lists stand here, at every depth
abbrev pub count : Members → ℕ
count NoMore = 0
count (WordThen at bytes more) = suc (count more)
count (ListThen at members more) = suc (count members + count more)

-- Every word and list in pre-order, each with the members after it in its list.
abbrev pub nodes : Members → List Members
nodes NoMore = []
nodes (WordThen at bytes more) = WordThen at bytes more ∷ nodes more
nodes (ListThen at members more) = ListThen at members more ∷ (nodes members ++ nodes more)

-- the node i in pre-order, and the members after it in its list
abbrev pub from : Members → ℕ → Members
from tree i = slice_index_or (nodes tree) i NoMore

-- what stands at a place: None is the end of a list
abbrev pub members_at : Members → Option ℕ → Members
members_at tree None = NoMore
members_at tree (Some i) = from tree i

-- a place of the tree, or the end of a list
abbrev pub IsPlace : Members → Option ℕ → Type 0
IsPlace tree None = Unit {0}
IsPlace tree (Some i) = i < length (nodes tree)

-- where members begin: the place i, or None where there are none
abbrev pub beginning : Members → ℕ → Option ℕ
beginning wanted i = if is_empty wanted then None else Some i
