-- A nested list that has been read in part, and how a builder keeps it.
use Rattle.std.specs.Prelude.{◌≡◌, ℕ, suc, ◌<◌, ◌≤◌, ◌+◌, ◌^◌, List, [], ◌∷◌, ◌++◌, length, nat_lt}
use Rattle.std.specs.Vec.{vec_len}
use Rattle.pddl_lexer.specs.declared.scanner.Mark.{Mark}
use Rattle.pddl_lexer.specs.declared.scanner.Mark.TheVariants.{Nothing, Bad, Opening, Closing, Beginning}
use Rattle.pddl_lexer.specs.declared.builder.Builder.{Builder}
use Rattle.pddl_lexer.specs.declared.position.At.{At}
use Rattle.pddl_lexer.specs.Members.{Members, NoMore, WordThen, ListThen}
use Rattle.pddl_lexer.specs.Nodes.{Entry, list_entry, entries, shown}
use Rattle.pddl_lexer.specs.Tokens.{Token, Open, written}
use Rattle.pddl_lexer.specs.Faults.{opened, closed, begun}

-- What stands outside all open lists; or an open list, with what is around it, its position and its members so far.
pub data Partial : Type 0 where
  Outside : (read : Members) → Partial
  Within : (around : Partial) (at : At) (read : Members) → Partial

-- members after members
abbrev pub joined : Members → Members → Members
joined NoMore more = more
joined (WordThen at word rest) more = WordThen at word (joined rest more)
joined (ListThen at inside rest) more = ListThen at inside (joined rest more)

-- how many lists are open
abbrev pub depth : Partial → ℕ
depth (Outside read) = 0
depth (Within around at read) = suc (depth around)

-- a further member of the innermost open list
abbrev pub with_member : Partial → Members → Partial
with_member (Outside read) member = Outside (joined read member)
with_member (Within around at read) member = Within around at (joined read member)

-- the innermost open list is closed
abbrev pub with_end : Partial → Partial
with_end (Outside read) = Outside read
with_end (Within around at read) = with_member around (ListThen at read NoMore)

-- what is read once what stands at a place is
abbrev pub with_mark : Mark → (at : At) (word : List ℕ) → Partial → Partial
with_mark Nothing at word partial = partial
with_mark Bad at word partial = partial
with_mark Opening at word partial = Within partial at NoMore
with_mark Closing at word partial = with_end partial
with_mark Beginning at word partial = with_member partial (WordThen at word NoMore)

-- the tokens read so far
abbrev pub written_so_far : Partial → List Token
written_so_far (Outside read) = written read
written_so_far (Within around at read) = written_so_far around ++ (Open at ∷ written read)

-- the nodes so far: an open list has no count yet
abbrev pub entries_so_far : Partial → List Entry
entries_so_far (Outside read) = entries 0 read
entries_so_far (Within around at read) = entries_so_far around ++ (list_entry at (depth around) 0 ∷ entries (suc (depth around)) read)

-- where the open lists stand among the nodes, the outermost first
abbrev pub places_open : Partial → List ℕ
places_open (Outside read) = []
places_open (Within around at read) = places_open around ++ (length (entries_so_far around) ∷ [])

-- the builder keeps this list of the text
pub record Represents (text : List ℕ) (builder : Builder) (partial : Partial) : Type 0 where
  pub nodes_are : shown text builder.nodes.items ≡ entries_so_far partial
  pub open_are : builder.open.items ≡ places_open partial

-- the builder keeps some list of some text
abbrev pub IsBuilding : Builder → Type 0
IsBuilding builder = (text : List ℕ) × ((partial : Partial) × Represents text builder partial)

-- the number of its nodes has 32 bits
abbrev pub HasFewNodes : Builder → Type 0
HasFewNodes builder = vec_len builder.nodes < 2 ^ 32

-- at most 100 lists are open
abbrev pub IsShallow : Builder → Type 0
IsShallow builder = vec_len builder.open ≤ 100

-- what a builder knows of the bytes that were read, where no fault stands in them
pub record Counts (builder : Builder) (behind : List ℕ) : Type 0 where
  pub depth_is : opened behind ≡ closed behind + vec_len builder.open
  pub begun_is : begun behind ≡ nat_lt 0 (vec_len builder.nodes)
  pub opened_is : nat_lt 0 (opened behind) ≡ nat_lt 0 (vec_len builder.nodes)
