-- How a tree is kept: its nodes in pre-order, each with its depth and the number of nodes in it.
use Rattle.std.specs.Prelude.{◌≡◌, ℕ, suc, List, [], ◌∷◌, ◌++◌, map, drop, Option, Some, None, nat_lt, slice_index_or, ◌==◌, if◌then◌else◌}
use Rattle.pddl_lexer.specs.declared.tree.Content.{Content}
use Rattle.pddl_lexer.specs.declared.tree.Content.TheVariants as contents
use Rattle.pddl_lexer.specs.declared.tree.Node.{Node}
use Rattle.pddl_lexer.specs.declared.position.At.{At}
use Rattle.pddl_lexer.specs.Positions.{nowhere}
use Rattle.pddl_lexer.specs.Tokens.{leading_word}
use Rattle.pddl_lexer.specs.Members.{Members, NoMore, WordThen, ListThen, IsOneList, count, is_list, position, word, inside}

-- a node: its position, its bytes if it is a word and None if it is a list, its depth, and how many nodes stand in it
pub record Entry : Type 0 where
  pub at : At
  pub word : Option (List ℕ)
  pub depth : ℕ
  pub below : ℕ

abbrev pub word_entry : (at : At) (word : List ℕ) (depth : ℕ) → Entry
word_entry at word depth = record { at = at; word = Some word; depth = depth; below = 0 }

abbrev pub list_entry : (at : At) (depth below : ℕ) → Entry
list_entry at depth below = record { at = at; word = None; depth = depth; below = below }

-- the nodes of members that stand at this depth
abbrev pub entries : ℕ → Members → List Entry
entries depth NoMore = []
entries depth (WordThen at word rest) = word_entry at word depth ∷ entries depth rest
entries depth (ListThen at inside rest) = list_entry at depth (count inside) ∷ (entries (suc depth) inside ++ entries depth rest)

-- a member, with its own members if it is a list
abbrev pub member : Entry → Members → Members → Members
member e inside rest = option_member e.word e.at inside rest
  where
    option_member : Option (List ℕ) → At → Members → Members → Members
    option_member None at inside rest = ListThen at inside rest
    option_member (Some word) at inside rest = WordThen at word rest

-- the members at this depth with which the nodes begin: deeper nodes are passed over, and a node that is less deep ends them
abbrev pub members : List Entry → ℕ → Members
members [] depth = NoMore
members (e ∷ es) depth =
    if e.depth == depth then member e (members es (suc depth)) (members es depth)
    else if nat_lt depth e.depth then members es depth
    else NoMore

abbrev pub content_word : (text : List ℕ) → Content → Option (List ℕ)
content_word text (contents.Word depth begins) = Some (leading_word (drop begins text))
content_word text (contents.List depth below) = None

abbrev pub content_depth : Content → ℕ
content_depth (contents.Word depth begins) = depth
content_depth (contents.List depth below) = depth

abbrev pub content_below : Content → ℕ
content_below (contents.Word depth begins) = 0
content_below (contents.List depth below) = below

-- a node of the code, with its word as it stands in the text
abbrev pub entry : (text : List ℕ) → Node → Entry
entry text n = record { at = n.at; word = content_word text n.content; depth = content_depth n.content; below = content_below n.content }

abbrev pub shown : (text : List ℕ) → List Node → List Entry
shown text ns = map (entry text) ns

-- the tree that these nodes of a text keep
abbrev pub kept : (text : List ℕ) → List Node → Members
kept text ns = members (shown text ns) 0

-- these are the nodes of a tree that is one list
pub record AreNodesOf (text : List ℕ) (tree : Members) (ns : List Node) : Type 0 where
  pub shown_are : shown text ns ≡ entries 0 tree
  pub one_list : IsOneList tree

-- a node of the code shows the first of these members
pub record Shows (e : Entry) (here : Members) : Type 0 where
  pub at_is : e.at ≡ position here
  pub word_is : e.word ≡ (if is_list here then None else Some (word here))
  pub below_is : e.below ≡ count (inside here)

-- how deep the node i stands in members at this depth
abbrev pub depth_of : Members → ℕ → ℕ
depth_of tree i = (slice_index_or (entries 0 tree) i (list_entry nowhere 0 0)).depth

abbrev pub IsAtDepth : Members → ℕ → ℕ → Type 0
IsAtDepth tree i depth = depth ≡ depth_of tree i
