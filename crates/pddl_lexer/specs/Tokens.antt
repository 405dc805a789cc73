-- The tokens of a text, and the tree that they spell.
use Rattle.std.specs.Prelude.{◌≡◌, ℕ, Bool, List, [], ◌∷◌, ◌++◌, Option, Some, None, map, ◌==◌, ◌&&◌, not}
use Rattle.std.specs.List.{take_while}
use Rattle.pddl_lexer.specs.declared.scanner.Mark.{Mark}
use Rattle.pddl_lexer.specs.declared.scanner.Mark.TheVariants.{Nothing, Bad, Opening, Closing, Beginning}
use Rattle.pddl_lexer.specs.Text.{question_mark, is_word_byte, lowered, mark, position}
use Rattle.pddl_lexer.specs.declared.position.At.{At}
use Rattle.pddl_lexer.specs.Members.{Members, NoMore, WordThen, ListThen, IsOneList}

-- A ( and a word have the position of their first byte. A ) has none, since a tree keeps no position of it.
pub data Token : Type 0 where
  Open : (at : At) → Token
  Close : Token
  Word : (at : At) (word : List ℕ) → Token

-- a byte with which a word goes on
abbrev pub goes_on : ℕ → Bool
goes_on b = is_word_byte b && not (b == question_mark)

-- the word with which a text begins: its first byte, and the bytes with which it goes on
abbrev pub leading_word : List ℕ → List ℕ
leading_word [] = []
leading_word (b ∷ after) = b ∷ take_while goes_on after

-- the token that begins at a place, by what stands there and the text from there on
abbrev pub token_at : Mark → At → List ℕ → Option Token
token_at Nothing at text = None
token_at Bad at text = None
token_at Opening at text = Some (Open at)
token_at Closing at text = Some Close
token_at Beginning at text = Some (Word at (leading_word text))

abbrev pub listed : {A : Type 0} → Option A → List A
listed None = []
listed (Some x) = x ∷ []

-- the tokens from a place on, by the bytes before it and the bytes after it
unfoldable pub spelled_from : List ℕ → List ℕ → List Token
spelled_from behind [] = []
spelled_from behind (b ∷ after) = listed (token_at (mark behind b) (position behind) (b ∷ after)) ++ spelled_from (b ∷ behind) after

-- the tokens of a text in order, each word as it is written there
abbrev pub spelled : List ℕ → List Token
spelled text = spelled_from [] text

-- the same token, with its word lowered
abbrev pub lowered_token : Token → Token
lowered_token (Open at) = Open at
lowered_token Close = Close
lowered_token (Word at word) = Word at (lowered word)

-- The tokens of a text: its parentheses and words outside comments in order, with their positions, words lowered.
abbrev pub tokens : List ℕ → List Token
tokens text = map lowered_token (spelled text)

-- the tokens of members, written in order
abbrev pub written : Members → List Token
written NoMore = []
written (WordThen at word rest) = Word at word ∷ written rest
written (ListThen at inside rest) = Open at ∷ (written inside ++ (Close ∷ written rest))

-- The tree of a text: the one nested list whose tokens, written in order, are those of the text.
pub record IsTreeOf (text : List ℕ) (tree : Members) : Type 0 where
  pub one_list : IsOneList tree
  pub spells : written tree ≡ tokens text

-- a text has one tree at most
abbrev pub HasOneTree : List ℕ → Type 0
HasOneTree text = (a b : Members) → IsTreeOf text a → IsTreeOf text b → a ≡ b
