-- The nested list that tokens spell, found from the last token to the first.
use Rattle.std.specs.Prelude.{ℕ, List, [], ◌∷◌}
use Rattle.pddl_lexer.specs.declared.position.At.{At}
use Rattle.pddl_lexer.specs.Members.{Members, NoMore, WordThen, ListThen}
use Rattle.pddl_lexer.specs.Tokens.{Token, Open, Close, Word, spelled}

-- a word before the members of the innermost list
abbrev pub word_before : At → List ℕ → List Members → List Members
word_before at word [] = []
word_before at word (members ∷ around) = WordThen at word members ∷ around

-- the innermost list begins before its members, and stands before the members around it
abbrev pub list_before : At → List Members → List Members
list_before at [] = []
list_before at (inside ∷ []) = []
list_before at (inside ∷ members ∷ around) = ListThen at inside members ∷ around

-- the members with which these tokens begin, up to the end of their list, and then those of each list around it
abbrev pub nested : List Token → List Members
nested [] = NoMore ∷ []
nested (Open at ∷ more) = list_before at (nested more)
nested (Close ∷ more) = NoMore ∷ nested more
nested (Word at word ∷ more) = word_before at word (nested more)

abbrev pub innermost : List Members → Members
innermost [] = NoMore
innermost (members ∷ around) = members

-- the nested list of a text, its words as written
unfoldable pub tree : List ℕ → Members
tree text = innermost (nested (spelled text))
