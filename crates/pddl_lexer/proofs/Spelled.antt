-- The tree of a text is the one that its tokens spell, and its words are words.
use Rattle.std.proofs.Common.{◌≡◌, ℕ, List, [], ◌∷◌, ◌++◌, refl, sym, ap, ◌∙◌, append_assoc}
use Rattle.std.proofs.lemmas.List.{append-nil}
use Rattle.pddl_lexer.specs.declared.position.At.{At}
use Rattle.pddl_lexer.specs.Members.{Members, NoMore, WordThen, ListThen}
use Rattle.pddl_lexer.specs.Tokens.{Token, Close, spelled, written}
use Rattle.pddl_lexer.specs.Builder.{joined}
use Rattle.pddl_lexer.specs.Nested.{word_before, list_before, nested, innermost, tree}

-- members that stand before others of their list
abbrev before : Members → List Members → List Members
before members [] = []
before members (later ∷ around) = joined members later ∷ around

before_word : (at : At) (word : List ℕ) (members : Members) (found : List Members) → word_before at word (before members found) ≡ before (WordThen at word members) found
before_word at word members [] = refl
before_word at word members (later ∷ around) = refl

before_list : (at : At) (inside members : Members) (found : List Members) → list_before at (joined inside NoMore ∷ before members found) ≡ before (ListThen at (joined inside NoMore) members) found
before_list at inside members [] = refl
before_list at inside members (later ∷ around) = refl

joined_nothing : (members : Members) → joined members NoMore ≡ members
joined_nothing NoMore = refl
joined_nothing (WordThen at word rest) = ap (WordThen at word) (joined_nothing rest)
joined_nothing (ListThen at inside rest) = ap (ListThen at inside) (joined_nothing rest)

before_nothing : (found : List Members) → before NoMore found ≡ found
before_nothing [] = refl
before_nothing (later ∷ around) = refl

-- written members are found again
nested_written : (members : Members) (more : List Token) → nested (written members ++ more) ≡ before members (nested more)
nested_written NoMore more = sym (before_nothing (nested more))
nested_written (WordThen at word rest) more = ap (word_before at word) (nested_written rest more) ∙ before_word at word rest (nested more)
nested_written (ListThen at inside rest) more =
    ap (λ ts. list_before at (nested ts)) (append_assoc (written inside) (Close ∷ written rest) more)
    ∙ ap (list_before at) (nested_written inside (Close ∷ (written rest ++ more)) ∙ ap (λ found. joined inside NoMore ∷ found) (nested_written rest more))
    ∙ before_list at inside rest (nested more)
    ∙ ap (λ i. before (ListThen at i rest) (nested more)) (joined_nothing inside)

pub tree_of_spelled : (text : List ℕ) (members : Members) → written members ≡ spelled text → tree text ≡ members
unfolding tree
tree_of_spelled text members spells =
    ap (λ ts. innermost (nested ts)) (sym spells ∙ sym (append-nil (written members))) ∙ ap innermost (nested_written members []) ∙ joined_nothing members
