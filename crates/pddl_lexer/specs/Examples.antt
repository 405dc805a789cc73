-- The tokens, the tree and the tree faults of small texts, worked by hand.
use Rattle.std.specs.Prelude.{◌≡◌, ℕ, List, [], ◌∷◌, ◌++◌, codes, replicate}
use Rattle.pddl_lexer.specs.declared.fault.Kind.{Kind}
use Rattle.pddl_lexer.specs.declared.fault.Kind.TheVariants.{BadByte, StrayClose, MissingClose, TooDeep, TextAfterEnd, NoList}
use Rattle.pddl_lexer.specs.declared.fault.Fault.{Fault}
use Rattle.pddl_lexer.specs.Text.{line_feed, opening_parenthesis}
use Rattle.pddl_lexer.specs.declared.position.At.{At}
use Rattle.pddl_lexer.specs.Members.{Members, NoMore, WordThen, ListThen}
use Rattle.pddl_lexer.specs.Tokens.{Open, Close, Word, tokens, spelled, IsTreeOf}
use Rattle.pddl_lexer.specs.Nested.{tree}
use Rattle.pddl_lexer.specs.Faults.{tree_faults}

-- a line after a text
abbrev pub then_line : List ℕ → List ℕ → List ℕ
then_line text more = text ++ line_feed ∷ more

abbrev pub place : (line column : ℕ) → At
place line column = record { line = line; column = column }

abbrev pub fault : Kind → (line column : ℕ) → Fault
fault kind line column = record { kind = kind; at = place line column }

-- a list in a list, over three lines, with a comment
abbrev pub nested : List ℕ
nested = then_line (then_line (codes "(Ab?c ; (x") (codes "()")) (codes ")")

abbrev pub nested_tree : Members
nested_tree = ListThen (place 1 1) (WordThen (place 1 2) (codes "ab") (WordThen (place 1 4) (codes "?c") (ListThen (place 2 1) NoMore NoMore))) NoMore

pub record TokenExamples : Type 0 where
  pub as_written : spelled nested ≡ Open (place 1 1) ∷ Word (place 1 2) (codes "Ab") ∷ Word (place 1 4) (codes "?c") ∷ Open (place 2 1) ∷ Close ∷ Close ∷ []
  pub lowered : tokens nested ≡ Open (place 1 1) ∷ Word (place 1 2) (codes "ab") ∷ Word (place 1 4) (codes "?c") ∷ Open (place 2 1) ∷ Close ∷ Close ∷ []
  pub as_nested : tree nested ≡ ListThen (place 1 1) (WordThen (place 1 2) (codes "Ab") (WordThen (place 1 4) (codes "?c") (ListThen (place 2 1) NoMore NoMore))) NoMore
  pub tree_is : IsTreeOf nested nested_tree

pub record FaultExamples : Type 0 where
  pub no_fault : tree_faults nested ≡ []
  pub no_token : tree_faults (codes "; (a)") ≡ fault NoList 1 6 ∷ []
  pub word_first : tree_faults (then_line (codes "a b") (codes "(c) d")) ≡ fault NoList 1 1 ∷ fault TextAfterEnd 2 5 ∷ []
  pub byte : tree_faults (then_line (195 ∷ codes "; (") (codes "()")) ≡ fault BadByte 1 1 ∷ []
  pub byte_in_comment : tree_faults (codes "();" ++ (195 ∷ 169 ∷ [])) ≡ []
  pub second_list : tree_faults (then_line (codes "()") (codes "(a)")) ≡ fault TextAfterEnd 2 1 ∷ []
  pub not_closed : tree_faults (then_line (codes "((a)") (codes ";)")) ≡ fault MissingClose 2 3 ∷ []
  pub closed_before : tree_faults (codes ")a(") ≡ fault StrayClose 1 1 ∷ []
  pub closed_first : tree_faults (then_line (codes ")a") (codes "((")) ≡ fault StrayClose 1 1 ∷ fault TextAfterEnd 2 2 ∷ fault MissingClose 2 3 ∷ []
  pub deep : tree_faults (replicate 101 opening_parenthesis) ≡ fault TooDeep 1 101 ∷ fault MissingClose 1 102 ∷ []
