-- What a scanner knows of the bytes that it has passed.
use Rattle.std.specs.Prelude.{◌≡◌, ℕ, List}
use Rattle.pddl_lexer.specs.declared.scanner.Scanner.{Scanner}
use Rattle.pddl_lexer.specs.Text.{commented, ends_in_word, position}

-- the scanner stands after these bytes, the nearest first
pub record StandsAfter (scanner : Scanner) (behind : List ℕ) : Type 0 where
  pub at_is : scanner.at ≡ position behind
  pub comment_is : scanner.in_comment ≡ commented behind
  pub word_is : scanner.in_word ≡ ends_in_word behind
