-- Where a text is cut at its first line feed.
use Rattle.std.specs.Prelude.{ℕ, Bool, List, take, drop, not, ◌==◌}
use Rattle.std.specs.List.{prefix_len}
use Rattle.pddl_lexer.specs.Text.{line_feed}

abbrev pub is_no_feed : ℕ → Bool
is_no_feed b = not (b == line_feed)

-- the first line
abbrev pub first_line : List ℕ → List ℕ
first_line text = take (prefix_len is_no_feed text) text

-- what follows the first line and its line feed
abbrev pub after_line : List ℕ → List ℕ
after_line text = drop 1 (drop (prefix_len is_no_feed text) text)
