-- The lines of a plan file: which are comments and which are steps, and the words of a step.
use Rattle.std.specs.Prelude.{ℕ, ◌-◌, Bool, true, List, [], ◌∷◌, ◌++◌, map, flat_map, filter, take, drop, length, ◌==◌, ◌&&◌, ◌||◌, not, if◌then◌else◌, slice_index}
use Rattle.std.specs.List.{list_any, list_all, prefix_len, suffix_len, slice_split, onto_first}
use Rattle.pddl_lexer.specs.Text.{is_word_byte, lowered, line_feed, semicolon, opening_parenthesis, closing_parenthesis}

-- The lines of a text, which end at line feeds. A rest without a line feed is a line, and an empty rest is none.
abbrev pub lines : List ℕ → List (List ℕ)
lines [] = []
lines (b ∷ text) = if b == line_feed then [] ∷ lines text else onto_first b (lines text)

abbrev pub is_space_or_tab : ℕ → Bool
is_space_or_tab b = b == 32 || b == 9

-- space, tab or carriage return
abbrev pub is_trimmed_byte : ℕ → Bool
is_trimmed_byte b = b == 32 || b == 9 || b == 13

abbrev pub without_start : List ℕ → List ℕ
without_start line = drop (prefix_len is_trimmed_byte line) line

abbrev pub without_end : List ℕ → List ℕ
without_end line = take (length line - suffix_len is_trimmed_byte line) line

-- the line without the spaces, tabs and carriage returns at both ends
abbrev pub trimmed : List ℕ → List ℕ
trimmed line = without_end (without_start line)

-- the lines of a plan file, each trimmed
abbrev pub plan_lines : List ℕ → List (List ℕ)
plan_lines text = map trimmed (lines text)

-- the trimmed line is empty, or begins with ;
abbrev pub is_comment : List ℕ → Bool
is_comment [] = true
is_comment (b ∷ line) = b == semicolon

-- the line begins with ( and ends with )
abbrev pub is_enclosed : List ℕ → Bool
is_enclosed line = slice_index line 0 == opening_parenthesis && slice_index line (length line - 1) == closing_parenthesis

-- what stands between the first byte and the last
abbrev pub inside : List ℕ → List ℕ
inside line = drop 1 (take (length line - 1) line)

-- at least one word, and else only spaces and tabs
abbrev pub are_words : List ℕ → Bool
are_words text = list_any is_word_byte text && list_all (λ b. is_word_byte b || is_space_or_tab b) text

-- the trimmed line has words between parentheses
abbrev pub is_step : List ℕ → Bool
is_step line = is_enclosed line && are_words (inside line)

-- the words between spaces and tabs
abbrev pub words_inside : List ℕ → List (List ℕ)
words_inside text = filter (λ word. not (length word == 0)) (slice_split is_space_or_tab text)

-- the words of a step, lowered
abbrev pub words : List ℕ → List (List ℕ)
words line = map lowered (words_inside (inside line))

-- the name that words make: they are joined by single spaces
abbrev pub name : List (List ℕ) → List ℕ
name [] = []
name (first ∷ more) = first ++ flat_map (λ word. 32 ∷ word) more
