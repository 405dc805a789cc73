-- What stands at each byte of a text. As in PDDL, a ; begins a comment that ends with its line, and the case of
-- letters doesn't matter. What stands at a byte is told by the bytes before it, which are listed with the nearest
-- first: `behind`.
use Rattle.std.specs.Prelude.{ℕ, ◌+◌, Bool, false, List, [], ◌∷◌, length, map, nat_le, ◌==◌, ◌&&◌, ◌||◌, not, if◌then◌else◌}
use Rattle.std.specs.Char.{to_ascii_lowercase}
use Rattle.std.specs.List.{take_while}
use Rattle.pddl_lexer.specs.declared.position.At.{At}
use Rattle.pddl_lexer.specs.declared.scanner.Mark.{Mark}
use Rattle.pddl_lexer.specs.declared.scanner.Mark.TheVariants.{Nothing, Bad, Opening, Closing, Beginning}

abbrev pub line_feed : ℕ
line_feed = 10

abbrev pub opening_parenthesis : ℕ
opening_parenthesis = 40

abbrev pub closing_parenthesis : ℕ
closing_parenthesis = 41

abbrev pub semicolon : ℕ
semicolon = 59

abbrev pub question_mark : ℕ
question_mark = 63

-- a printable byte that is none of ( ) ;
abbrev pub is_word_byte : ℕ → Bool
is_word_byte b = nat_le 33 b && nat_le b 126 && not (b == opening_parenthesis) && not (b == closing_parenthesis) && not (b == semicolon)

-- space, tab, carriage return or line feed
abbrev pub is_blank : ℕ → Bool
is_blank b = b == 32 || b == 9 || b == 13 || b == line_feed

-- the bytes of a word, with A to Z lowered
abbrev pub lowered : List ℕ → List ℕ
lowered bytes = map to_ascii_lowercase bytes

-- a ; stands in the last line of these bytes
abbrev pub commented : List ℕ → Bool
commented [] = false
commented (b ∷ behind) = not (b == line_feed) && (commented behind || b == semicolon)

-- the line of the byte that follows these: 1, and one more for each line feed
abbrev pub line : List ℕ → ℕ
line [] = 1
line (b ∷ behind) = if b == line_feed then line behind + 1 else line behind

-- the column of the byte that follows these: 1, and one more for each byte since the last line feed
abbrev pub column : List ℕ → ℕ
column behind = 1 + length (take_while (λ b. not (b == line_feed)) behind)

-- the position of the byte that follows these, or of the end of the text
abbrev pub position : List ℕ → At
position behind = record { line = line behind; column = column behind }

-- the last of these bytes is a byte of a word
abbrev pub ends_in_word : List ℕ → Bool
ends_in_word [] = false
ends_in_word (b ∷ behind) = is_word_byte b

-- What stands at the byte b after these. A byte that is no line feed is in a comment where a ; stands in its line,
-- at it or before it. A word is a longest run of its bytes, but a ? begins a new one.
unfoldable pub mark : List ℕ → ℕ → Mark
mark behind b =
    if commented (b ∷ behind) then Nothing
    else if b == opening_parenthesis then Opening
    else if b == closing_parenthesis then Closing
    else if is_word_byte b then (if b == question_mark || not (ends_in_word behind) then Beginning else Nothing)
    else if is_blank b then Nothing
    else Bad
