-- Lines that are written are the pieces of their text, and a name with one space more is one line.
use Rattle.std.proofs.Common.{◌≡◌, ◌≢◌, ℕ, ◌+◌, ◌-◌, ◌<◌, false, cond, eqb, List, [], ◌∷◌, ◌++◌, length, get_or, take, inl, inr, refl, ap, ◌∙◌, subst, append_assoc, arith}
use Rattle.std.specs.List.{All}
use Rattle.std.proofs.lemmas.Bool.{cases_Bool, eqb-true, ne_eqb}
use Rattle.std.proofs.lemmas.List.{take_all}
use Rattle.std.proofs.lemmas.List.Elements.{All-head, All-tail, All-more, All-weaker}
use Rattle.std.proofs.lemmas.List.Splits.{slice_split_at}
use Rattle.sas_task.specs.Output.{Line, bytes_of}
use Rattle.sas_reader.specs.Forms.{pieces_of}
use Rattle.sas_reader.specs.Words.{less_space}
use Rattle.lists.specs.Names.{IsName}
use Rattle.lists.proofs.Names.{IsOneLine, name_parts}

-- a space at the end is no line feed
space_clean : (line : Line) → IsOneLine (less_space line) → IsOneLine line
space_clean line clean =
    elim (cases_Bool (eqb (get_or line (length line - 1) 0) 32)) [
      | inl space ↦
          let front : IsOneLine (take (length line - 1) line) = subst IsOneLine (ap (λ b. cond b (take (length line - 1) line) line) space) clean in
          let last : get_or line (length line - 1) 0 ≡ 32 = eqb-true (get_or line (length line - 1) 0) 32 space in
          let some : 0 < length line = some_byte line last in
          let whole : take (length line - 1 + 1) line ≡ line = take_all (length line - 1 + 1) line (omega (arith, some)) in
          subst IsOneLine whole (All-more (λ b. b ≢ 10) line (length line - 1) 0 (omega (arith, some)) front (λ feed. absurd (omega (arith, feed, last))))
      | inr other ↦ subst IsOneLine (ap (λ b. cond b (take (length line - 1) line) line) other) clean
    ]
  where
    some_byte : (bytes : List ℕ) → get_or bytes (length bytes - 1) 0 ≡ 32 → 0 < length bytes
    some_byte [] is = absurd (omega (arith, is))
    some_byte (b ∷ bytes) is = omega arith

-- so a name with one space more has none
pub name_clean : (name : Line) → IsName (less_space name) → IsOneLine name
name_clean name is = space_clean name (name_parts (less_space name) is).one_line

-- lines without a line feed are the pieces of their text, and then nothing
pub pieces_back : (ls : List Line) → All IsOneLine ls → pieces_of 10 (bytes_of ls) ≡ ls ++ [] ∷ []
pieces_back [] clean = refl
pieces_back (l ∷ ls) clean =
    ap (pieces_of 10) (append_assoc l (10 ∷ []) (bytes_of ls))
    ∙ slice_split_at (λ b. eqb b 10) l 10 (bytes_of ls) (All-weaker (λ b. b ≢ 10) (λ b. eqb b 10 ≡ false) (λ b other. ne_eqb b 10 other) l (All-head IsOneLine l ls clean)) refl
    ∙ ap (λ ps. l ∷ ps) (pieces_back ls (All-tail IsOneLine l ls clean))
