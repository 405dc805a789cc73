-- How a text is cut at its first line feed.
use Rattle.std.proofs.Common.{◌≡◌, ℕ, suc, ◌+◌, ◌-◌, ◌<◌, ◌≤◌, length, Bool, true, false, cond, not, List, [], ◌∷◌, map, take, drop, refl, ap, ◌∙◌, arith}
use Rattle.std.specs.Prelude.{◌==◌, if◌then◌else◌}
use Rattle.std.specs.List.{prefix_len, onto_first}
use Rattle.std.proofs.lemmas.List.{take_all, length-drop}
use Rattle.pddl_lexer.specs.Text.{line_feed}
use Rattle.plan_backmap.specs.Lines.{lines, plan_lines, trimmed}
use Rattle.plan_backmap.specs.FirstLine.{is_no_feed, first_line, after_line}

-- what is left from a place on
pub rest_from : (xs : List ℕ) (k m : ℕ) → k ≡ m → take (length xs - k) (drop k xs) ≡ drop m xs
rest_from xs k m e = take_all (length xs - k) (drop k xs) (omega (arith, length-drop k xs)) ∙ ap (λ n. drop n xs) e

-- the first line, and the lines of what follows it
pub first_and_lines : (b : ℕ) (text : List ℕ) → lines (b ∷ text) ≡ first_line (b ∷ text) ∷ lines (after_line (b ∷ text))
first_and_lines b [] = by (b == line_feed)
  where
    by : (t : Bool) → (if t then [] ∷ [] else (b ∷ []) ∷ []) ≡ take (cond (not t) 1 0) (b ∷ []) ∷ lines (drop 1 (drop (cond (not t) 1 0) (b ∷ [])))
    by true = refl
    by false = refl
first_and_lines b (c ∷ text) = by (b == line_feed) (first_and_lines c text)
  where
    by : (t : Bool) → lines (c ∷ text) ≡ first_line (c ∷ text) ∷ lines (after_line (c ∷ text)) →
        (if t then [] ∷ lines (c ∷ text) else onto_first b (lines (c ∷ text)))
        ≡ take (cond (not t) (1 + prefix_len is_no_feed (c ∷ text)) 0) (b ∷ c ∷ text) ∷ lines (drop 1 (drop (cond (not t) (1 + prefix_len is_no_feed (c ∷ text)) 0) (b ∷ c ∷ text)))
    by true e = refl
    by false e =
        let k = prefix_len is_no_feed (c ∷ text) in
        let up : suc k ≡ 1 + k = omega arith in
        ap (onto_first b) e ∙ ap (λ n. take n (b ∷ c ∷ text) ∷ lines (drop 1 (drop n (b ∷ c ∷ text)))) up

-- the first line of a plan, and the lines after it
pub next_line : (text : List ℕ) → 1 ≤ length text → plan_lines text ≡ trimmed (first_line text) ∷ plan_lines (after_line text)
next_line [] le = absurd (omega arith)
next_line (b ∷ text) le = ap (map trimmed) (first_and_lines b text)

pub shorter : (text : List ℕ) → 1 ≤ length text → length (after_line text) + 1 ≤ length text
shorter text le = let k = prefix_len is_no_feed text in omega (arith, length-drop 1 (drop k text), length-drop k text)

pub smaller : (text after : List ℕ) → 1 ≤ length text → after ≡ after_line text → length after < length text
smaller text after le is = omega (arith, shorter text le, ap length is)
