-- Pieces of lines, appended one after another.
use Rattle.std.proofs.Common.{◌≡◌, ℕ, zero, suc, ◌+◌, ◌^◌, ◌<◌, ◌≤◌, List, [], ◌∷◌, ◌++◌, length, get_or, take, Some, sym, ap, ◌∙◌, subst, append_assoc, append-nil, arith}
use Rattle.std.specs.List.{flat_map, slice_get, enumerate_from}
use Rattle.std.proofs.lemmas.List.{take_all}
use Rattle.std.proofs.lemmas.List.Concat.{flat_map-append}
use Rattle.std.proofs.lemmas.List.FromFn.{length-enumerate_from, get_or-enumerate_from}
use Rattle.std.proofs.lemmas.Option.{slice_get_within, slice_get-get_or, get_or_from_slice_get}
use Rattle.std.proofs.lemmas.Fmt.{decimal-digits_of, decimal_digit}
use Rattle.std.specs.Fmt.{decimal}
use Rattle.lists.proofs.LoopSteps.{flat_map_got}
use Rattle.sas_task.specs.declared.parts.Variable.{Variable}
use Rattle.sas_task.specs.Output.{Line, bytes_of, counted, numeral, spaced}

-- what a number below 2^64 is printed as
pub printed : (n : ℕ) → n < 2 ^ 64 → decimal n ≡ numeral n
printed zero small = decimal_digit 0 (omega arith)
printed (suc n) small = decimal-digits_of (suc n) (omega arith) small

-- lines after lines
pub then_lines : (a b : List Line) (out out1 out2 : List ℕ) → out1 ≡ out ++ bytes_of a → out2 ≡ out1 ++ bytes_of b → out2 ≡ out ++ bytes_of (a ++ b)
then_lines a b out out1 out2 first second =
    second ∙ ap (λ o. o ++ bytes_of b) first ∙ append_assoc out (bytes_of a) (bytes_of b) ∙ ap (λ o. out ++ o) (sym (flat_map-append (λ line. line ++ 10 ∷ []) a b))

-- the lines of one more item
pub next_lines : {X : Type 0} (lines : X → List Line) (xs : List X) (i : ℕ) (x : X) (out out1 out2 : List ℕ) → slice_get xs i ≡ Some x → out1 ≡ out ++ bytes_of (flat_map lines (take i xs)) → out2 ≡ out1 ++ bytes_of (lines x) → out2 ≡ out ++ bytes_of (flat_map lines (take (i + 1) xs))
next_lines lines xs i x out out1 out2 at first second =
    then_lines (flat_map lines (take i xs)) (lines x) out out1 out2 first second ∙ ap (λ l. out ++ bytes_of l) (sym (flat_map_got lines xs i x at))

-- the item at a place
pub item_at : {X : Type 0} (xs : List X) (i : ℕ) (x : X) → i < length xs → x ≡ get_or xs i x → slice_get xs i ≡ Some x
item_at xs i x within is = slice_get-get_or xs i x within ∙ ap Some (sym is)

-- the number of items, and then the lines of all of them
pub all_counted : {X : Type 0} (lines : X → List Line) (xs : List X) (i : ℕ) (out out1 out2 : List ℕ) → length xs ≤ i → out1 ≡ out ++ bytes_of (numeral (length xs) ∷ []) → out2 ≡ out1 ++ bytes_of (flat_map lines (take i xs)) → out2 ≡ out ++ bytes_of (counted lines xs)
all_counted lines xs i out out1 out2 done first second =
    then_lines (numeral (length xs) ∷ []) (flat_map lines xs) out out1 out2 first (second ∙ ap (λ l. out1 ++ bytes_of (flat_map lines l)) (take_all i xs done))

-- each word with a space before it
abbrev pub after_spaces : List Line → List ℕ
after_spaces words = flat_map (λ word. 32 ∷ word) words

-- words with single spaces between them are the first, and then each after a space
pub spaced_words : (word : Line) (words : List Line) → spaced (word ∷ words) ≡ word ++ after_spaces words
spaced_words word [] = sym (append-nil word)
spaced_words word (next ∷ words) = ap (λ l. word ++ (32 ∷ l)) (spaced_words next words)

regrouped : (out a b v r s n : List ℕ) → (((((out ++ a) ++ b) ++ v) ++ r) ++ s) ++ n ≡ out ++ (((a ++ (b ++ (v ++ (r ++ (s ++ []))))) ++ n) ++ [])
regrouped out a b v r s n = simp (append_assoc, append-nil)

-- the pieces of an effect line
pub effect_pieces : (count var value after : Line) (words : List Line) (out out1 out2 out3 out4 out5 out6 : List ℕ)
    → out1 ≡ out ++ count → out2 ≡ out1 ++ after_spaces words → out3 ≡ out2 ++ 32 ∷ var → out4 ≡ out3 ++ 32 ∷ value → out5 ≡ out4 ++ 32 ∷ after → out6 ≡ out5 ++ 10 ∷ []
    → out6 ≡ out ++ bytes_of (spaced (count ∷ (words ++ var ∷ value ∷ after ∷ [])) ∷ [])
effect_pieces count var value after words out out1 out2 out3 out4 out5 out6 e1 e2 e3 e4 e5 e6 =
    e6 ∙ ap (λ o. o ++ 10 ∷ []) (e5 ∙ ap (λ o. o ++ 32 ∷ after) (e4 ∙ ap (λ o. o ++ 32 ∷ value) (e3 ∙ ap (λ o. o ++ 32 ∷ var) (e2 ∙ ap (λ o. o ++ after_spaces words) e1))))
    ∙ regrouped out count (after_spaces words) (32 ∷ var) (32 ∷ value) (32 ∷ after) (10 ∷ [])
    ∙ sym (ap (λ l. out ++ ((l ++ 10 ∷ []) ++ [])) (spaced_words count (words ++ var ∷ value ∷ after ∷ []) ∙ ap (λ l. count ++ l) (flat_map-append (λ word. 32 ∷ word) words (var ∷ value ∷ after ∷ []))))

-- the variable at a place, beside its number
pub numbered_at : (vs : List Variable) (i : ℕ) (v : Variable) → slice_get vs i ≡ Some v → slice_get (enumerate_from 0 vs) i ≡ Some (i, v)
numbered_at vs i v at =
    let within = slice_get_within vs i v at in
    let there : i < length (enumerate_from 0 vs) = subst (λ n. i < n) (sym (length-enumerate_from 0 vs)) within in
    let zero-more : 0 + i ≡ i = omega arith in
    slice_get-get_or (enumerate_from 0 vs) i (0, v) there
    ∙ ap Some (get_or-enumerate_from 0 vs i (0, v) within ∙ ap (λ n. (n, get_or vs i v)) zero-more ∙ ap (λ w. (i, w)) (get_or_from_slice_get vs i v v at))
