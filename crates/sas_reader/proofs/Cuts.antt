-- The pieces of a text that is cut at a byte.
use Rattle.std.proofs.Common.{◌≡◌, ℕ, ◌+◌, ◌<◌, ◌≤◌, Bool, cond, not, List, [], ◌∷◌, length, take, drop, Some, None, Ok, Err, inl, inr, refl, sym, ap, ◌∙◌, arith}
use Rattle.std.specs.List.{slice_split, onto_first, position, position_or_len}
use Rattle.std.proofs.lemmas.Bool.{cases_Bool, cases_lt, lt-ltb, le-ltb}
use Rattle.std.proofs.lemmas.Option.{none-some, same_Some}
use Rattle.std.proofs.lemmas.List.Splits.{slice_split-cons_yes, slice_split-cons_no, slice_split_first}
use Rattle.sas_reader.specs.Forms.{Unread, here, next, next_line, line_of, nothing, end, no_word, end_words}

-- with no such element the list is the one piece
uncut : {X : Type 0} (p : X → Bool) (xs : List X) → length xs ≤ position_or_len p xs → slice_split p xs ≡ xs ∷ []
uncut p [] none = refl
uncut p (x ∷ xs) none =
    elim (cases_Bool (p x)) [
      | inl is ↦
          let first : position_or_len p (x ∷ xs) ≡ 0 = ap (λ b. cond (not b) (1 + position_or_len p xs) 0) is in
          absurd (omega (arith, none, first))
      | inr isnt ↦
          let later : position_or_len p (x ∷ xs) ≡ 1 + position_or_len p xs = ap (λ b. cond (not b) (1 + position_or_len p xs) 0) isnt in
          slice_split-cons_no p x xs isnt ∙ ap (onto_first x) (uncut p xs (omega (arith, none, later)))
    ]

pub cut_nowhere : {X : Type 0} (p : X → Bool) (xs : List X) → None ≡ position p xs → slice_split p xs ≡ xs ∷ []
cut_nowhere p xs none =
    elim (cases_lt (position_or_len p xs) (length xs)) [
      | inl within ↦ absurd (none-some (position_or_len p xs) (none ∙ ap (λ b. cond b (Some (position_or_len p xs)) None) (lt-ltb _ _ within)))
      | inr past ↦ uncut p xs past
    ]

pub cut_at : (p : ℕ → Bool) (xs : List ℕ) (i : ℕ) → Some i ≡ position p xs → slice_split p xs ≡ take i xs ∷ slice_split p (drop (i + 1) xs)
cut_at p xs i at =
    elim (cases_lt (position_or_len p xs) (length xs)) [
      | inl within ↦
          let is : i ≡ position_or_len p xs = same_Some i (position_or_len p xs) (at ∙ ap (λ b. cond b (Some (position_or_len p xs)) None) (lt-ltb _ _ within)) in
          slice_split_first p xs 0 within ∙ ap (λ n. take n xs ∷ slice_split p (drop (n + 1) xs)) (sym is)
      | inr past ↦ absurd (none-some i (sym (at ∙ ap (λ b. cond b (Some (position_or_len p xs)) None) (le-ltb _ _ past))))
    ]

-- there is a first piece
pub some_piece : {X : Type 0} (p : X → Bool) (xs : List X) → (first : List X) × (pieces : List (List X)) × (slice_split p xs ≡ first ∷ pieces)
some_piece p [] = ([], [], refl)
some_piece p (x ∷ xs) =
    let later = some_piece p xs in
    elim (cases_Bool (p x)) [
      | inl is ↦ ([], slice_split p xs, slice_split-cons_yes p x xs is)
      | inr isnt ↦ (x ∷ later.0, later.1, slice_split-cons_no p x xs isnt ∙ ap (onto_first x) later.2)
    ]

-- the line up to the next line feed
pub line_is : (p : ℕ → Bool) (now : Unread) (line more : List ℕ) → now.pieces ≡ line ∷ slice_split p more → next_line now ≡ Ok (line, record now { begun = now.begun + 1; pieces = slice_split p more })
line_is p now line more cut =
    let pieces = some_piece p more in
    ap (λ l. line_of l now) (cut ∙ ap (λ l. line ∷ l) pieces.2)
    ∙ ap (λ (l : List (List ℕ)). Ok (line, record now { begun = now.begun + 1; pieces = l })) (sym pieces.2)

-- where bytes are left, the text isn't at its end
pub not_ended : (p : ℕ → Bool) (now : Unread) (rest : List ℕ) → 0 < length rest → now.pieces ≡ slice_split p rest → end now ≡ Err (next now)
not_ended p now [] some is = absurd (omega arith)
not_ended p now (b ∷ bytes) some is =
    let later = some_piece p bytes in
    elim (cases_Bool (p b)) [
      | inl feed ↦ ap (λ l. nothing l now) (is ∙ slice_split-cons_yes p b bytes feed ∙ ap (λ l. [] ∷ l) later.2)
      | inr other ↦ ap (λ l. nothing l now) (is ∙ slice_split-cons_no p b bytes other ∙ ap (onto_first b) later.2) ∙ one_more (later.0) later.1
    ]
  where
    one_more : (first : List ℕ) (pieces : List (List ℕ)) → nothing ((b ∷ first) ∷ pieces) now ≡ Err (next now)
    one_more first [] = refl
    one_more first (piece ∷ pieces) = refl

-- where a line has bytes left, it has a word left
pub not_last : (p : ℕ → Bool) (now : Unread) (rest : List ℕ) → now.words ≡ slice_split p rest → end_words now ≡ Err (here now)
not_last p now rest is = ap (λ l. no_word l now) (is ∙ (some_piece p rest).2)
