-- One number more of a range that a list is mapped from.
use Rattle.std.proofs.Common.{◌≡◌, ℕ, ◌+◌, List, [], ◌∷◌, ◌++◌, map, append_assoc, sym, ap, ◌∙◌, arith}
use Rattle.std.specs.List.{range_with_len}
use Rattle.std.proofs.lemmas.List.FromFn.{map-range_with_len_more}

-- a loop that adds at the end what the next number is mapped to
pub one_more : {Y : Type 0} (f : ℕ → Y) (before after : List Y) (y : Y) (n : ℕ) → before ≡ map f (range_with_len 0 n) → after ≡ before ++ y ∷ [] → y ≡ f n → after ≡ map f (range_with_len 0 (n + 1))
one_more f before after y n is more same = more ∙ ap (λ l. l ++ y ∷ []) is ∙ ap (λ y. map f (range_with_len 0 n) ++ y ∷ []) same ∙ sym (map-range_with_len_more f 0 n n (omega arith))

-- the same behind what was there
pub one_more_behind : {Y : Type 0} (f : ℕ → Y) (start before after : List Y) (n : ℕ) → before ≡ start ++ map f (range_with_len 0 n) → after ≡ before ++ f n ∷ [] → after ≡ start ++ map f (range_with_len 0 (n + 1))
one_more_behind f start before after n is more =
    more ∙ ap (λ l. l ++ f n ∷ []) is ∙ append_assoc start (map f (range_with_len 0 n)) (f n ∷ []) ∙ ap (λ l. start ++ l) (sym (map-range_with_len_more f 0 n n (omega arith)))
