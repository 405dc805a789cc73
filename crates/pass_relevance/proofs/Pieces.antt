-- A loop over numbers that adds a piece for each.
use Rattle.std.proofs.Common.{◌≡◌, ℕ, ◌+◌, List, ◌++◌, append_assoc, sym, ap, ◌∙◌}
use Rattle.std.specs.List.{flat_map, range_with_len}
use Rattle.lists.proofs.LoopSteps.{flat_map_range_next}

pub one_more : {X : Type 0} (piece : ℕ → List X) (start before after : List X) (n : ℕ) → before ≡ start ++ flat_map piece (range_with_len 0 n) → after ≡ before ++ piece n → after ≡ start ++ flat_map piece (range_with_len 0 (n + 1))
one_more piece start before after n is more =
    more ∙ ap (λ l. l ++ piece n) is ∙ append_assoc start (flat_map piece (range_with_len 0 n)) (piece n) ∙ ap (λ l. start ++ l) (sym (flat_map_range_next piece n))
