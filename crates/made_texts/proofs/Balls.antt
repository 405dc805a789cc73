-- The names of balls, one after another.
use Rattle.std.proofs.Common.{◌≡◌, ℕ, zero, suc, ◌+◌, List, ◌++◌, append_assoc, append-nil, sym, ap, ◌∙◌, arith}
use Rattle.std.specs.List.{flat_map, range_with_len}
use Rattle.made_texts.specs.Texts.{ball, each_ball}

last : {X : Type 0} (f : ℕ → List X) (a n j : ℕ) → a + n ≡ j → flat_map f (range_with_len a (suc n)) ≡ flat_map f (range_with_len a n) ++ f j
last f a zero j e = let same : a ≡ j = omega arith in append-nil (f a) ∙ ap f same
last f a (suc n) j e = ap (λ l. f a ++ l) (last f (a + 1) n j (omega arith)) ∙ sym (append_assoc (f a) (flat_map f (range_with_len (a + 1) n)) (f j))

-- one ball more
pub ball_more : (before after text text' text'' : List ℕ) (n : ℕ) → text' ≡ text ++ each_ball n before after → text'' ≡ text' ++ (before ++ ball (n + 1) ++ after) → text'' ≡ text ++ each_ball (n + 1) before after
ball_more before after text text' text'' n so_far grows =
    let more : n + 1 ≡ suc n = omega arith in
    let f : ℕ → List ℕ = λ number. before ++ ball number ++ after in
    grows ∙ ap (λ t. t ++ f (n + 1)) so_far ∙ append_assoc text (each_ball n before after) (f (n + 1))
    ∙ ap (λ l. text ++ l) (sym (last f 1 n (n + 1) (omega arith)) ∙ ap (λ k. each_ball k before after) (sym more))
