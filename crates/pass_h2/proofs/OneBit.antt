-- One bit of a word: how it stands after an operation on words, and which bits a word has none of.
use Rattle.std.proofs.Common.{◌≡◌, ℕ, zero, suc, ◌+◌, ◌*◌, ◌%◌, ◌^◌, ◌<◌, Bool, not, ◌&&◌, eqb, bit_and, refl, sym, ap, ◌∙◌, ◌⊎◌, inl, inr, arith}
use Rattle.std.specs.Prelude.{bit_xor, min}
use Rattle.std.specs.Int.{bit_at}
use Rattle.std.proofs.lemmas.Bool.{ne_eqb}
use Rattle.std.proofs.lemmas.Nat.{pow_pos}
use Rattle.std.proofs.lemmas.Nat.Bits.{and_pow, bit_at-lt, bit_at_and, bit_at_xor}
use Rattle.pass_h2.specs.Bits.{has_bit}

-- whether a bit is set
abbrev pub is_set : ℕ → Bool
is_set n = not (eqb n 0)

zero_or_one : (n : ℕ) → n < 2 → (n ≡ 0) ⊎ (n ≡ 1)
zero_or_one zero below = inl refl
zero_or_one (suc zero) below = inr refl
zero_or_one (suc (suc n)) below = absurd (omega (arith, below))

-- two tests of two bits that agree on each of their four values agree
agree : (f g : ℕ → ℕ → Bool) → f 0 0 ≡ g 0 0 → f 0 1 ≡ g 0 1 → f 1 0 ≡ g 1 0 → f 1 1 ≡ g 1 1 → (x y : ℕ) → x < 2 → y < 2 → f x y ≡ g x y
agree f g none second first each x y low-x low-y = by_values (zero_or_one x low-x) (zero_or_one y low-y)
  where
    at : (a b : ℕ) → f a b ≡ g a b → x ≡ a → y ≡ b → f x y ≡ g x y
    at a b same is-x is-y = ap (λ x. f x y) is-x ∙ ap (f a) is-y ∙ same ∙ sym (ap (λ x. g x y) is-x ∙ ap (g a) is-y)

    by_values : (x ≡ 0) ⊎ (x ≡ 1) → (y ≡ 0) ⊎ (y ≡ 1) → f x y ≡ g x y
    by_values (inl a) (inl b) = at 0 0 none a b
    by_values (inl a) (inr b) = at 0 1 second a b
    by_values (inr a) (inl b) = at 1 0 first a b
    by_values (inr a) (inr b) = at 1 1 each a b

pub has_bit_is : (word bit : ℕ) → has_bit word bit ≡ is_set (bit_at word bit)
has_bit_is word bit = ap is_set (and_pow word bit) ∙ by_value (bit_at word bit) (zero_or_one (bit_at word bit) (bit_at-lt word bit))
  where
    by_value : (n : ℕ) → (n ≡ 0) ⊎ (n ≡ 1) → is_set (n * 2 ^ bit) ≡ is_set n
    by_value n (inl none) = let same : 0 * 2 ^ bit ≡ 0 = omega arith in ap (λ n. is_set (n * 2 ^ bit)) none ∙ ap is_set same ∙ sym (ap is_set none)
    by_value n (inr one) =
        let some = pow_pos bit in
        let same : 1 * 2 ^ bit ≡ 2 ^ bit = omega arith in
        ap (λ n. is_set (n * 2 ^ bit)) one ∙ ap is_set same ∙ ap not (ne_eqb (2 ^ bit) 0 (λ z. absurd (omega (arith, some, z)))) ∙ sym (ap is_set one)

pub bit_of_both : (a b bit : ℕ) → has_bit (bit_and a b) bit ≡ (has_bit a bit && has_bit b bit)
bit_of_both a b bit =
    has_bit_is (bit_and a b) bit ∙ ap is_set (bit_at_and a b bit)
    ∙ agree (λ x y. is_set (min x y)) (λ x y. is_set x && is_set y) refl refl refl refl (bit_at a bit) (bit_at b bit) (bit_at-lt a bit) (bit_at-lt b bit)
    ∙ sym (ap (λ x. x && has_bit b bit) (has_bit_is a bit) ∙ ap (λ y. is_set (bit_at a bit) && y) (has_bit_is b bit))

pub bit_without : (a b bit : ℕ) → has_bit (bit_xor a (bit_and a b)) bit ≡ (has_bit a bit && not (has_bit b bit))
bit_without a b bit =
    has_bit_is (bit_xor a (bit_and a b)) bit ∙ ap is_set (bit_at_xor a (bit_and a b) bit ∙ ap (λ y. (bit_at a bit + y) % 2) (bit_at_and a b bit))
    ∙ agree (λ x y. is_set ((x + min x y) % 2)) (λ x y. is_set x && not (is_set y)) refl refl refl refl (bit_at a bit) (bit_at b bit) (bit_at-lt a bit) (bit_at-lt b bit)
    ∙ sym (ap (λ x. x && not (has_bit b bit)) (has_bit_is a bit) ∙ ap (λ y. is_set (bit_at a bit) && not y) (has_bit_is b bit))
