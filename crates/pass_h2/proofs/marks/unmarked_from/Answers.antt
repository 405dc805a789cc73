-- The bits of the word from this place on are clear up to its lowest one.
use Rattle.std.proofs.Common.{ℕ, ◌-◌, ◌/◌, ◌%◌, ◌^◌, ◌<◌, w64, sym, ap, ◌∙◌, arith}
use Rattle.std.specs.Int.{bit_at}
use Rattle.std.proofs.lemmas.Nat.{shr_le}
use Rattle.std.proofs.lemmas.Nat.Bits.{bit_at-zero, bit_at-trailing_zeros}
use Rattle.pass_h2.proofs.Bits.{bit_from}
use Rattle.pass_h2.proofs.marks.unmarked_from.Goals as goal

pub returns-then-rest-eq0-clause-unmarked : goal.returns-then-rest-eq0-clause-unmarked
returns-then-rest-eq0-clause-unmarked c i from low =
    let p = c.args.place in
    bit_from c.args.words.now p i from (omega (arith, c.min-most.ensures, low)) (ap (λ w. bit_at (w / 2 ^ (p % 64)) (i - p)) (sym c.word_at.ensures) ∙ ap (λ w. bit_at w (i - p)) c.if-rest-eq0.true ∙ bit_at-zero (i - p))

pub returns-else-rest-eq0-clause-unmarked : goal.returns-else-rest-eq0-clause-unmarked
returns-else-rest-eq0-clause-unmarked c i from low =
    let p = c.args.place in
    let rest : ℕ = c.word_at.result / 2 ^ (p % 64) in
    let some : 0 < rest = omega (arith, c.if-rest-eq0.false) in
    let less = shr_le c.word_at.result (p % 64) in
    let small : rest < 2 ^ 64 = omega (arith, less, c.word_at.type_inv) in
    bit_from c.args.words.now p i from (omega (arith, c.min.ensures, c.min-most.ensures, low))
    (ap (λ w. bit_at (w / 2 ^ (p % 64)) (i - p)) (sym c.word_at.ensures) ∙ (bit_at-trailing_zeros w64 rest some small).2 (i - p) (omega (arith, c.min.ensures, from, low)))
