use Rattle.std.proofs.Common.{◌≡◌, ◌==◌, ◌<◌, ℕ, zero, suc, eqb, false, sym, ◌∙◌, refl, arith}
use Rattle.sas_reader.proofs.Cuts.{not_ended}
use Rattle.sas_reader.proofs.reader.Reader.end.Goals as goal

some_left : (n : ℕ) → eqb n 0 ≡ false → 0 < n
some_left zero isnt = absurd cc
some_left (suc n) isnt = omega arith

pub returns-else-is_empty : goal.returns-else-is_empty
returns-else-is_empty c =
    rw (c.into.ensures, c.next_fault.ensures, ← c.self.view_is) (not_ended (λ b. b == 10) _ c.self.inside.rest.now (some_left _ (sym c.is_empty.ensures ∙ c.if-is_empty.false)) refl)
