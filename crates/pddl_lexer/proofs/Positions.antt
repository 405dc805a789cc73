-- The order of positions.
use Rattle.std.proofs.Common.{◌≡◌, Bool, true, false, cond, refl, arith}
use Rattle.pddl_lexer.specs.declared.position.At.{At}
use Rattle.pddl_lexer.specs.Positions.{is_not_after, earlier_of}

not_after_chain : (a b c : At) → is_not_after a b ≡ true → is_not_after b c ≡ true → is_not_after a c ≡ true
not_after_chain a b c first second = grind (arith, first, second)

after_chain : (a b c : At) → is_not_after a b ≡ false → is_not_after b c ≡ false → is_not_after a c ≡ false
after_chain a b c first second = grind (arith, first, second)

-- of three positions it doesn't matter which two are compared first
pub earlier_chain : (a b c : At) → earlier_of (earlier_of a b) c ≡ earlier_of a (earlier_of b c)
earlier_chain a b c = by (is_not_after a b) (is_not_after b c) refl refl
  where
    by : (first second : Bool) → is_not_after a b ≡ first → is_not_after b c ≡ second → earlier_of (cond first a b) c ≡ earlier_of a (cond second b c)
    by true true ab bc = rw (not_after_chain a b c ab bc, ab) refl
    by true false ab bc = refl
    by false true ab bc = rw (ab, bc) refl
    by false false ab bc = rw (after_chain a b c ab bc, bc) refl
