-- The own faults of a list, one member at a time.
use Rattle.std.proofs.Common.{◌≡◌, ◌<◌, List, [], ◌∷◌, length, true, false, Err, refl, arith}
use Rattle.pddl_lexer.specs.declared.position.At.{At}
use Rattle.pddl_lexer.specs.Members.{Members, NoMore, WordThen, ListThen, is_empty, word, rest}
use Rattle.pddl_lexer.specs.declared.fault.ShapePlace.{ShapePlace}
use Rattle.pddl_syntax.specs.declared.expected.Expected.{Expected}
use Rattle.pddl_syntax.specs.Shapes.{passes, next, malformed, check_member, check_type, check_all, check_exact, check_typed, check_after_dash}
use Rattle.pddl_syntax.specs.Words.{is_dash}
use Rattle.pddl_syntax.proofs.Rows.{none_left}

module _ (expected : Expected) where
  pub all_none : (m : Members) → is_empty m ≡ true → check_all expected m ≡ passes
  unfolding check_all
  all_none m none = rw (none_left m none) refl

  pub all_first : (m : Members) → is_empty m ≡ false → check_all expected m ≡ next (check_member expected m) (check_all expected (rest m))
  unfolding check_all
  all_first NoMore some = absurd cc
  all_first (WordThen at bytes more) some = refl
  all_first (ListThen at inner more) some = refl

module _ (place : ShapePlace) (at : At) where
  pub exact_missing : (expected : List Expected) (m : Members) → 0 < length expected → is_empty m ≡ true → check_exact place at expected m ≡ Err (malformed place at)
  unfolding check_exact
  exact_missing [] m some none = absurd (omega (arith, some))
  exact_missing (first ∷ more) m some none = rw none refl

module _ (item : Expected) (place : ShapePlace) (at : At) where
  pub typed_none : (m : Members) → is_empty m ≡ true → check_typed item place at m ≡ passes
  unfolding check_typed
  typed_none m none = rw (none_left m none) refl

  pub typed_dash : (m : Members) → is_dash (word m) ≡ true → check_typed item place at m ≡ check_after_dash item place at (rest m)
  unfolding check_typed
  typed_dash NoMore dash = absurd cc
  typed_dash (WordThen here bytes more) dash = rw dash refl
  typed_dash (ListThen here inner more) dash = absurd cc

  pub typed_item : (m : Members) → is_empty m ≡ false → is_dash (word m) ≡ false →
      check_typed item place at m ≡ next (check_member item m) (check_typed item place at (rest m))
  unfolding check_typed
  typed_item NoMore some dash = absurd cc
  typed_item (WordThen here bytes more) some dash = rw dash refl
  typed_item (ListThen here inner more) some dash = refl

  pub dash_none : (m : Members) → is_empty m ≡ true → check_after_dash item place at m ≡ Err (malformed place at)
  unfolding check_after_dash
  dash_none m none = rw (none_left m none) refl

  pub dash_type : (m : Members) → is_empty m ≡ false → check_after_dash item place at m ≡ next (check_type item m) (check_typed item place at (rest m))
  unfolding check_after_dash
  dash_type NoMore some = absurd cc
  dash_type (WordThen here bytes more) some = refl
  dash_type (ListThen here inner more) some = refl
