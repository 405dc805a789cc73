-- Whether a list or a section stands among members, one member at a time, and the first fault where a section is missing.
use Rattle.std.proofs.Common.{◌≡◌, ℕ, true, false, List, [], ◌∷◌, refl}
use Rattle.std.specs.Prelude.{◌||◌, ◌&&◌}
use Rattle.pddl_lexer.specs.Members.{Members, NoMore, WordThen, ListThen, is_empty, is_list, inside, rest}
use Rattle.pddl_lexer.specs.declared.fault.Fault.{Fault}
use Rattle.pddl_syntax.specs.Outcome.{Reading, Reads, Faults, own, with_last, first}
use Rattle.pddl_syntax.specs.Words.{is_word}
use Rattle.pddl_syntax.proofs.Readings.{◌>>=◌}
use Rattle.pddl_syntax.proofs.Rows.{none_left, word_then, list_then}
use Rattle.pddl_parser.specs.ProblemReading.{has_list, has_section, check_list}

pub list_none : (m : Members) → is_empty m ≡ true → has_list m ≡ false
unfolding has_list
list_none m none = rw (none_left m none) refl

pub list_here : (m : Members) → is_list m ≡ true → has_list m ≡ true
unfolding has_list
list_here m listed = rw (list_then m listed) refl

pub list_after : (m : Members) → is_empty m ≡ false → is_list m ≡ false → has_list m ≡ has_list (rest m)
unfolding has_list
list_after m some plain = rw (word_then m some plain) refl

pub has_none : (keyword : List ℕ) (m : Members) → is_empty m ≡ true → has_section keyword m ≡ false
unfolding has_section
has_none keyword m none = rw (none_left m none) refl

pub has_first : (keyword : List ℕ) (m : Members) → is_empty m ≡ false → has_section keyword m ≡ ((is_list m && is_word keyword (inside m)) || has_section keyword (rest m))
unfolding has_section
has_first keyword NoMore some = absurd cc
has_first keyword (WordThen at bytes more) some = refl
has_first keyword (ListThen at inner more) some = refl

pub first_with_last : {A : Type 0} (last : List Fault) (r : Reading A) → first (with_last last r) ≡ (first r >>= λ x. first (own (check_list last) (Reads x)))
first_with_last [] (Reads x) = refl
first_with_last [] (Faults fault more) = refl
first_with_last (fault ∷ more) (Reads x) = refl
first_with_last (fault ∷ more) (Faults other others) = refl
