-- Lists of types in a list of variables, a member at a time.
use Rattle.std.proofs.Common.{◌≡◌, true, false, List, Ok, Err, refl, ap}
use Rattle.pddl_lexer.specs.Members.{Members, is_empty, is_list, position, inside, rest}
use Rattle.pddl_lexer.specs.declared.fault.Fault.{Fault}
use Rattle.lists.specs.declared.stop.Stop.{Stop}
use Rattle.lists.specs.declared.stop.Stop.TheVariants as stops
use Rattle.pddl_syntax.specs.declared.types.Head.{Head}
use Rattle.pddl_syntax.specs.declared.types.Named.{Named}
use Rattle.pddl_syntax.specs.declared.types.Typed.{Typed}
use Rattle.pddl_syntax.specs.Outcome.{Reading, Reads, Faults, made, both, own, first}
use Rattle.pddl_syntax.specs.Shapes.{Check, passes, check_either}
use Rattle.pddl_syntax.specs.Values.{eithers}
use Rattle.pddl_syntax.proofs.Readings.{◌>>=◌}
use Rattle.pddl_syntax.proofs.Rows.{none_left, word_then, list_then}

-- a list that passes, and those after it
passed : (check : Check) (more : Reading (Unit {0})) → check ≡ passes → first (both (λ one others. others) (own check (Reads (tt {0}))) more) ≡ first more
passed (Ok none) (Reads others) e = refl
passed (Ok none) (Faults fault others) e = refl
passed (Err fault) more e = absurd cc

failed : (check : Check) (fault : Fault) (more : Reading (Unit {0})) → check ≡ Err fault → first (both (λ one others. others) (own check (Reads (tt {0}))) more) ≡ Err (stops.Fault fault)
failed (Ok none) fault more e = absurd cc
failed (Err other) fault (Reads others) e = let same : other ≡ fault = cc in ap (λ (f : Fault). Err (stops.Fault f)) same
failed (Err other) fault (Faults later others) e = let same : other ≡ fault = cc in ap (λ (f : Fault). Err (stops.Fault f)) same

pub of_none : (m : Members) → is_empty m ≡ true → first (eithers m) ≡ Ok (tt {0})
of_none m none = rw (none_left m none) refl

pub of_word : (m : Members) → is_empty m ≡ false → is_list m ≡ false → first (eithers m) ≡ first (eithers (rest m))
of_word m some no_list = rw (word_then m some no_list) refl

pub of_list : (m : Members) → is_list m ≡ true → check_either (position m) (inside m) ≡ passes → first (eithers m) ≡ first (eithers (rest m))
of_list m is e = rw (list_then m is) (passed (check_either (position m) (inside m)) (eithers (rest m)) e)

pub at_fault : (m : Members) (fault : Fault) → is_list m ≡ true → check_either (position m) (inside m) ≡ Err fault → first (eithers m) ≡ Err (stops.Fault fault)
at_fault m fault is e = rw (list_then m is) (failed (check_either (position m) (inside m)) fault (eithers (rest m)) e)

-- what stands there where no list is at fault
pub made_of : {A : Type 0} (x : A) (reading : Reading (Unit {0})) → first reading ≡ Ok (tt {0}) → first (made (λ none. x) reading) ≡ Ok x
made_of x (Reads none) e = refl
made_of x (Faults fault more) e = absurd cc

pub made_fails : {A : Type 0} (x : A) (reading : Reading (Unit {0})) (end : Stop Fault) → first reading ≡ Err end → first (made (λ none. x) reading) ≡ Err end
made_fails x (Reads none) end e = absurd cc
made_fails x (Faults fault more) end e = let same : stops.Fault fault ≡ end = cc in ap (λ (f : Stop Fault). Err f) same

abbrev headed : Named → List Typed → Head
headed name variables = record { name = name; variables = variables }

-- a head with what is read of its variables
pub made_head : (name : Named) (variables : List Typed) (reading : Reading (Unit {0})) →
    first (made (λ none. headed name variables) reading) ≡ (first (made (λ none. variables) reading) >>= λ (read : List Typed). Ok (headed name read))
made_head name variables (Reads none) = refl
made_head name variables (Faults fault more) = refl
