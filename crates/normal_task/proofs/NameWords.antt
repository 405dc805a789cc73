-- Names as files spell them are words, and so are the names of new predicates.
use Rattle.std.proofs.Common.{◌≡◌, ℕ, zero, suc, ◌+◌, ◌/◌, ◌%◌, ◌<◌, Bool, true, false, ◌&&◌, List, [], ◌∷◌, ◌++◌, refl, arith}
use Rattle.std.specs.Prelude.{nat_lt, nat_le, ◌==◌, All, codes, if◌then◌else◌}
use Rattle.std.specs.Fmt.{decimal, digits, digits_onto, digit_glyph}
use Rattle.std.specs.List.{list_all}
use Rattle.std.proofs.lemmas.Bool.{and_parts, and_from, le-leb}
use Rattle.std.proofs.lemmas.List.Elements.{All-head, All-tail}
use Rattle.std.proofs.lemmas.Nat.{mod_below}
use Rattle.pddl_lexer.specs.Text.{is_word_byte}
use Rattle.pddl_syntax.specs.declared.types.Domain.{Domain}
use Rattle.pddl_syntax.specs.declared.types.Named.{Named}
use Rattle.pddl_syntax.specs.declared.types.Problem.{Problem}
use Rattle.pddl_syntax.specs.declared.types.Typed.{Typed}
use Rattle.pddl_syntax.specs.Words.{Name, is_name, is_name_byte}
use Rattle.pddl_syntax.specs.Objects.{objects}
use Rattle.pddl_syntax.specs.Spelled.{IsSpelled, IsWellSpelled, IsWellSpelledProblem}
use Rattle.normal_task.specs.Lawful.{is_word}
use Rattle.normal_task.specs.Numbers.{object_names}
use Rattle.normal_task.proofs.Alls.{all-both, all-weaker, all-images}

abbrev printable : ℕ → Bool
printable byte = nat_le 33 byte && nat_le byte 126

-- ---- names

word-byte : (byte : ℕ) → is_name_byte byte ≡ true → printable byte ≡ true
word-byte byte is =
    let word = (and_parts (is_word_byte byte) _ is).0 in
    let first = (and_parts _ _ word).0 in
    let second = (and_parts _ _ first).0 in
    (and_parts (printable byte) _ second).0

name-word : (name : Name) → is_name name ≡ true → is_word name ≡ true
name-word [] is = absurd cc
name-word (byte ∷ more) is =
    let first = (and_parts _ _ is).0 in
    let second = (and_parts _ _ first).0 in
    let third = (and_parts _ _ second).0 in
    let bytes = (and_parts (list_all is_name_byte (byte ∷ more)) _ third).0 in
    all-weaker is_name_byte printable word-byte (byte ∷ more) bytes

pub spelled-word : (named : Named) → IsSpelled named → is_word named.name ≡ true
spelled-word named spelled = name-word named.name (and_parts (is_name named.name) _ spelled).0

-- what holds of all items, as a test
pub all-tested : {X : Type 0} (P : X → Type 0) (test : X → Bool) → ((x : X) → P x → test x ≡ true) → (xs : List X) → All P xs → list_all test xs ≡ true
all-tested P test one [] all = refl
all-tested P test one (x ∷ xs) all = and_from (test x) (list_all test xs) (one x (All-head P x xs all)) (all-tested P test one xs (All-tail P x xs all))

pub objects-words : (domain : Domain) (problem : Problem) → IsWellSpelled domain → IsWellSpelledProblem problem → list_all is_word (object_names domain problem) ≡ true
objects-words domain problem spelled spelled_problem =
    let word : Typed → Bool = λ object. is_word object.name.name in
    all-images word is_word (λ (object : Typed). object.name.name) (λ object is. is) (objects domain problem)
    (all-both word domain.constants problem.objects
    (all-tested (λ (object : Typed). IsSpelled object.name) word (λ object is. spelled-word object.name is) domain.constants spelled.constants)
    (all-tested (λ (object : Typed). IsSpelled object.name) word (λ object is. spelled-word object.name is) problem.objects spelled_problem.objects))

-- ---- numbers

glyph-printable : (b : Bool) (digit : ℕ) → digit < 10 → printable (if b then 48 + digit else 87 + digit) ≡ true
glyph-printable true digit small = and_from (nat_le 33 (48 + digit)) (nat_le (48 + digit) 126) (le-leb 33 (48 + digit) (omega arith)) (le-leb (48 + digit) 126 (omega (arith, small)))
glyph-printable false digit small = and_from (nat_le 33 (87 + digit)) (nat_le (87 + digit) 126) (le-leb 33 (87 + digit) (omega arith)) (le-leb (87 + digit) 126 (omega (arith, small)))

onto-printable : (most number : ℕ) (after : List ℕ) → list_all printable after ≡ true → list_all printable (digits_onto most 10 false number after) ≡ true
onto-printable zero number after is = is
onto-printable (suc most) number after is = by (number / 10 == 0) (onto-printable most (number / 10) (digit_glyph false (number % 10) ∷ after) one_more)
  where
    one_more : list_all printable (digit_glyph false (number % 10) ∷ after) ≡ true
    one_more = and_from (printable (digit_glyph false (number % 10))) (list_all printable after) (glyph-printable (nat_lt (number % 10) 10) (number % 10) (mod_below number 10 (omega arith))) is

    by : (last : Bool) → list_all printable (digits_onto most 10 false (number / 10) (digit_glyph false (number % 10) ∷ after)) ≡ true →
        list_all printable (if last then digit_glyph false (number % 10) ∷ after else digits_onto most 10 false (number / 10) (digit_glyph false (number % 10) ∷ after)) ≡ true
    by true rest = one_more
    by false rest = rest

decimal-printable : (number : ℕ) → list_all printable (decimal number) ≡ true
unfolding digits
decimal-printable number = onto-printable 64 number [] refl

-- the name of a new predicate is a word
pub fresh-word : (number : ℕ) → is_word (codes "new-axiom@" ++ decimal number) ≡ true
fresh-word number = all-both printable (codes "new-axiom@") (decimal number) refl (decimal-printable number)
