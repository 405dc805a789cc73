-- What is read has names, in small letters.
use Rattle.std.proofs.Common.{◌≡◌, ℕ, ◌+◌, ◌<◌, ◌≤◌, Bool, true, false, not, ◌==◌, List, [], ◌∷◌, cond, nat_lt, refl, sym, ap, ◌∙◌, subst, arith}
use Rattle.std.specs.Prelude.{All, Option, Some, None, codes, if◌then◌else◌}
use Rattle.std.specs.List.{list_all}
use Rattle.std.specs.Char.{to_ascii_lowercase}
use Rattle.std.proofs.lemmas.Bool.{and_from, and_parts, le-leb, ne_eqb, ltb-true, ltb-false}
use Rattle.std.proofs.lemmas.Cmp.{nat_list_eq_equiv}
use Rattle.std.proofs.lemmas.List.Elements.{All-nil, All-cons}
use Rattle.pddl_lexer.specs.Positions.{nowhere}
use Rattle.pddl_lexer.specs.declared.position.At.{At}
use Rattle.pddl_lexer.proofs.Lowered.{lowered_twice}
use Rattle.pddl_lexer.specs.Members.{Members, NoMore, WordThen, ListThen, is_list, position, word, inside, rest}
use Rattle.pddl_lexer.specs.Text.{is_word_byte}
use Rattle.pddl_lexer.specs.declared.fault.Kind.{Kind}
use Rattle.pddl_lexer.specs.declared.fault.Kind.TheVariants.{Shape, BadName, ReservedWord, UnsupportedSection}
use Rattle.pddl_lexer.specs.declared.fault.ShapePlace.{ShapePlace}
use Rattle.pddl_lexer.specs.declared.fault.ShapePlace.TheVariants as places
use Rattle.pddl_syntax.specs.declared.expected.Expected.TheVariants as expected
use Rattle.pddl_syntax.specs.declared.types.Head.{Head}
use Rattle.pddl_syntax.specs.declared.types.Typed.{Typed}
use Rattle.pddl_syntax.specs.Outcome.{Reads, made}
use Rattle.pddl_syntax.specs.Shapes.{Check, passes, next, name_fault, word_fault, check_member, check_type, check_typed, check_after_dash, check_head}
use Rattle.pddl_syntax.specs.Spelled.{is_spelled, IsSpelled, IsSpelledType}
use Rattle.pddl_syntax.specs.Values.{named, with_types, listed_types, group_types, typed, typed_after_type, eithers, names, head}
use Rattle.pddl_syntax.specs.Words.{is_dash, is_same, is_mark, is_name_byte, begins_with_colon, is_name, is_word, lowered, is_one_of, reserved}
use Rattle.pddl_syntax.proofs.Given.{own_reads, made_reads, first_passes, rest_passes, no_kind, unless_empty}

-- ---- lowered names

-- a small letter is a byte of a word
letter_stands : (byte : ℕ) → 97 ≤ byte → byte ≤ 122 → is_word_byte byte ≡ true
letter_stands byte low high =
    rw (le-leb 33 byte (omega (arith, low)), le-leb byte 126 (omega (arith, high)), ne_eqb byte 40 (λ e. omega (arith, e, low)), ne_eqb byte 41 (λ e. omega (arith, e, low)), ne_eqb byte 59 (λ e. omega (arith, e, low))) refl

lowered_byte : (byte : ℕ) → is_word_byte byte ≡ true → is_word_byte (to_ascii_lowercase byte) ≡ true
lowered_byte byte stands = by (nat_lt byte 65) (nat_lt byte 91) refl refl
  where
    by : (small middle : Bool) → nat_lt byte 65 ≡ small → nat_lt byte 91 ≡ middle → is_word_byte (cond small byte (cond middle (byte + 32) byte)) ≡ true
    by true middle low high = stands
    by false true low high =
        let above : 65 ≤ byte = ltb-false byte 65 low in
        let below : byte < 91 = ltb-true byte 91 high in
        letter_stands (byte + 32) (omega (arith, above)) (omega (arith, below))
    by false false low high = stands

-- lowering makes no byte a mark, and takes none away
mark_kept : (byte mark : ℕ) → mark < 65 → (to_ascii_lowercase byte == mark) ≡ (byte == mark)
mark_kept byte mark below = by (nat_lt byte 65) (nat_lt byte 91) refl
  where
    by : (small middle : Bool) → nat_lt byte 65 ≡ small → (cond small byte (cond middle (byte + 32) byte) == mark) ≡ (byte == mark)
    by true middle low = refl
    by false true low =
        let above : 65 ≤ byte = ltb-false byte 65 low in
        ne_eqb (byte + 32) mark (λ e. omega (arith, e, above, below)) ∙ sym (ne_eqb byte mark (λ e. omega (arith, e, above, below)))
    by false false low = refl

marks_kept : (byte : ℕ) → is_mark (to_ascii_lowercase byte) ≡ is_mark byte
marks_kept byte =
    let question = mark_kept byte 63 (omega arith) in
    let at = mark_kept byte 64 (omega arith) in
    let comma = mark_kept byte 44 (omega arith) in
    cc (question, at, comma)

lowered_bytes : (bytes : List ℕ) → list_all is_name_byte bytes ≡ true → list_all is_name_byte (lowered bytes) ≡ true
lowered_bytes [] all = refl
lowered_bytes (byte ∷ bytes) all =
    let here = (and_parts (is_name_byte byte) (list_all is_name_byte bytes) all).0 in
    let of_word = lowered_byte byte (and_parts (is_word_byte byte) (not (is_mark byte)) here).0 in
    let no_mark = ap not (marks_kept byte) ∙ (and_parts (is_word_byte byte) (not (is_mark byte)) here).1 in
    and_from (is_name_byte (to_ascii_lowercase byte)) (list_all is_name_byte (lowered bytes))
    (and_from (is_word_byte (to_ascii_lowercase byte)) (not (is_mark (to_ascii_lowercase byte))) of_word no_mark)
    (lowered_bytes bytes (and_parts (is_name_byte byte) (list_all is_name_byte bytes) all).1)

lowered_none : (bytes : List ℕ) → is_same (lowered bytes) [] ≡ is_same bytes []
lowered_none [] = refl
lowered_none (byte ∷ bytes) = refl

lowered_mark : (mark : ℕ) → mark < 65 → (bytes : List ℕ) → is_same (lowered bytes) (mark ∷ []) ≡ is_same bytes (mark ∷ [])
lowered_mark mark below [] = refl
lowered_mark mark below (byte ∷ bytes) =
    let here = mark_kept byte mark below in
    let rest = lowered_none bytes in
    cc (here, rest)

lowered_colon : (bytes : List ℕ) → begins_with_colon (lowered bytes) ≡ begins_with_colon bytes
lowered_colon [] = refl
lowered_colon (byte ∷ bytes) = mark_kept byte 58 (omega arith)

lowered_name : (bytes : List ℕ) → is_name bytes ≡ true → is_name (lowered bytes) ≡ true
lowered_name bytes e =
    let a = (and_parts _ (not (is_same bytes (codes "="))) e).0 in
    let b = (and_parts _ (not (is_same bytes (codes "-"))) a).0 in
    let c = (and_parts _ (not (is_same bytes [])) b).0 in
    let all = (and_parts (list_all is_name_byte bytes) (not (begins_with_colon bytes)) c).0 in
    let all_kept = lowered_bytes bytes all in
    let colon = lowered_colon bytes in
    let none = lowered_none bytes in
    let dash = lowered_mark 45 (omega arith) bytes in
    let equals = lowered_mark 61 (omega arith) bytes in
    cc (all, all_kept, colon, none, dash, equals, e)

name_spelled : (bytes : List ℕ) → is_name bytes ≡ true → is_spelled (lowered bytes) ≡ true
name_spelled bytes e =
    let same = ap (λ twice. is_same twice (lowered bytes)) (lowered_twice bytes) ∙ nat_list_eq_equiv.refl (lowered bytes) in
    and_from (is_name (lowered bytes)) (is_same (lowered (lowered bytes)) (lowered bytes)) (lowered_name bytes e) same

pub named_spelled : (m : Members) → is_name (word m) ≡ true → IsSpelled (named m)
named_spelled m e = name_spelled (word m) e

-- ---- places of names

name_tested : (test : Bool) (kind : Kind) → (if test then None else Some kind) ≡ None → test ≡ true
name_tested true kind e = refl
name_tested false kind e = absurd cc

none_reserved : (test : Bool) (kind : Kind) (more : Option Kind) → (if test then Some kind else more) ≡ None → more ≡ None
none_reserved true kind more e = absurd cc
none_reserved false kind more e = e

word_tested : (is_a_list : Bool) (list word : Option Kind) → (if is_a_list then list else word) ≡ None → (is_a_list ≡ true → list ≡ None → ⊥) → word ≡ None
word_tested true list word e never = absurd (never refl e)
word_tested false list word e never = e

symbol_passes : (place : ShapePlace) (m : Members) → check_member (expected.Symbol place) m ≡ passes → is_name (word m) ≡ true
symbol_passes place m e =
    let none = no_kind (position m) _ e in
    let worded = word_tested (is_list m) (Some (Shape place)) (word_fault (expected.Symbol place) (word m)) none (λ is impossible. cc) in
    name_tested (is_name (word m)) BadName (none_reserved (is_one_of reserved (word m)) ReservedWord (name_fault (word m)) worded)

pub name_passes : (place : ShapePlace) (m : Members) → check_member (expected.Name place) m ≡ passes → is_name (word m) ≡ true
name_passes place m e =
    let none = no_kind (position m) _ e in
    let worded = word_tested (is_list m) (Some (Shape place)) (word_fault (expected.Name place) (word m)) none (λ is impossible. cc) in
    name_tested (is_name (word m)) BadName worded

always_a_kind : (test : Bool) (one other : Kind) → (if test then Some one else Some other) ≡ None → ⊥
always_a_kind true one other e = cc
always_a_kind false one other e = cc

-- behind a name stands a name as its type, and no list
type_spelled : (place : ShapePlace) (m : Members) → check_type (expected.Name place) m ≡ passes → All IsSpelled (listed_types m)
type_spelled place NoMore e =
    All-cons IsSpelled (named NoMore) [] (named_spelled NoMore (name_tested (is_name []) BadName (no_kind nowhere (name_fault []) e))) (All-nil IsSpelled)
type_spelled place (WordThen at word more) e =
    All-cons IsSpelled (named (WordThen at word more)) [] (named_spelled (WordThen at word more) (name_tested (is_name word) BadName (no_kind at (name_fault word) e))) (All-nil IsSpelled)
type_spelled place (ListThen at inside more) e =
    absurd (always_a_kind (is_word (codes "either") inside) UnsupportedSection (Shape places.TypeName) (no_kind at _ e))

-- ---- names with types

module _ (place section : ShapePlace) (at : At) where
  abbrev name_check : Members → Check
  name_check = check_typed (expected.Name place) section at

  after_dash_spelled : (m : Members) → check_after_dash (expected.Name place) section at m ≡ passes → All IsSpelled (listed_types m)
  unfolding check_after_dash
  after_dash_spelled NoMore e = absurd cc
  after_dash_spelled (WordThen here word more) e = type_spelled place (WordThen here word more) (first_passes _ _ e)
  after_dash_spelled (ListThen here inside more) e = type_spelled place (ListThen here inside more) (first_passes _ _ e)

  -- the type of a group is a name
  group_spelled : (m : Members) → name_check m ≡ passes → All IsSpelled (group_types m)
  unfolding check_typed
  group_spelled NoMore e = All-nil IsSpelled
  group_spelled (WordThen here word more) e = by (is_dash word) (group_spelled more) e
    where
      by : (dash : Bool) → (name_check more ≡ passes → All IsSpelled (group_types more)) →
          (if dash then check_after_dash (expected.Name place) section at more else next (check_member (expected.Name place) (WordThen here word more)) (name_check more)) ≡ passes →
          All IsSpelled (if dash then listed_types more else group_types more)
      by true others found = after_dash_spelled more found
      by false others found = others (rest_passes (check_member (expected.Name place) (WordThen here word more)) (name_check more) found)
  group_spelled (ListThen here inside more) e =
      group_spelled more (rest_passes (check_member (expected.Name place) (ListThen here inside more)) (name_check more) e)

  entry_spelled : (m more : Members) → check_member (expected.Name place) m ≡ passes → name_check more ≡ passes → All IsSpelledType (typed more) → All IsSpelledType (with_types (group_types more) (named m) ∷ typed more)
  entry_spelled m more here passing others =
      All-cons IsSpelledType (with_types (group_types more) (named m)) (typed more)
      (named_spelled m (name_passes place m here), group_spelled more passing)
      others

  mutual
    unfolding check_typed check_after_dash typed typed_after_type

    typed_spelled : (m : Members) → name_check m ≡ passes → All IsSpelledType (typed m)
    typed_spelled NoMore e = All-nil IsSpelledType
    typed_spelled (WordThen spot word more) e = by (is_dash word) (after_type_spelled more) (typed_spelled more) e
      where
        by : (dash : Bool) → (check_after_dash (expected.Name place) section at more ≡ passes → All IsSpelledType (typed_after_type more)) → (name_check more ≡ passes → All IsSpelledType (typed more)) →
            (if dash then check_after_dash (expected.Name place) section at more else next (check_member (expected.Name place) (WordThen spot word more)) (name_check more)) ≡ passes →
            All IsSpelledType (if dash then typed_after_type more else with_types (group_types more) (named (WordThen spot word more)) ∷ typed more)
        by true after others found = after found
        by false after others found =
            let passing = rest_passes _ _ found in
            entry_spelled (WordThen spot word more) more (first_passes _ _ found) passing (others passing)
    typed_spelled (ListThen spot inside more) e =
        let here = first_passes (check_member (expected.Name place) (ListThen spot inside more)) (name_check more) e in
        let passing = rest_passes (check_member (expected.Name place) (ListThen spot inside more)) (name_check more) e in
        entry_spelled (ListThen spot inside more) more here passing (typed_spelled more passing)

    after_type_spelled : (m : Members) → check_after_dash (expected.Name place) section at m ≡ passes → All IsSpelledType (typed_after_type m)
    after_type_spelled NoMore e = All-nil IsSpelledType
    after_type_spelled (WordThen here word more) e = typed_spelled more (rest_passes _ _ e)
    after_type_spelled (ListThen here inside more) e = typed_spelled more (rest_passes _ _ e)

pub names_spelled : (at : At) (m : Members) (types : List Typed) → names at m ≡ Reads types → All IsSpelledType types
names_spelled at m types e =
    let read = own_reads (check_typed (expected.Name places.NameList) places.Section at m) (Reads (typed m)) types e in
    let same : typed m ≡ types = cc (read.1) in
    subst (All IsSpelledType) same (typed_spelled places.NameList places.Section at m read.0)

-- the names alone, without their types
pub without_types : (types : List Typed) → All IsSpelledType types → All (λ type. IsSpelled type.name) types
without_types types all = λ k d within. (all k d within).0

-- ---- heads

pub head_spelled : (m : Members) (h : Head) → head m ≡ Reads h → IsSpelled h.name
unfolding head
head_spelled m h e =
    let made_of : Head = record { name = named (inside m); variables = typed (rest (inside m)) } in
    let read = own_reads (check_head (position m) (inside m)) (made (λ none. made_of) (eithers (rest (inside m)))) h e in
    let checked = unless_empty (inside m) _ _ read.0 in
    let named_well = symbol_passes places.Head (inside m) (first_passes _ _ checked) in
    let same : made_of ≡ h = (made_reads (λ none. made_of) (eithers (rest (inside m))) h read.1).1.1 in
    subst (λ (k : Head). IsSpelled k.name) same (named_spelled (inside m) named_well)
