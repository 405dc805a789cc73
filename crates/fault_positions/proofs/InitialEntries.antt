-- What the entries of `:init` say, one entry more.
use Rattle.std.proofs.Common.{◌≡◌, ℕ, ◌+◌, ◌<◌, Bool, true, false, ◌||◌, List, [], ◌∷◌, ◌++◌, take, length, get_or, Option, None, Some, if◌then◌else◌, refl, sym, ap, ◌∙◌, append_assoc}
use Rattle.std.specs.List.{list_any, flat_map}
use Rattle.std.specs.Option.{option_or}
use Rattle.std.proofs.Math.Bool.{or-false}
use Rattle.std.proofs.lemmas.List.{append-nil, take_more}
use Rattle.std.proofs.lemmas.List.Folds.{list_any-append}
use Rattle.pddl_lexer.specs.declared.position.At.{At}
use Rattle.pddl_syntax.specs.declared.types.Atom.{Atom}
use Rattle.pddl_syntax.specs.declared.types.Init.{Init}
use Rattle.pddl_syntax.specs.declared.types.Init.TheVariants.{Holds, HoldsNot, Value}
use Rattle.pddl_syntax.specs.Holds.{GroundAtom, is_same_atom, ground}
use Rattle.pddl_syntax.specs.Plan.{is_stated}
use Rattle.pddl_syntax.specs.Step.{value_in}
use Rattle.pddl_syntax.proofs.SameAtoms.{same_atom}
use Rattle.fault_positions.specs.Initial.{denies, denied_position, revalued_position, revalued_after}
use Rattle.fault_positions.specs.Positions.{earlier, earliest}
use Rattle.fault_positions.proofs.Earliest.{earliest_append}

pub stated_then : (atom : GroundAtom) (before : List Init) (entry : Init) →
    list_any (is_stated atom) (before ++ entry ∷ []) ≡ (list_any (is_stated atom) before || is_stated atom entry)
stated_then atom before entry =
    list_any-append (is_stated atom) before (entry ∷ []) ∙ ap (λ b. list_any (is_stated atom) before || b) (or-false (is_stated atom entry))

-- the first of three answers, where the test chooses whether the first one is there
pub first_or : (found : Bool) (value : ℕ) (joined before last : Option ℕ) → joined ≡ option_or before last →
    (if found then Some value else joined) ≡ option_or (if found then Some value else before) last
first_or true value joined before last e = refl
first_or false value joined before last e = e

pub value_then : (before later : List Init) (term : GroundAtom) → value_in (before ++ later) term ≡ option_or (value_in before term) (value_in later term)
value_then [] later term = refl
value_then (Holds atom ∷ before) later term = value_then before later term
value_then (HoldsNot atom at ∷ before) later term = value_then before later term
value_then (Value known value at ∷ before) later term =
    first_or (is_same_atom (ground [] known) term) value (value_in (before ++ later) term) (value_in before term) (value_in later term) (value_then before later term)

or_none : (o : Option ℕ) → option_or o None ≡ o
or_none None = refl
or_none (Some value) = refl

-- an entry that gives no value leaves the values
pub value_as_before : (before : List Init) (entry : Init) (term : GroundAtom) → value_in (entry ∷ []) term ≡ None → value_in (before ++ entry ∷ []) term ≡ value_in before term
value_as_before before entry term none = value_then before (entry ∷ []) term ∙ ap (option_or (value_in before term)) none ∙ or_none (value_in before term)

-- and so does one whose term has a value before
pub value_kept : (before : List Init) (atom : Atom) (value : ℕ) (at : At) (known : ℕ) → value_in before (ground [] atom) ≡ Some known →
    (term : GroundAtom) → value_in (before ++ Value atom value at ∷ []) term ≡ value_in before term
value_kept before atom value at known had term = value_then before (Value atom value at ∷ []) term ∙ by (is_same_atom (ground [] atom) term) refl
  where
    by : (same : Bool) → is_same_atom (ground [] atom) term ≡ same →
        option_or (value_in before term) (if is_same_atom (ground [] atom) term then Some value else None) ≡ value_in before term
    by true s =
        let found = ap (value_in before) (sym (same_atom (ground [] atom) term s)) ∙ had in
        ap (λ (o : Option ℕ). option_or o (if is_same_atom (ground [] atom) term then Some value else None)) found ∙ sym found
    by false s = ap (λ b. option_or (value_in before term) (if b then Some value else None)) s ∙ or_none (value_in before term)

revalued_then : (before entries : List Init) (entry : Init) →
    revalued_after before (entries ++ entry ∷ []) ≡ revalued_after before entries ++ revalued_position (before ++ entries) entry
revalued_then before [] entry = append-nil (revalued_position before entry) ∙ ap (λ (known : List Init). revalued_position known entry) (sym (append-nil before))
revalued_then before (first ∷ entries) entry =
    ap (λ (positions : List At). revalued_position before first ++ positions) (revalued_then (before ++ first ∷ []) entries entry)
    ∙ ap (λ (known : List Init). revalued_position before first ++ (revalued_after (before ++ first ∷ []) entries ++ revalued_position known entry)) (append_assoc before (first ∷ []) entries)
    ∙ sym (append_assoc (revalued_position before first) (revalued_after (before ++ first ∷ []) entries) (revalued_position (before ++ first ∷ entries) entry))

-- the first position of what one entry more gives
pub revalued_more : (entries : List Init) (i : ℕ) (entry : Init) → i < length entries →
    earliest (revalued_after [] (take (i + 1) entries)) ≡ earlier (earliest (revalued_after [] (take i entries))) (earliest (revalued_position (take i entries) (get_or entries i entry)))
revalued_more entries i entry within =
    ap (λ (known : List Init). earliest (revalued_after [] known)) (take_more entries i entry within)
    ∙ ap earliest (revalued_then [] (take i entries) (get_or entries i entry))
    ∙ earliest_append (revalued_after [] (take i entries)) (revalued_position (take i entries) (get_or entries i entry))

-- where no entry denies an atom, none denies one that is stated
pub none_denied : (init entries : List Init) → list_any denies entries ≡ false → flat_map (denied_position init) entries ≡ []
none_denied init [] none = refl
none_denied init (Holds atom ∷ more) none = none_denied init more none
none_denied init (HoldsNot atom at ∷ more) none = absurd cc
none_denied init (Value term value at ∷ more) none = none_denied init more none
