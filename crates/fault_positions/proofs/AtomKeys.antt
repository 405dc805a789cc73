-- Tables whose keys are ground atoms: what a look-up says before and after an entry more.
use Rattle.std.proofs.Common.{◌≡◌, ℕ, Bool, true, false, ◌||◌, List, [], ◌∷◌, ◌++◌, Option, None, Some, Bor, nat_eq, if◌then◌else◌, refl, sym, ap, ◌∙◌}
use Rattle.std.specs.Bool.{then_some}
use Rattle.std.specs.Cmp.{IsEquivalence}
use Rattle.std.specs.Cmp.Lexicographic.{pointwise}
use Rattle.std.specs.Cmp.Derive.Mapped.{pointwise-map}
use Rattle.std.specs.List.{list_any}
use Rattle.std.specs.Map.{lookup}
use Rattle.std.specs.Option.{option_or}
use Rattle.std.proofs.Math.Bool.{or-false}
use Rattle.std.proofs.lemmas.Cmp.{lists_equiv, nat_eq_equiv}
use Rattle.std.proofs.lemmas.List.Folds.{list_any-append}
use Rattle.indexmap.specs.IndexMap as tables
use Rattle.indexmap.specs.IndexSet as sets
use Rattle.indexmap.proofs.CallerLemmas.{insert_entry-new}
use Rattle.pddl_lexer.specs.declared.position.At.{At}
use Rattle.pddl_syntax.specs.declared.types.Atom.{Atom}
use Rattle.pddl_syntax.specs.declared.types.Init.{Init}
use Rattle.pddl_syntax.specs.declared.types.Init.TheVariants.{Holds, HoldsNot, Value}
use Rattle.pddl_syntax.specs.Words.{Name, is_same}
use Rattle.pddl_syntax.specs.Holds.{GroundAtom, is_same_atom, ground}
use Rattle.pddl_syntax.specs.Plan.{is_stated}
use Rattle.pddl_syntax.specs.Step.{value_in}
use Rattle.pddl_syntax.proofs.SameAtoms.{same_atom}
use Rattle.fault_positions.specs.AtomTables.{names_of, Key, names_in, is_key_of, HasStated, HasValues}
use Rattle.fault_positions.specs.Initial.{denied_position}
use Rattle.fault_positions.specs.Positions.{earliest}
use Rattle.fault_positions.proofs.InitialEntries.{stated_then, first_or, value_then, value_as_before, value_kept}

names_equiv : IsEquivalence (pointwise is_same)
names_equiv = lists_equiv (lists_equiv nat_eq_equiv)

pub position_if : (test : Bool) (at : At) → then_some test at ≡ earliest (if test then at ∷ [] else [])
position_if true at = refl
position_if false at = refl

module _ {A : Type 0} where
  -- the equality of keys by which the tables look them up
  abbrev is_equal : Key A → Key A → Bool
  is_equal key other = pointwise (λ (name name' : Bor Name). pointwise nat_eq name.now name'.now) key.items other.items

  -- the key of this atom
  module _ (key : Key A) (own : GroundAtom) (is : names_in key ≡ names_of own) where
    own_test : (other : Key A) → is_equal key other ≡ is_key_of own other
    own_test other =
        sym (pointwise-map (λ (name : Bor Name). name.now) is_same key.items other.items) ∙ ap (λ (names : List Name). pointwise is_same names (names_in other)) is

    own_tests : is_equal key ≡ is_key_of own
    own_tests = λ i other. own_test other i

    is_its_key : (atom : GroundAtom) → is_key_of atom key ≡ is_same_atom own atom
    is_its_key atom = ap (λ (names : List Name). pointwise is_same (names_of atom) names) is ∙ names_equiv.symm (names_of atom) (names_of own)

    -- the set has the atom of the key, and else what it had
    inserted : (keys : List (Key A)) (atom : GroundAtom) →
        list_any (is_key_of atom) (sets.insert_key is_equal keys key) ≡ (list_any (is_key_of atom) keys || is_same_atom own atom)
    inserted keys atom = by (list_any (is_equal key) keys) refl (is_same_atom own atom) refl
      where
        after : (known : Bool) → list_any (is_equal key) keys ≡ known →
            list_any (is_key_of atom) (sets.insert_key is_equal keys key) ≡ list_any (is_key_of atom) (if known then keys else keys ++ key ∷ [])
        after known e = ap (λ (b : Bool). list_any (is_key_of atom) (if b then keys else keys ++ key ∷ [])) e

        known_own : list_any (is_equal key) keys ≡ true → own ≡ atom → list_any (is_key_of atom) keys ≡ true
        known_own e same = ap (λ (a : GroundAtom). list_any (is_key_of a) keys) (sym same) ∙ ap (λ (test : Key A → Bool). list_any test keys) (sym own_tests) ∙ e

        by : (known : Bool) → list_any (is_equal key) keys ≡ known → (same : Bool) → is_same_atom own atom ≡ same →
            list_any (is_key_of atom) (sets.insert_key is_equal keys key) ≡ (list_any (is_key_of atom) keys || is_same_atom own atom)
        by false e same s =
            after false e ∙ list_any-append (is_key_of atom) keys (key ∷ [])
            ∙ ap (λ b. list_any (is_key_of atom) keys || b) (or-false (is_key_of atom key) ∙ is_its_key atom)
        by true e false s = after true e ∙ sym (ap (λ b. list_any (is_key_of atom) keys || b) s ∙ or-false (list_any (is_key_of atom) keys))
        by true e true s =
            let known = known_own e (same_atom own atom s) in
            after true e ∙ known ∙ sym (ap (λ b. b || is_same_atom own atom) known)

    -- a look-up by the key is one of the atom
    own_value : {S : Type 0} (table : tables.IndexMap (Key A) ℕ S) → tables.get is_equal table key ≡ tables.get_by (is_key_of own) table
    own_value table = ap (λ (test : Key A → Bool). lookup test table.entries) own_tests

    -- the table has the value of the new key, and else what it had
    noted : (entries : List (Key A × ℕ)) (value : ℕ) (atom : GroundAtom) →
        lookup (is_key_of atom) (entries ++ (key, value) ∷ []) ≡ option_or (lookup (is_key_of atom) entries) (if is_same_atom own atom then Some value else None)
    noted [] value atom = ap (λ b. if b then Some value else None) (is_its_key atom)
    noted (entry ∷ entries) value atom =
        first_or (is_key_of atom entry.0) entry.1 (lookup (is_key_of atom) (entries ++ (key, value) ∷ [])) (lookup (is_key_of atom) entries)
        (if is_same_atom own atom then Some value else None) (noted entries value atom)

  -- ---- a table that stays as it is
  module _ {S : Type 0} (table : tables.IndexMap (Key A) ℕ S) (before : List Init) where
    pub values_as_before : (entry : Init) → ((term : GroundAtom) → value_in (entry ∷ []) term ≡ None) → HasValues table before → HasValues table (before ++ entry ∷ [])
    values_as_before entry none known = record { values = λ term. known.values term ∙ sym (value_as_before before entry term (none term)) }

    pub values_kept : (atom : Atom) (value : ℕ) (at : At) (other : ℕ) → value_in before (ground [] atom) ≡ Some other → HasValues table before → HasValues table (before ++ Value atom value at ∷ [])
    values_kept atom value at other had known = record { values = λ term. known.values term ∙ sym (value_kept before atom value at other had term) }

  -- ---- the key of the atom of an entry
  module _ (key : Key A) (atom : Atom) (is : names_in key ≡ names_of (ground [] atom)) {S : Type 0} where
    pub stated_more : (old new : sets.IndexSet (Key A) S) → new.keys ≡ sets.insert_key is_equal old.keys key →
        (before : List Init) → HasStated old before → HasStated new (before ++ Holds atom ∷ [])
    stated_more old new grown before stated = record {
      atoms = λ a. ap (list_any (is_key_of a)) grown ∙ inserted key (ground [] atom) is old.keys a
          ∙ ap (λ b. b || is_same_atom (ground [] atom) a) (stated.atoms a) ∙ sym (stated_then a before (Holds atom));
    }

    pub denied_if : (set : sets.IndexSet (Key A) S) (at : At) (init : List Init) → HasStated set init →
        then_some (sets.contains is_equal set key) at ≡ earliest (denied_position init (HoldsNot atom at))
    denied_if set at init stated =
        ap (λ (test : Key A → Bool). then_some (list_any test set.keys) at) (own_tests key (ground [] atom) is)
        ∙ ap (λ b. then_some b at) (stated.atoms (ground [] atom)) ∙ position_if (list_any (is_stated (ground [] atom)) init) at

    -- what the table has for the key is the value that the entries give its term
    pub value_before : (table : tables.IndexMap (Key A) ℕ S) (before : List Init) → HasValues table before → tables.get is_equal table key ≡ value_in before (ground [] atom)
    value_before table before known = own_value key (ground [] atom) is table ∙ known.values (ground [] atom)

    pub values_more : (old new : tables.IndexMap (Key A) ℕ S) (value : ℕ) (at : At) → tables.get is_equal old key ≡ None → new.entries ≡ tables.insert_entry is_equal old.entries key value →
        (before : List Init) → HasValues old before → HasValues new (before ++ Value atom value at ∷ [])
    values_more old new value at none grown before known = record {
      values = λ term. ap (lookup (is_key_of term)) (grown ∙ insert_entry-new is_equal old key value none) ∙ noted key (ground [] atom) is old.entries value term
          ∙ ap (λ (o : Option ℕ). option_or o (if is_same_atom (ground [] atom) term then Some value else None)) (known.values term)
          ∙ sym (value_then before (Value atom value at ∷ []) term);
    }
