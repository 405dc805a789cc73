-- An instance's weight in the initial state is the number of initial atoms that it covers.
use Rattle.std.proofs.Common.{◌≡◌, ℕ, Bool, true, false, not, ◌||◌, List, [], ◌∷◌, refl, sym, ap, ◌∙◌, subst}
use Rattle.std.specs.Prelude.{IsTrue, ◌↔◌}
use Rattle.std.specs.List.{Contains, IsDistinct, AllByRecursion, list_any, filter}
use Rattle.std.specs.Cmp.{IsEquivalence, both_ways}
use Rattle.std.proofs.lemmas.Bool.{true≢false, and_parts, not-true}
use Rattle.std.proofs.lemmas.Map.Made.{length-from_same_keys}
use Rattle.lists.proofs.Items.{Among, among_contains, contains_among, among_filter, filter_among, any_passes, passing}
use Rattle.normal_task.specs.declared.task.GroundAtom.{GroundAtom}
use Rattle.normal_task.specs.declared.task.Normal.{Normal}
use Rattle.normal_task.specs.Lawful.{IsLawful, differ}
use Rattle.normal_task.specs.Meaning.{is_same_atom, initial}
use Rattle.normal_task.proofs.OnceEach.{same_atom-swap, same_atom, atom_same}
use Rattle.ground_task.proofs.LawfulGround.{differ_filter}
use Rattle.contradictions.specs.declared.types.Candidate.{Candidate}
use Rattle.contradictions.specs.Candidates.{covers, HasWeight}
use Rattle.mutex_groups.specs.Found.{weight_among}

-- ---- lists without repeats

module _ {A : Type 0} (same : A → A → Bool) where
  none-same : (item : A) (items : List A) → list_any (same item) items ≡ false → AllByRecursion (λ other. same item other ≡ false) items
  none-same item [] none = tt
  none-same item (other ∷ items) none = by (same item other) refl none (none-same item items)
    where
      by : (b : Bool) → same item other ≡ b → (b || list_any (same item) items) ≡ false → (list_any (same item) items ≡ false → AllByRecursion (λ other. same item other ≡ false) items) → AllByRecursion (λ other. same item other ≡ false) (other ∷ items)
      by true is none rest = absurd (true≢false none)
      by false is none rest = (is, rest none)

  differ-distinct : (items : List A) → differ same items ≡ true → IsDistinct same items
  unfolding IsDistinct
  differ-distinct [] once = tt
  differ-distinct (item ∷ items) once =
      let sides = and_parts (not (list_any (same item) items)) (differ same items) once in
      (none-same item items (not-true (list_any (same item) items) sides.0), differ-distinct items sides.1)

atoms-equiv : IsEquivalence is_same_atom
atoms-equiv = record {
  refl = atom_same;
  symm = same_atom-swap;
  congr = λ x y z is. ap (λ (atom : GroundAtom). is_same_atom atom z) (same_atom x y is);
}

-- ---- the weight

module _ (task : Normal) (lawful : IsLawful task) (candidate : Candidate) (instance : List ℕ) where
  abbrev covered : List GroundAtom
  covered = filter (covers candidate instance) task.init

  of-start : (atom : GroundAtom) → initial task atom ≡ true → Among atom task.init
  of-start atom is =
      let found = passing (λ known. is_same_atom known atom) task.init is in
      subst (λ (known : GroundAtom). Among known task.init) (same_atom found.item atom found.passes) found.among

  once : IsDistinct is_same_atom covered
  once = differ-distinct is_same_atom covered (differ_filter is_same_atom (covers candidate instance) task.init lawful.init_once)

  are-those : (atom : GroundAtom) → Contains covered atom ↔ (IsTrue (covers candidate instance atom) × IsTrue (initial task atom))
  are-those atom = (
    λ there.
        let kept = filter_among (covers candidate instance) atom task.init (among_contains covered atom there) in
        (kept.1, any_passes (λ known. is_same_atom known atom) atom task.init kept.0 (atom_same atom)),
    λ those. contains_among covered atom (among_filter (covers candidate instance) atom task.init (of-start atom those.1) those.0),
  )

  pub has-weight : (weight : ℕ) → weight_among candidate task.init instance ≡ weight → HasWeight (initial task) candidate instance weight
  has-weight weight is = record { atoms = covered; are_those = are-those; once = once; weight_is = is }

  -- an atom of a list is the same as one of it
  member : (atoms : List GroundAtom) (atom : GroundAtom) → list_any (is_same_atom atom) atoms ≡ true → Contains atoms atom
  member atoms atom is =
      let found = passing (is_same_atom atom) atoms is in
      contains_among atoms atom (subst (λ (known : GroundAtom). Among known atoms) (sym (same_atom atom found.item found.passes)) found.among)

  is-member : (atoms : List GroundAtom) (atom : GroundAtom) → Contains atoms atom → list_any (is_same_atom atom) atoms ≡ true
  is-member atoms atom there = any_passes (is_same_atom atom) atom atoms (among_contains atoms atom there) (atom_same atom)

  pub weight-is : (weight : ℕ) → HasWeight (initial task) candidate instance weight → weight_among candidate task.init instance ≡ weight
  weight-is weight has = length-from_same_keys atoms-equiv covered has.atoms once has.once same ∙ has.weight_is
    where
      same : (atom : GroundAtom) → list_any (is_same_atom atom) covered ≡ list_any (is_same_atom atom) has.atoms
      same atom = both_ways (list_any (is_same_atom atom) covered) (list_any (is_same_atom atom) has.atoms)
          (λ is. is-member has.atoms atom ((has.are_those atom).1 ((are-those atom).0 (member covered atom is))))
          (λ is. is-member covered atom ((are-those atom).1 ((has.are_those atom).0 (member has.atoms atom is))))
