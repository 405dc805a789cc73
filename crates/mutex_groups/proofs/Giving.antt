-- The groups that initial atoms give are all groups.
use Rattle.std.proofs.Common.{◌≡◌, ℕ, zero, suc, ◌<◌, true, false, not, ◌&&◌, ◌||◌, List, [], ◌∷◌, Option, Some, None, map, length, nat_eq, get_or, refl, sym, ap, ◌∙◌, subst, arith, inl, inr}
use Rattle.std.specs.Prelude.{replicate}
use Rattle.std.specs.List.{list_any, list_all, filter, range_with_len, slice_get, Contains, IsDistinct}
use Rattle.std.specs.Option.{option_map_or, option_to_list}
use Rattle.std.proofs.lemmas.Bool.{true≢false, and_parts, and_from, eqb-true, eq-eqb, ne_eqb, ltb-true}
use Rattle.std.proofs.lemmas.List.{length-map}
use Rattle.std.proofs.lemmas.Cmp.{nat_list_eq_equiv}
use Rattle.lists.proofs.NoRepeats.{range_among}
use Rattle.lists.proofs.Items.{Among, among_at, among_left, among_contains, contains_among, among_map, among_flat_map, map_source, filter_among, any_passes, passing, Passing, all_passes, each_passes}
use Rattle.names.specs.Names.{is_same}
use Rattle.names.proofs.SameNames.{same_name}
use Rattle.normal_task.specs.declared.task.GroundAtom.{GroundAtom}
use Rattle.normal_task.specs.declared.task.Normal.{Normal}
use Rattle.normal_task.specs.declared.task.PredicateRow.{PredicateRow}
use Rattle.normal_task.specs.Lawful.{IsLawful, is_init, is_object, has_row}
use Rattle.normal_task.specs.Meaning.{choices}
use Rattle.reached_task.specs.declared.types.Fact.{Fact}
use Rattle.reached_task.specs.declared.types.Reached.{Reached}
use Rattle.contradictions.specs.declared.types.Candidate.{Candidate}
use Rattle.contradictions.specs.Candidates.{covers}
use Rattle.invariant_check.specs.Extensions.{arity_of}
use Rattle.mutex_groups.specs.declared.tables.Weight.{Weight}
use Rattle.invariant_check.specs.WellFormed.{is_well_formed}
use Rattle.mutex_groups.specs.Groups.{covered_facts, IsInstance, IsMutexGroup, AreGroups}
use Rattle.ground_task.specs.Buckets.{numbers_in}
use Rattle.mutex_groups.specs.Found.{weight_among, parts_differ, instance_of, told, is_one, gives, covers_just, has_group, HoldsWeights, HoldsNumbers, AddsGroup}
use Rattle.mutex_groups.proofs.Covered.{covers-is, covers-some}
use Rattle.contradictions.proofs.Covering.{Covering, covering}
use Rattle.invariant_check.proofs.FormedParts.{IsPartFor, formed_facts}
use Rattle.mutex_groups.proofs.Formed.{formed-differ}
use Rattle.mutex_groups.proofs.Weighed.{has-weight, weight-is}

-- ---- what an atom gives

one-told : (n : ℕ) → is_one (told n) ≡ nat_eq n 1
one-told zero = refl
one-told (suc zero) = refl
one-told (suc (suc n)) = sym (ne_eqb (suc (suc n)) 1 (λ e. absurd (omega (arith, e))))

-- what the tables say of the atom's instance
by-tables : (candidate : Candidate) (init : List GroundAtom) (facts : List Fact) (weights : List (List ℕ × Weight)) (members : List (List ℕ × List ℕ)) → HoldsWeights candidate init weights → HoldsNumbers candidate facts members →
    (group instance : List ℕ) → covers_just weights members group instance ≡ (nat_eq (weight_among candidate init instance) 1 && is_same group (covered_facts candidate instance facts))
by-tables candidate init facts weights members weigh number group instance =
    ap (λ w. is_one w && is_same group (numbers_in members instance)) (weigh instance)
    ∙ ap (λ b. b && is_same group (numbers_in members instance)) (one-told (weight_among candidate init instance))
    ∙ ap (λ l. nat_eq (weight_among candidate init instance) 1 && is_same group l) (number instance)

pub adds-one : (candidate : Candidate) (atom : GroundAtom) (weights : List (List ℕ × Weight)) (members : List (List ℕ × List ℕ)) (old new : List (List ℕ)) (instance : List ℕ) → instance_of candidate atom ≡ Some instance →
    ((group : List ℕ) → list_any (is_same group) new ≡ (covers_just weights members group instance || list_any (is_same group) old)) → AddsGroup candidate atom weights members old new
adds-one candidate atom weights members old new instance found added init facts weigh number group =
    added group ∙ ap (λ b. b || list_any (is_same group) old) (by-tables candidate init facts weights members weigh number group instance)
    ∙ ap (λ o. option_map_or (λ instance. nat_eq (weight_among candidate init instance) 1 && is_same group (covered_facts candidate instance facts)) o false || list_any (is_same group) old) (sym found)

pub adds-none : (candidate : Candidate) (atom : GroundAtom) (weights : List (List ℕ × Weight)) (members : List (List ℕ × List ℕ)) (old : List (List ℕ)) → instance_of candidate atom ≡ None → AddsGroup candidate atom weights members old old
adds-none candidate atom weights members old missing init facts weigh number group =
    ap (λ o. option_map_or (λ instance. nat_eq (weight_among candidate init instance) 1 && is_same group (covered_facts candidate instance facts)) o false || list_any (is_same group) old) (sym missing)

-- ---- instances of initial atoms

-- every list of so many of the objects is a choice
all-choices : (n : ℕ) (objects list : List ℕ) → length list ≡ n → ((object : ℕ) → Among object list → Among object objects) → Among list (choices (replicate n objects))
all-choices zero objects [] size all = inl refl
all-choices zero objects (x ∷ list) size all = absurd (omega (arith, size))
all-choices (suc n) objects [] size all = absurd (omega (arith, size))
all-choices (suc n) objects (x ∷ list) size all =
    among_flat_map (λ object. map (λ others. object ∷ others) (choices (replicate n objects))) x (x ∷ list) objects (all x (inl refl))
    (among_map (λ others. x ∷ others) list (choices (replicate n objects)) (all-choices n objects list (omega (arith, size)) (λ object there. all object (inr there))))

-- the arity of an initial atom's predicate is that of the atom
row-arity : (task : Normal) (count : ℕ) (o : Option PredicateRow) → has_row task (λ (row : PredicateRow). nat_eq row.arity count && not row.derived) o ≡ true → option_map_or (λ (row : PredicateRow). row.arity) o 0 ≡ count
row-arity task count None is = absurd (true≢false (sym is))
row-arity task count (Some row) is = eqb-true row.arity count (and_parts (nat_eq row.arity count) (not row.derived) is).0

module _ (task : Normal) (lawful : IsLawful task) (candidate : Candidate) (formed : is_well_formed task candidate ≡ true) where
  pub instance-is : (atom : GroundAtom) → Among atom task.init → (instance : List ℕ) → instance_of candidate atom ≡ Some instance → IsInstance task candidate instance
  instance-is atom there instance found =
      contains_among (choices (replicate candidate.parameters (range_with_len 0 (length task.objects)))) instance
      (all-choices candidate.parameters (range_with_len 0 (length task.objects)) instance size objects)
    where
      by : Covering candidate instance atom
      by = covering candidate instance atom (covers-some candidate atom instance (formed-differ task candidate formed) found instance ∙ nat_list_eq_equiv.refl instance)

      facts : IsPartFor task candidate.parameters by.part
      facts = (formed_facts task candidate formed).each by.part by.among

      size : length instance ≡ candidate.parameters
      size = ap (λ (l : List ℕ). length l) (sym by.agrees) ∙ length-map by.part.places (λ position. get_or atom.objects position 0) ∙ facts.as_many

      known : is_init task atom ≡ true
      known = all_passes (is_init task) atom task.init there lawful.init

      arity : arity_of task by.part.predicate ≡ length atom.objects
      arity =
          ap (arity_of task) by.same_predicate
          ∙ row-arity task (length atom.objects) (slice_get task.predicates atom.predicate) (and_parts (list_all (is_object task) atom.objects) _ known).1

      objects : (object : ℕ) → Among object instance → Among object (range_with_len 0 (length task.objects))
      objects object in' =
          let from = map_source (λ position. get_or atom.objects position 0) by.part.places object (subst (λ (l : List ℕ). Among object l) (sym by.agrees) in') in
          let low = facts.within from.source (among_left from.source by.part.places (option_to_list by.part.counted) from.among) in
          let own = among_at atom.objects from.source 0 (let a = arity in omega (arith, a, low)) in
          let below = ltb-true (get_or atom.objects from.source 0) (length task.objects) (all_passes (is_object task) (get_or atom.objects from.source 0) atom.objects own (and_parts (list_all (is_object task) atom.objects) _ known).0) in
          range_among 0 (length task.objects) object (omega arith) (let high = subst (λ (o : ℕ). o < length task.objects) from.gives below in omega (arith, high))

-- ---- all groups

module _ (task : Normal) (candidates : List Candidate) (reached : Reached) (lawful : IsLawful task) (formed : list_all (is_well_formed task) candidates ≡ true) where
  formed-at : (candidate : Candidate) → Among candidate candidates → is_well_formed task candidate ≡ true
  formed-at candidate there = all_passes (is_well_formed task) candidate candidates there formed

  -- a group that an atom gives is one
  given-group : (group : List ℕ) → list_any (has_group task.init reached.facts group) candidates ≡ true → IsMutexGroup task candidates reached group
  given-group group some =
      let one = passing (has_group task.init reached.facts group) candidates some in
      let atom = passing (gives one.item task.init reached.facts group) task.init one.passes in
      by one.item one.among atom.item atom.among (instance_of one.item atom.item) refl atom.passes
    where
      by : (candidate : Candidate) → Among candidate candidates → (atom : GroundAtom) → Among atom task.init → (found : Option (List ℕ)) → instance_of candidate atom ≡ found →
          option_map_or (λ instance. nat_eq (weight_among candidate task.init instance) 1 && is_same group (covered_facts candidate instance reached.facts)) found false ≡ true → IsMutexGroup task candidates reached group
      by candidate there atom in' None found is = absurd (true≢false (sym is))
      by candidate there atom in' (Some instance) found is =
          let parts = and_parts (nat_eq (weight_among candidate task.init instance) 1) (is_same group (covered_facts candidate instance reached.facts)) is in
          record {
            candidate = candidate;
            of_candidates = contains_among candidates candidate there;
            instance = instance;
            is_instance = instance-is task lawful candidate (formed-at candidate there) atom in' instance found;
            weighs_one = has-weight task lawful candidate instance 1 (eqb-true (weight_among candidate task.init instance) 1 parts.0);
            facts = same_name group (covered_facts candidate instance reached.facts) parts.1;
          }

  -- an instance that weighs one covers an initial atom
  group-given : (group : List ℕ) → IsMutexGroup task candidates reached group → list_any (has_group task.init reached.facts group) candidates ≡ true
  group-given group is =
      let there = among_contains candidates is.candidate is.of_candidates in
      let atom = first (filter (covers is.candidate is.instance) task.init) one in
      let kept = filter_among (covers is.candidate is.instance) atom.0 task.init atom.1 in
      any_passes (has_group task.init reached.facts group) is.candidate candidates there
      (any_passes (gives is.candidate task.init reached.facts group) atom.0 task.init kept.0
      (by atom.0 (instance_of is.candidate atom.0) (sym (covers-is is.candidate is.instance atom.0 (formed-differ task is.candidate (formed-at is.candidate there))) ∙ kept.1)))
    where
      one : weight_among is.candidate task.init is.instance ≡ 1
      one = weight-is task lawful is.candidate is.instance 1 is.weighs_one

      first : (xs : List GroundAtom) → length xs ≡ 1 → (x : GroundAtom) × Among x xs
      first [] none = absurd (omega (arith, none))
      first (x ∷ xs) size = (x, inl refl)

      by : (atom : GroundAtom) (found : Option (List ℕ)) → option_map_or (λ own. is_same own is.instance) found false ≡ true →
          option_map_or (λ instance. nat_eq (weight_among is.candidate task.init instance) 1 && is_same group (covered_facts is.candidate instance reached.facts)) found false ≡ true
      by atom None covers' = absurd (true≢false (sym covers'))
      by atom (Some own) covers' =
          let same = same_name own is.instance covers' in
          subst (λ (l : List ℕ). (nat_eq (weight_among is.candidate task.init l) 1 && is_same group (covered_facts is.candidate l reached.facts)) ≡ true) (sym same)
          (and_from (nat_eq (weight_among is.candidate task.init is.instance) 1) (is_same group (covered_facts is.candidate is.instance reached.facts)) (eq-eqb (weight_among is.candidate task.init is.instance) 1 one)
          (subst (λ (l : List ℕ). is_same l (covered_facts is.candidate is.instance reached.facts) ≡ true) (sym is.facts) (nat_list_eq_equiv.refl (covered_facts is.candidate is.instance reached.facts))))

  pub all-groups : (groups : List (List ℕ)) → ((group : List ℕ) → list_any (is_same group) groups ≡ list_any (has_group task.init reached.facts group) candidates) → IsDistinct is_same groups → AreGroups task candidates reached groups
  all-groups groups found once = record {
    all = λ group. (λ there. given-group group (sym (found group) ∙ any_passes (is_same group) group groups (among_contains groups group there) (nat_list_eq_equiv.refl group)), λ is. back group (passing (is_same group) groups (found group ∙ group-given group is)));
    once = once;
  }
    where
      back : (group : List ℕ) → Passing (is_same group) groups → Contains groups group
      back group one = contains_among groups group (subst (λ (l : List ℕ). Among l groups) (sym (same_name group one.item one.passes)) one.among)

  -- well formed candidates have no two parts of one predicate
  pub all-differ : list_all parts_differ candidates ≡ true
  all-differ = each_passes parts_differ candidates (λ candidate there. formed-differ task candidate (formed-at candidate there))
