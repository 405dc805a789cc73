-- Groups are exclusive: a reachable state of the reached task shows one of the normal task, where the instance has weight at most one.
use Rattle.std.proofs.Common.{◌≡◌, ℕ, true, false, not, ◌&&◌, List, length, nat_eq, refl, sym, ap, ◌∙◌, subst, arith, Option, Some, None}
use Rattle.std.specs.List.{Contains, list_all, range_with_len, slice_get}
use Rattle.std.specs.Option.{option_map, option_map_or, unwrap_or}
use Rattle.std.proofs.lemmas.Bool.{true≢false, and_parts, eqb-true, not-true, not_from_false}
use Rattle.std.specs.List.Sorted.{IsStrictlyIncreasing}
use Rattle.std.proofs.lemmas.List.Kept.{IsStrictlyIncreasing-filter}
use Rattle.std.proofs.lemmas.Option.{slice_get-map}
use Rattle.lists.proofs.NoRepeats.{among_range}
use Rattle.lists.proofs.Ordered.{range_increasing}
use Rattle.lists.proofs.Items.{Among, among_contains, filter_among, all_passes, each_passes, passing}
use Rattle.normal_task.specs.declared.task.GroundAtom.{GroundAtom}
use Rattle.normal_task.specs.declared.task.Normal.{Normal}
use Rattle.normal_task.specs.declared.task.PredicateRow.{PredicateRow}
use Rattle.normal_task.specs.Lawful.{IsLawful}
use Rattle.normal_task.specs.Meaning as normal
use Rattle.normal_task.specs.Meaning.{is_same_atom, is_derived}
use Rattle.ground_task.specs.GroundTask.{ground_task, is_fixed}
use Rattle.ground_task.specs.Ranked.{IsRanked}
use Rattle.ground_task.proofs.GroundMeaning as ground_law
use Rattle.ground_task.proofs.LawfulNormal.{keeps_statics, instances_ranked}
use Rattle.reached_task.specs.declared.types.Fact.{Fact}
use Rattle.reached_task.specs.declared.types.Reached.{Reached}
use Rattle.reached_task.specs.ReachedTask.{atoms_of}
use Rattle.reached_task.specs.Reachable.{is_among, number_of, fact_of}
use Rattle.reached_task.proofs.ReachedMeaning as reached_law
use Rattle.reached_task.proofs.OrderedFacts.{facts_apart}
use Rattle.reached_task.proofs.Numbers.{place_among, place_is}
use Rattle.contradictions.specs.declared.types.Candidate.{Candidate}
use Rattle.contradictions.specs.declared.types.Part.{Part}
use Rattle.contradictions.specs.Candidates.{part_covers, covers}
use Rattle.invariant_check.specs.Accepted.{is_accepted}
use Rattle.invariant_check.specs.Soundness.{is_basic}
use Rattle.invariant_check.specs.Extensions.{is_changing}
use Rattle.invariant_check.specs.WellFormed.{is_well_formed}
use Rattle.invariant_check.proofs.FormedParts.{formed_facts}
use Rattle.invariant_check.proofs.Sound.{invariants_are_sound}
use Rattle.invariant_check.proofs.Weights.{most_of_weight}
use Rattle.mutex_groups.specs.Groups.{covers_fact, IsMutexGroup}
use Rattle.reached_task.specs.Exclusive.{IsExclusive}
use Rattle.mutex_groups.specs.Laws.{IsReachedOf, GroupsAreExclusive, GroupsAreSorted, GroupsAreFacts, GroupsAreBasic}
use Rattle.normal_task.proofs.OnceEach.{same_atom, atom_same}

-- ---- predicates that effects change

changing-row : (o : Option PredicateRow) → option_map_or (λ (row : PredicateRow). not row.derived && not row.fixed) o false ≡ true →
    (unwrap_or (option_map (λ (row : PredicateRow). row.derived) o) false ≡ false) × (unwrap_or (option_map (λ (row : PredicateRow). row.fixed) o) false ≡ false)
changing-row None is = absurd (true≢false (sym is))
changing-row (Some row) is = let parts = and_parts (not row.derived) (not row.fixed) is in (not-true row.derived parts.0, not-true row.fixed parts.1)

module _ (task : Normal) (candidate : Candidate) (formed : is_well_formed task candidate ≡ true) where
  changing : (part : Part) → Among part candidate.parts → is_changing task part.predicate ≡ true
  changing part there = ((formed_facts task candidate formed).each part there).changes

  basic : is_basic task candidate ≡ true
  basic = each_passes (λ (part : Part). not (is_derived task part.predicate)) candidate.parts (λ part there.
      not_from_false (is_derived task part.predicate) (changing-row (slice_get task.predicates part.predicate) (changing part there)).0)

  -- an atom that an instance covers isn't static
  not-fixed : (instance : List ℕ) (atom : GroundAtom) → covers candidate instance atom ≡ true → is_fixed task.predicates atom.predicate ≡ false
  not-fixed instance atom is =
      let part = passing (part_covers instance atom) candidate.parts is in
      let same = eqb-true part.item.predicate atom.predicate (and_parts (nat_eq part.item.predicate atom.predicate) _ part.passes).0 in
      subst (λ (p : ℕ). is_fixed task.predicates p ≡ false) same (changing-row (slice_get task.predicates part.item.predicate) (changing part.item part.among)).1

  -- and is basic
  not-derived : (instance : List ℕ) (atom : GroundAtom) → covers candidate instance atom ≡ true → unwrap_or (option_map (λ (row : PredicateRow). row.derived) (slice_get task.predicates atom.predicate)) false ≡ false
  not-derived instance atom is =
      let part = passing (part_covers instance atom) candidate.parts is in
      let same = eqb-true part.item.predicate atom.predicate (and_parts (nat_eq part.item.predicate atom.predicate) _ part.passes).0 in
      subst (λ (p : ℕ). unwrap_or (option_map (λ (row : PredicateRow). row.derived) (slice_get task.predicates p)) false ≡ false) same (changing-row (slice_get task.predicates part.item.predicate) (changing part.item part.among)).0

-- ---- facts and their atoms

module _ (task : Normal) (reached : Reached) (of : IsReachedOf task reached) where
  abbrev atoms : List GroundAtom
  atoms = of.is_reached.atoms

  record Seen (candidate : Candidate) (instance : List ℕ) (number : ℕ) : Type 0 where
    atom : GroundAtom
    stands : slice_get atoms number ≡ Some atom
    covered : covers candidate instance atom ≡ true

  seen : (candidate : Candidate) (instance : List ℕ) (number : ℕ) → covers_fact candidate instance reached.facts number ≡ true → Seen candidate instance number
  seen candidate instance number is = by (slice_get atoms number) refl (sym same ∙ is)
    where
      same : covers_fact candidate instance reached.facts number ≡ option_map_or (λ (fact : Fact). covers candidate instance fact.atom) (option_map (fact_of of.ground_of) (slice_get atoms number)) false
      same =
          ap (λ facts. option_map_or (λ (fact : Fact). covers candidate instance fact.atom) (slice_get facts number) false) of.is_reached.is.facts
          ∙ ap (λ o. option_map_or (λ (fact : Fact). covers candidate instance fact.atom) o false) (slice_get-map (fact_of of.ground_of) atoms number)

      by : (o : Option GroundAtom) → slice_get atoms number ≡ o → option_map_or (λ (fact : Fact). covers candidate instance fact.atom) (option_map (fact_of of.ground_of) o) false ≡ true → Seen candidate instance number
      by None e is = absurd (true≢false (sym is))
      by (Some atom) e is = record { atom = atom; stands = e; covered = is }

  -- each fact of a group is one that the instance covers
  seen-in : (candidates : List Candidate) (group : List ℕ) (is : IsMutexGroup task candidates reached group) (number : ℕ) → Contains group number → Seen is.candidate is.instance number
  seen-in candidates group is number in' =
      seen is.candidate is.instance number
      (filter_among (covers_fact is.candidate is.instance reached.facts) number (range_with_len 0 (length reached.facts)) (subst (λ (g : List ℕ). Among number g) is.facts (among_contains group number in'))).1

module _ (task : Normal) (reached : Reached) (lawful : IsLawful task) (of : IsReachedOf task reached) where
  abbrev own_atoms : List GroundAtom
  own_atoms = of.is_reached.atoms

  ranked : IsRanked (ground_task of.ground_of)
  ranked = ground_law.no_recursion task of.ground_of (keeps_statics task lawful) of.is_ground (instances_ranked task lawful)

  atoms-are : atoms_of reached ≡ own_atoms
  atoms-are = reached_law.atoms_are of.ground_of reached ranked of.is_reached

  number-is : (number : ℕ) (atom : GroundAtom) → slice_get own_atoms number ≡ Some atom → number_of own_atoms atom ≡ number
  number-is number atom at = place_is is_same_atom atom_same same_atom own_atoms (facts_apart own_atoms of.is_reached.reachable.in_order) number atom at

  module _ (candidates : List Candidate) (formed : list_all (is_well_formed task) candidates ≡ true) (accepted : list_all (is_accepted task) candidates ≡ true) where
    pub exclusive : (group : List ℕ) → IsMutexGroup task candidates reached group → IsExclusive reached group
    exclusive group is state reachable fact other in-fact in-other yes-fact yes-other =
        let candidate = is.candidate in
        let instance = is.instance in
        let there = among_contains candidates candidate is.of_candidates in
        let well = all_passes (is_well_formed task) candidate candidates there formed in
        let between = (reached_law.same_meaning of.ground_of reached ranked of.is_reached).reaching state reachable in
        let below = (ground_law.same_meaning task of.ground_of (keeps_statics task lawful) of.is_ground).reaching between.0 between.1 in
        let true-below : (number : ℕ) (s : Seen task reached of candidate instance number) → state number ≡ true → below.0 s.atom ≡ true =
        λ number s yes.
        let among = place_among is_same_atom atom_same same_atom own_atoms number s.atom s.stands in
        let shown = between.2.kept s.atom (subst (λ (l : List GroundAtom). is_among l s.atom ≡ true) (sym atoms-are) among) in
        let kept = below.2.kept s.atom (not_from_false (is_fixed task.predicates s.atom.predicate) (not-fixed task candidate well instance s.atom s.covered)) in
        sym kept ∙ sym shown ∙ ap (λ (l : List GroundAtom). state (number_of l s.atom)) atoms-are ∙ ap state (number-is number s.atom s.stands) ∙ yes in
        let a = seen-in task reached of candidates group is fact in-fact in
        let b = seen-in task reached of candidates group is other in-other in
        let same : a.atom ≡ b.atom =
        invariants_are_sound task candidate lawful (basic task candidate well) (all_passes (is_accepted task) candidate candidates there accepted) instance (most_of_weight (normal.initial task) candidate instance 1 is.weighs_one (omega arith)) below.0 below.1
        a.atom b.atom a.covered b.covered (true-below fact a yes-fact) (true-below other b yes-other) in
        sym (number-is fact a.atom a.stands) ∙ ap (number_of own_atoms) same ∙ number-is other b.atom b.stands

pub groups_are_exclusive : GroupsAreExclusive
groups_are_exclusive task candidates reached groups lawful formed are of accepted group there = exclusive task reached lawful of candidates formed accepted group ((are.all group).0 there)

-- ---- sorted lists of basic facts

pub are_sorted : GroupsAreSorted
are_sorted task candidates reached group is =
    subst IsStrictlyIncreasing (sym is.facts) (IsStrictlyIncreasing-filter (covers_fact is.candidate is.instance reached.facts) (range_with_len 0 (length reached.facts)) (range_increasing (length reached.facts)))

pub are_facts : GroupsAreFacts
are_facts task candidates reached group is fact in' =
    let there = subst (λ (g : List ℕ). Among fact g) is.facts (among_contains group fact in') in
    let below = (among_range 0 (length reached.facts) fact (filter_among (covers_fact is.candidate is.instance reached.facts) fact (range_with_len 0 (length reached.facts)) there).0).1 in
    omega (arith, below)

pub are_basic : GroupsAreBasic
are_basic task candidates reached group of formed is fact in' =
    let s = seen-in task reached of candidates group is fact in' in
    let well = all_passes (is_well_formed task) is.candidate candidates (among_contains candidates is.candidate is.of_candidates) formed in
    ap (λ (facts : List Fact). option_map_or (λ (fact : Fact). fact.derived) (slice_get facts fact) false) of.is_reached.is.facts
    ∙ ap (λ o. option_map_or (λ (fact : Fact). fact.derived) o false) (slice_get-map (fact_of of.ground_of) of.is_reached.atoms fact ∙ ap (option_map (fact_of of.ground_of)) s.stands)
    ∙ ap (λ (rows : List PredicateRow). unwrap_or (option_map (λ (row : PredicateRow). row.derived) (slice_get rows s.atom.predicate)) false) of.is_ground.predicates
    ∙ not-derived task is.candidate well is.instance s.atom s.covered
