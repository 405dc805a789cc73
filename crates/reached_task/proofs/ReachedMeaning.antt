-- The reached task means what its ground task means.
use Rattle.std.proofs.Common.{◌≡◌, ℕ, zero, suc, ◌<◌, Bool, true, false, not, ◌||◌, inl, inr, List, map, Some, refl, sym, ap, ◌∙◌, subst, nat_eq, arith}
use Rattle.std.specs.List.{list_all, Contains, slice_get}
use Rattle.std.specs.Cmp.{both_ways}
use Rattle.std.specs.Option.{option_map, option_map_or}
use Rattle.std.proofs.lemmas.Bool.{cases_Bool, and_parts, true≢false, false_from_ne_true, true_from_ne_false, eqb-true, eq-eqb}
use Rattle.std.proofs.lemmas.Option.{same_Some, slice_get-map}
use Rattle.planning.specs.Task.{State, IsFull}
use Rattle.planning.specs.Plan.{IsReachable}
use Rattle.planning.specs.Same.{MeansTheSame}
use Rattle.normal_task.specs.declared.task.GroundAtom.{GroundAtom}
use Rattle.normal_task.specs.Meaning.{is_same_atom}
use Rattle.ground_task.specs.declared.types.Cond.{Cond}
use Rattle.ground_task.specs.declared.types.Ground.{Ground}
use Rattle.ground_task.specs.GroundTask.{ground_task}
use Rattle.ground_task.specs.Literals.{AxiomRow, LiteralTask, holds, gives, meaning}
use Rattle.ground_task.specs.Ranked.{IsRanked}
use Rattle.ground_task.specs.Settled.{is_open, IsSettled, Shows}
use Rattle.lists.proofs.Items.{Among, contains_among, all_passes, each_passes, passing, none_passes, map_back}
use Rattle.ground_task.proofs.Settling.{Names, Stays}
use Rattle.ground_task.proofs.Settling as settling
use Rattle.reached_task.specs.declared.types.Fact.{Fact}
use Rattle.reached_task.specs.declared.types.Reached.{Reached}
use Rattle.reached_task.specs.ReachedTask.{reached_task, atoms_of}
use Rattle.reached_task.specs.Reachable.{IsClosed, is_among, number_of, numbering, fact_of, IsReachedTask}
use Rattle.reached_task.proofs.OrderedFacts.{facts_apart}
use Rattle.reached_task.proofs.Numbers as numbers
use Rattle.normal_task.proofs.OnceEach.{same_atom, atom_same}

-- ---- what a closed set holds

module _ (task : LiteralTask GroundAtom) (same_is : (a b : GroundAtom) → task.same a b ≡ true → a ≡ b) (ranked : IsRanked task) (atoms : List GroundAtom) (closed : IsClosed task (is_among atoms)) where
  -- a condition is open where its positive atoms are in the set
  open_in : (c : Cond GroundAtom) → is_open (numbering atoms) c ≡ true → list_all (is_among atoms) c.positive ≡ true
  open_in c opened =
      each_passes (is_among atoms) c.positive (λ a among.
      or_false (is_among atoms a) (all_passes (λ a. is_among atoms a || false) a c.positive among
      (and_parts (list_all (λ a. is_among atoms a || false) c.positive) (list_all (λ a. is_among atoms a || true) c.negative) opened).0))
    where
      or_false : (b : Bool) → (b || false) ≡ true → b ≡ true
      or_false true e = refl
      or_false false e = e

  -- what an atom that isn't in the set does to a proof that it is
  not_in : (a : GroundAtom) → is_among atoms a ≡ false → is_among atoms a ≡ true → ⊥
  not_in a out in' = true≢false (sym in' ∙ out)

  module _ (state full : State GroundAtom) (basic : (a : GroundAtom) → is_among atoms a ≡ false → state a ≡ false) (is_full : IsFull (meaning task) state full) where
    derived_false : (n : ℕ) (a : GroundAtom) → ranked.rank a < n → task.is_derived a ≡ true → is_among atoms a ≡ false → full a ≡ false
    derived_false zero a below derived out = absurd (omega (arith, below))
    derived_false (suc n) a below derived out =
        is_full.derived a derived ∙ none_passes (gives task full a) task.axioms (gives_none (derived_false n))
      where
        gives_none : ((b : GroundAtom) → ranked.rank b < n → task.is_derived b ≡ true → is_among atoms b ≡ false → full b ≡ false) → (row : AxiomRow GroundAtom) → Among row task.axioms → gives task full a row ≡ true → ⊥
        gives_none lower row among passes =
            not_in a out (subst (λ b. is_among atoms b ≡ true) same (closed.axioms row row_in (each_passes (is_among atoms) row.condition.positive positive_in)))
          where
            parts : (task.same row.atom a ≡ true) × (holds full row.condition ≡ true)
            parts = and_parts (task.same row.atom a) (holds full row.condition) passes

            same : row.atom ≡ a
            same = same_is row.atom a parts.0

            row_in : Contains task.axioms row
            row_in = contains_among task.axioms row among

            positive_in : (b : GroundAtom) → Among b row.condition.positive → is_among atoms b ≡ true
            positive_in b among_b =
                let true_b : full b ≡ true = all_passes full b row.condition.positive among_b (and_parts (list_all full row.condition.positive) (list_all (λ a. not (full a)) row.condition.negative) parts.1).0 in
                true_from_ne_false (is_among atoms b) (λ out_b. elim (cases_Bool (task.is_derived b)) [
                  | inl derived_b ↦
                      let falls : ranked.rank b < ranked.rank row.atom = ranked.positive row row_in b (contains_among row.condition.positive b among_b) derived_b in
                      let rank_is : ranked.rank row.atom ≡ ranked.rank a = ap ranked.rank same in
                      true≢false (sym true_b ∙ lower b (omega (arith, below, falls, rank_is)) derived_b out_b)
                  | inr basic_b ↦ true≢false (sym true_b ∙ is_full.basic b basic_b ∙ basic b out_b)
                ])

    full_false : (a : GroundAtom) → is_among atoms a ≡ false → full a ≡ false
    full_false a out = elim (cases_Bool (task.is_derived a)) [
      | inl derived ↦ derived_false (suc (ranked.rank a)) a (omega arith) derived out
      | inr basic_a ↦ is_full.basic a basic_a ∙ basic a out
    ]

  stays : Stays (numbering atoms) task
  stays = record {
    init = λ a out. none_passes (λ known. task.same known a) task.init (λ known among same.
        not_in a out (subst (λ b. is_among atoms b ≡ true) (same_is known a same) (closed.init known (contains_among task.init known among))));
    effects = λ row among opened e among_e opened_e out. false_from_ne_true e.adds (λ adds.
        not_in e.atom out (closed.effects row e (contains_among task.actions row among) (contains_among row.effects e among_e) adds (open_in row.condition opened) (open_in e.condition opened_e)));
    derived = λ a out derived. refl;
    axioms = λ row among out derived. false_from_ne_true (is_open (numbering atoms) row.condition) (λ opened.
        not_in row.atom out (closed.axioms row (contains_among task.axioms row among) (open_in row.condition opened)));
    full = full_false;
  }

-- ---- the law

module _ (task : Ground) (reached : Reached) (ranked : IsRanked (ground_task task)) (is : IsReachedTask task reached) where
  abbrev atoms : List GroundAtom
  atoms = is.atoms

  abbrev closed : IsClosed (ground_task task) (is_among atoms)
  closed = is.reachable.least.closed

  pub at_number : (a : GroundAtom) → is_among atoms a ≡ true → slice_get atoms (number_of atoms a) ≡ Some a
  at_number = numbers.at_place is_same_atom atom_same same_atom atoms

  number_is : (n : ℕ) (a : GroundAtom) → slice_get atoms n ≡ Some a → number_of atoms a ≡ n
  number_is = numbers.place_is is_same_atom atom_same same_atom atoms (facts_apart atoms is.reachable.in_order)

  pub names : Names (numbering atoms) (ground_task task) (reached_task reached)
  names = record {
    back = slice_get atoms;
    back_kept = λ n a e. (numbers.place_among is_same_atom atom_same same_atom atoms n a e, number_is n a e);
    named_back = at_number;
    same_is = same_atom;
    same_is' = eqb-true;
    same_named = λ a b in_a in_b. both_ways (nat_eq (number_of atoms a) (number_of atoms b)) (is_same_atom a b)
        (λ same. subst (λ c. is_same_atom a c ≡ true) (one a b in_a in_b (eqb-true (number_of atoms a) (number_of atoms b) same)) (atom_same a))
        (λ same. eq-eqb (number_of atoms a) (number_of atoms b) (ap (number_of atoms) (same_atom a b same)));
    derived_named = λ a in_a.
        ap (λ (facts : List Fact). option_map_or (λ fact. fact.derived) (slice_get facts (number_of atoms a)) false) is.is.facts
        ∙ ap (λ o. option_map_or (λ fact. fact.derived) o false) (slice_get-map (fact_of task) atoms (number_of atoms a) ∙ ap (option_map (fact_of task)) (at_number a in_a));
  }
    where
      one : (a b : GroundAtom) → is_among atoms a ≡ true → is_among atoms b ≡ true → number_of atoms a ≡ number_of atoms b → a ≡ b
      one a b in_a in_b same = same_Some a b (sym (at_number a in_a) ∙ ap (slice_get atoms) same ∙ at_number b in_b)

  pub settled : IsSettled (numbering atoms) (ground_task task) (reached_task reached)
  settled = record {
    init = is.is.init;
    actions = λ row. (subst (λ l. Contains l row) (sym is.is.actions), subst (λ l. Contains l row) is.is.actions);
    axioms = λ row. (subst (λ l. Contains l row) (sym is.is.axioms), subst (λ l. Contains l row) is.is.axioms);
    goal = is.is.goal;
  }

  has_stays : Stays (numbering atoms) (ground_task task)
  has_stays = stays (ground_task task) same_atom ranked atoms closed

  pub atoms_are : atoms_of reached ≡ atoms
  atoms_are = ap (map (λ (fact : Fact). fact.atom)) is.is.facts ∙ map_back (fact_of task) (λ fact. fact.atom) (λ a. refl) atoms

  among_atoms : (a : GroundAtom) → is_among atoms a ≡ true → Contains (atoms_of reached) a
  among_atoms a in' =
      let found = passing (is_same_atom a) atoms in' in
      subst (λ l. Contains l a) (sym atoms_are) (contains_among atoms a (subst (λ b. Among b atoms) (sym (same_atom a found.item found.passes)) found.among))

  own_meaning : MeansTheSame (meaning (ground_task task)) (meaning (reached_task reached)) (Shows (numbering atoms))
  own_meaning = settling.same_meaning (numbering atoms) (ground_task task) (reached_task reached) settled names has_stays

  pub same_meaning : MeansTheSame (meaning (ground_task task)) (meaning (reached_task reached)) (Shows (numbering (atoms_of reached)))
  same_meaning = subst (λ l. MeansTheSame (meaning (ground_task task)) (meaning (reached_task reached)) (Shows (numbering l))) (sym atoms_are) own_meaning

  pub true_are_facts : (state full : State GroundAtom) → IsReachable (meaning (ground_task task)) state → IsFull (meaning (ground_task task)) state full → (atom : GroundAtom) → full atom ≡ true → Contains (atoms_of reached) atom
  true_are_facts state full reachable is_full a true_a =
      let shown = own_meaning.reached state reachable in
      among_atoms a (true_from_ne_false (is_among atoms a) (λ out. true≢false (sym true_a ∙ has_stays.full state full shown.2.settled is_full a out)))

  pub no_recursion : IsRanked (reached_task reached)
  no_recursion = settling.still_ranked (numbering atoms) (ground_task task) (reached_task reached) settled names ranked
