-- A ground task has one reached task, which doesn't depend on the order of actions and axioms but for its own. The layers don't depend on that order.
use Rattle.std.proofs.Common.{◌≡◌, ℕ, Bool, true, ◌&&◌, List, map, filter, length, inl, inr, refl, sym, ap, ◌∙◌, subst}
use Rattle.std.specs.List.{Contains}
use Rattle.lists.proofs.Items.{among_contains, contains_among, any_passes, passing, map_back}
use Rattle.lists.proofs.Members.{map_member, member_map}
use Rattle.planning.specs.Task.{State}
use Rattle.normal_task.specs.declared.task.GroundAtom.{GroundAtom}
use Rattle.normal_task.specs.declared.task.PredicateRow.{PredicateRow}
use Rattle.normal_task.specs.Meaning.{is_same_atom}
use Rattle.ground_task.specs.declared.types.GoalRow.{GoalRow}
use Rattle.ground_task.specs.declared.types.Ground.{Ground}
use Rattle.ground_task.specs.Alike.{AreAlike as AreAlikeGround}
use Rattle.ground_task.specs.GroundTask.{ground_task}
use Rattle.ground_task.specs.Literals.{EffectRow, ActionRow, AxiomRow}
use Rattle.ground_task.specs.Settled.{Settling, is_open, kept_action, kept_actions, kept_axiom, kept_axioms, kept_goal}
use Rattle.lists.specs.SameMembers.{SameMembers}
use Rattle.lists.proofs.SameMembers.{turned_round, mapped, filtered}
use Rattle.reached_task.specs.declared.types.Fact.{Fact}
use Rattle.reached_task.specs.declared.types.Reached.{Reached}
use Rattle.reached_task.specs.declared.types.ReachedAction.{ReachedAction}
use Rattle.reached_task.specs.declared.types.ReachedAxiom.{ReachedAxiom}
use Rattle.reached_task.specs.declared.types.ReachedEffect.{ReachedEffect}
use Rattle.reached_task.specs.Alike.{AreAlike}
use Rattle.reached_task.specs.Layers.{RestsOn, AreLayers}
use Rattle.reached_task.specs.Reachable.{IsClosed, is_among, AreReachable, number_of, numbering, fact_of, IsReachedBy, IsReachedTask}
use Rattle.reached_task.specs.ReachedTask.{is_derived, effect_row, action_row, axiom_row}
use Rattle.reached_task.proofs.OneLayers.{one_layers}
use Rattle.reached_task.proofs.SameFacts.{same_facts}
use Rattle.normal_task.proofs.OnceEach.{same_atom, atom_same}

-- where the items are known by what they are mapped to
module _ {X Y : Type 0} (f : X → Y) (g : Y → X) (back : (x : X) → g (f x) ≡ x) where
  unmap_part : (xs ys : List X) → ((y : Y) → Contains (map f xs) y → Contains (map f ys) y) → (x : X) → Contains xs x → Contains ys x
  unmap_part xs ys to x in' =
      let from = map_member f ys (f x) (to (f x) (member_map f xs x in')) in
      subst (Contains ys) (sym (back from.0) ∙ ap g from.2 ∙ back x) from.1

  unmapped : (xs ys : List X) → SameMembers (map f xs) (map f ys) → SameMembers xs ys
  unmapped xs ys same x = (unmap_part xs ys (λ y. (same y).0) x, unmap_part ys xs (λ y. (same y).1) x)

same_kept : {X Y : Type 0} (f : X → Y) (p : X → Bool) (xs ys : List X) → SameMembers xs ys → SameMembers (map f (filter p xs)) (map f (filter p ys))
same_kept f p xs ys same = mapped f (filter p xs) (filter p ys) (filtered p xs ys same)

-- ---- ground tasks

ground_back : (a b : Ground) → AreAlikeGround a b → AreAlikeGround b a
ground_back a b is =
    record {
      predicates = sym is.predicates;
      objects = sym is.objects;
      init = sym is.init;
      actions = turned_round (ground_task a).actions (ground_task b).actions is.actions;
      axioms = turned_round (ground_task a).axioms (ground_task b).axioms is.axioms;
      goal = sym is.goal;
      metric = sym is.metric;
    }

-- ---- the reachable facts

closed_alike : (a b : Ground) → AreAlikeGround a b → (set : State GroundAtom) → IsClosed (ground_task a) set → IsClosed (ground_task b) set
closed_alike a b is set closed =
    record {
      init = λ atom in'. closed.init atom (subst (λ (l : List GroundAtom). Contains l atom) (sym is.init) in');
      axioms = λ row in' ready. closed.axioms row ((is.axioms row).1 in') ready;
      effects = λ row effect in' in-effects adds ready ready'. closed.effects row effect ((is.actions row).1 in') in-effects adds ready ready';
    }

among_atoms : (atoms : List GroundAtom) (atom : GroundAtom) → is_among atoms atom ≡ true → Contains atoms atom
among_atoms atoms atom is =
    let found = passing (is_same_atom atom) atoms is in
    subst (Contains atoms) (sym (same_atom atom found.item found.passes)) (contains_among atoms found.item found.among)

reached_part : (a b : Ground) → AreAlikeGround a b → (xs ys : List GroundAtom) → AreReachable a xs → AreReachable b ys → (atom : GroundAtom) → Contains xs atom → Contains ys atom
reached_part a b is xs ys one other atom in' =
    among_atoms ys atom
    (one.least.least (is_among ys) (closed_alike b a (ground_back a b is) (is_among ys) other.least.closed) atom
    (any_passes (is_same_atom atom) atom xs (among_contains xs atom in') (atom_same atom)))

one_list : (a b : Ground) → AreAlikeGround a b → (xs ys : List GroundAtom) → AreReachable a xs → AreReachable b ys → xs ≡ ys
one_list a b is xs ys one other =
    same_facts xs ys one.in_order other.in_order (reached_part a b is xs ys one other) (reached_part b a (ground_back a b is) ys xs other one)

-- ---- reached tasks

abbrev effect_back : EffectRow ℕ → ReachedEffect
effect_back row = record { condition = row.condition; adds = row.adds; fact = row.atom }

abbrev action_back : ActionRow ℕ → ReachedAction
action_back row = record { name = row.name; condition = row.condition; effects = map effect_back row.effects; cost = row.cost }

abbrev axiom_back : AxiomRow ℕ → ReachedAxiom
axiom_back row = record { fact = row.atom; condition = row.condition }

action_is : (action : ReachedAction) → action_back (action_row action) ≡ action
action_is action =
    let mk = λ (es : List ReachedEffect). let r : ReachedAction = record { name = action.name; condition = action.condition; effects = es; cost = action.cost } in r in
    let one : mk (map effect_back (map effect_row action.effects)) ≡ mk action.effects = ap mk (map_back effect_row effect_back (λ e. refl) action.effects) in
    one

axiom_is : (row : ReachedAxiom) → axiom_back (axiom_row row) ≡ row
axiom_is row = refl

facts_alike : (a b : Ground) → AreAlikeGround a b → (atoms : List GroundAtom) → map (fact_of a) atoms ≡ map (fact_of b) atoms
facts_alike a b is atoms =
    let mk = λ (ps : List PredicateRow) (os : List (List ℕ)). let r : Ground = record { normal_predicates = ps; objects = os; init = b.init; actions = b.actions; axioms = b.axioms; goal = b.goal; metric = b.metric } in r in
    let one : map (fact_of (mk a.normal_predicates a.objects)) atoms ≡ map (fact_of (mk b.normal_predicates b.objects)) atoms =
    ap (λ ps. map (fact_of (mk ps a.objects)) atoms) is.predicates ∙ ap (λ os. map (fact_of (mk b.normal_predicates os)) atoms) is.objects in
    one

reached_by_alike : (a b : Ground) → AreAlikeGround a b → (atoms : List GroundAtom) (one other : Reached) → IsReachedBy a atoms one → IsReachedBy b atoms other → AreAlike one other
reached_by_alike a b is atoms one other p q =
    record {
      facts = p.facts ∙ facts_alike a b is atoms ∙ sym q.facts;
      init = p.init ∙ ap (λ (l : List GroundAtom). map (number_of atoms) (filter (is_among atoms) l)) is.init ∙ sym q.init;
      actions =
          unmapped action_row action_back action_is one.actions other.actions
          (subst (λ l. SameMembers l (map action_row other.actions)) (sym p.actions)
          (subst (λ l. SameMembers (kept_actions by (ground_task a).actions) l) (sym q.actions)
          (same_kept (kept_action by) (λ (row : ActionRow GroundAtom). is_open by row.condition) (ground_task a).actions (ground_task b).actions is.actions)));
      axioms =
          unmapped axiom_row axiom_back axiom_is one.axioms other.axioms
          (subst (λ l. SameMembers l (map axiom_row other.axioms)) (sym p.axioms)
          (subst (λ l. SameMembers (kept_axioms by (ground_task a).axioms) l) (sym q.axioms)
          (same_kept (kept_axiom by) (λ (row : AxiomRow GroundAtom). by.keeps row.atom && is_open by row.condition) (ground_task a).axioms (ground_task b).axioms is.axioms)));
      goal = p.goal ∙ ap (λ (g : GoalRow GroundAtom). kept_goal by g) is.goal ∙ sym q.goal;
      metric = p.metric ∙ is.metric ∙ sym q.metric;
    }
  where
    by : Settling GroundAtom ℕ
    by = numbering atoms

pub one_reached_task : (a b : Ground) → AreAlikeGround a b → (one other : Reached) → IsReachedTask a one → IsReachedTask b other → AreAlike one other
one_reached_task a b is one other p q =
    reached_by_alike a b is q.atoms one other (subst (λ atoms. IsReachedBy a atoms one) (one_list a b is p.atoms q.atoms p.reachable q.reachable) p.is) q.is

-- ---- layers

reached_back : (a b : Reached) → AreAlike a b → AreAlike b a
reached_back a b is =
    record {
      facts = sym is.facts;
      init = sym is.init;
      actions = turned_round a.actions b.actions is.actions;
      axioms = turned_round a.axioms b.axioms is.axioms;
      goal = sym is.goal;
      metric = sym is.metric;
    }

rests_alike : (a b : Reached) → AreAlike a b → (fact low : ℕ) → RestsOn a fact low → RestsOn b fact low
rests_alike a b is fact low rests =
    record {
      axiom' = rests.axiom';
      of_task = (is.axioms rests.axiom').0 rests.of_task;
      for_fact = rests.for_fact;
      named = rests.named;
      derived = ap (λ (fs : List Fact). is_derived fs low) (sym is.facts) ∙ rests.derived;
    }

layers_alike : (a b : Reached) → AreAlike a b → (layers : List ℕ) → AreLayers a layers → AreLayers b layers
layers_alike a b is layers are =
    record {
      count = are.count ∙ ap (λ (fs : List Fact). length fs) is.facts;
      basic = λ fact below basic. are.basic fact below (ap (λ (fs : List Fact). is_derived fs fact) is.facts ∙ basic);
      above = λ fact low below rests. are.above fact low below (rests_alike b a (reached_back a b is) fact low rests);
      least = λ fact below. elim (are.least fact below) [
        | inl none ↦ inl none
        | inr some ↦ inr (some.0, rests_alike a b is fact some.0 some.1, some.2)
      ];
    }

pub one_layers_of_alike : (a b : Reached) → AreAlike a b → (layers others : List ℕ) → AreLayers a layers → AreLayers b others → layers ≡ others
one_layers_of_alike a b is layers others one other = one_layers b layers others (layers_alike a b is layers one) other
