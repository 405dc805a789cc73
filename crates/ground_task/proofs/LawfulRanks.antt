-- The axioms of a lawful ground task have no recursion.
use Rattle.std.proofs.Common.{◌≡◌, ◌<◌, true, List, map, sym, subst}
use Rattle.std.specs.List.{list_all, Contains}
use Rattle.std.proofs.lemmas.Bool.{and_parts, ltb-true}
use Rattle.lists.proofs.Items.{Among, among_contains, map_source, all_passes}
use Rattle.normal_task.specs.declared.task.GroundAtom.{GroundAtom}
use Rattle.ground_task.specs.declared.types.Cond.{Cond}
use Rattle.ground_task.specs.declared.types.Ground.{Ground}
use Rattle.ground_task.specs.declared.types.GroundAxiom.{GroundAxiom}
use Rattle.ground_task.specs.GroundTask.{is_derived, axiom_row, ground_task}
use Rattle.ground_task.specs.Lawful.{is_below, asks_below, IsLawful}
use Rattle.ground_task.specs.Literals.{AxiomRow}
use Rattle.ground_task.specs.Ranked.{IsRanked}

module _ (task : Ground) (lawful : IsLawful task) where
  -- some of the condition's atoms, each of which is below the axiom's, or basic
  lower : (atoms : Cond GroundAtom → List GroundAtom) → ((rule : GroundAxiom) → asks_below task lawful.rank rule ≡ true → list_all (is_below task lawful.rank rule.atom.predicate) (atoms rule.condition) ≡ true) →
      (row : AxiomRow GroundAtom) → Contains (map axiom_row task.axioms) row → (atom : GroundAtom) → Contains (atoms row.condition) atom → is_derived task.normal_predicates atom ≡ true → lawful.rank atom.predicate < lawful.rank row.atom.predicate
  lower atoms asks row in' atom in_atom is =
      let from = map_source axiom_row task.axioms row (among_contains (map axiom_row task.axioms) row in') in
      let inside = subst (λ (r : AxiomRow GroundAtom). Among atom (atoms r.condition)) (sym from.gives) (among_contains (atoms row.condition) atom in_atom) in
      let below =
      all_passes (is_below task lawful.rank from.source.atom.predicate) atom (atoms from.source.condition) inside
      (asks from.source (all_passes (asks_below task lawful.rank) from.source task.axioms from.among lawful.falls)) in
      subst (λ (r : AxiomRow GroundAtom). lawful.rank atom.predicate < lawful.rank r.atom.predicate) from.gives
      (ltb-true (lawful.rank atom.predicate) (lawful.rank from.source.atom.predicate) (rw is at below))

  both : (rule : GroundAxiom) → asks_below task lawful.rank rule ≡ true →
      (list_all (is_below task lawful.rank rule.atom.predicate) rule.condition.positive ≡ true) × (list_all (is_below task lawful.rank rule.atom.predicate) rule.condition.negative ≡ true)
  both rule = and_parts (list_all (is_below task lawful.rank rule.atom.predicate) rule.condition.positive) (list_all (is_below task lawful.rank rule.atom.predicate) rule.condition.negative)

  pub lawful_ranks : IsRanked (ground_task task)
  lawful_ranks = record {
    rank = λ atom. lawful.rank atom.predicate;
    positive = lower (λ condition. condition.positive) (λ rule asks. (both rule asks).0);
    negative = lower (λ condition. condition.negative) (λ rule asks. (both rule asks).1);
  }
