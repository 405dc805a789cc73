-- A lawful normal task keeps its static predicates, and its instances have no recursion.
use Rattle.std.proofs.Common.{◌≡◌, ℕ, ◌<◌, Bool, true, false, not, ◌&&◌, ◌||◌, inl, inr, List, length, Option, Some, None, refl, sym, ap, ◌∙◌, subst}
use Rattle.std.specs.Prelude.{filter, ◌==◌, nat_lt, slice_get, unwrap_or}
use Rattle.std.specs.List.{All, list_all, flat_map, Contains}
use Rattle.std.specs.Option.{option_map}
use Rattle.std.proofs.lemmas.Bool.{and_parts, or_cases, true≢false, not-true, ltb-true}
use Rattle.lists.proofs.Items.{Among, among_contains, map_source, flat_map_piece, all_passes}
use Rattle.normal_task.specs.declared.task.AxiomRow.{AxiomRow as AxiomSchema}
use Rattle.normal_task.specs.declared.task.EffectRow.{EffectRow as EffectSchema}
use Rattle.normal_task.specs.declared.task.GroundAtom.{GroundAtom}
use Rattle.normal_task.specs.declared.task.Normal.{Normal}
use Rattle.normal_task.specs.declared.task.PredicateRow.{PredicateRow}
use Rattle.normal_task.specs.declared.task.Schema.{Schema}
use Rattle.normal_task.specs.Lawful as normal
use Rattle.normal_task.specs.Lawful.{is_word}
use Rattle.normal_task.specs.Meaning.{choices}
use Rattle.ground_task.specs.GroundTask.{is_derived, is_fixed}
use Rattle.ground_task.specs.Instances.{signed_atoms, all_fit, axiom_of, axioms_of, instance_task}
use Rattle.ground_task.specs.Statics.{KeepsStatics}
use Rattle.ground_task.specs.Literals.{AxiomRow}
use Rattle.ground_task.specs.Ranked.{IsRanked}
use Rattle.ground_task.proofs.LawfulGround.{signed}
use Rattle.ground_task.proofs.Statics.{all_if}

-- a row that isn't both derived and fixed
one_kind : (derived fixed : Bool) → not (derived && fixed) ≡ true → fixed ≡ true → derived ≡ false
one_kind true true is both = sym is
one_kind true false is both = sym both
one_kind false fixed is both = refl

-- a predicate whose row says that it isn't fixed
free : (task : Normal) (test : PredicateRow → Bool) (row : Option PredicateRow) → normal.has_row task (λ declared. test declared && not declared.fixed) row ≡ true → unwrap_or (option_map (λ (row : PredicateRow). row.fixed) row) false ≡ false
free task test None is = refl
free task test (Some row) is = not-true row.fixed (and_parts (test row) (not row.fixed) is).1

module _ (task : Normal) (lawful : normal.IsLawful task) where
  pub keeps_statics : KeepsStatics task
  keeps_statics = record {
    basic = all_if (λ (row : PredicateRow). row.fixed ≡ true → row.derived ≡ false) task.predicates (λ row among.
        one_kind row.derived row.fixed
        (and_parts (is_word row.name) (not (row.derived && row.fixed)) (all_passes (λ (row : PredicateRow). is_word row.name && not (row.derived && row.fixed)) row task.predicates among lawful.predicates)).1);
    effects = all_if (λ (schema : Schema). All (λ (row : EffectSchema). is_fixed task.predicates row.predicate ≡ false) schema.effects) task.schemas (λ schema among.
        all_if (λ (row : EffectSchema). is_fixed task.predicates row.predicate ≡ false) schema.effects (λ row among_row.
        let count = length schema.parameters in
        let effects = (and_parts _ (list_all (normal.is_effect task count) schema.effects) (and_parts _ (normal.is_cost task count schema.cost) (all_passes (normal.is_schema task) schema task.schemas among lawful.schemas)).0).1 in
        free task (λ declared. declared.arity == length row.places && not declared.derived) (slice_get task.predicates row.predicate)
        (and_parts _ (normal.is_predicate task (λ declared. (declared.arity == length row.places && not declared.derived) && not declared.fixed) row.predicate) (all_passes (normal.is_effect task count) row schema.effects among_row effects)).1));
  }

  -- ---- ranks

  below : (rank : ℕ → ℕ) (predicate : ℕ) (atom : GroundAtom) → (not (is_derived task.predicates atom) || nat_lt (rank atom.predicate) (rank predicate)) ≡ true → is_derived task.predicates atom ≡ true → rank atom.predicate < rank predicate
  below rank predicate atom is derived = elim (or_cases (not (is_derived task.predicates atom)) (nat_lt (rank atom.predicate) (rank predicate)) is) [
    | inl basic ↦ absurd (true≢false (sym (sym (ap not derived) ∙ basic)))
    | inr lower ↦ ltb-true (rank atom.predicate) (rank predicate) lower
  ]

  falls : (sign : Bool) (row : AxiomRow GroundAtom) → Contains (instance_task task).axioms row → (atom : GroundAtom) →
      ((schema : AxiomSchema) (objects : List ℕ) → axiom_of schema objects ≡ row → Among atom (signed_atoms sign objects schema.condition)) → is_derived task.predicates atom ≡ true → lawful.rank atom.predicate < lawful.rank row.atom.predicate
  falls sign row within atom inside derived =
      let piece = flat_map_piece axioms_of task.axioms row (among_contains (flat_map axioms_of task.axioms) row within) in
      let schema = piece.source in
      let from = map_source (axiom_of schema) (filter (λ objects. all_fit objects schema.condition) (choices schema.parameters)) row piece.inside in
      let all = all_passes (λ (rule : AxiomSchema). list_all (normal.is_below task lawful.rank rule.predicate) rule.condition) schema task.axioms piece.among lawful.falls in
      let test : GroundAtom → Bool = λ asked. not (is_derived task.predicates asked) || nat_lt (lawful.rank asked.predicate) (lawful.rank schema.predicate) in
      let lower = all_passes test atom (signed_atoms sign from.source schema.condition) (inside schema from.source from.gives)
      (signed (normal.is_below task lawful.rank schema.predicate) test sign from.source (λ positive predicate places is. is) schema.condition all) in
      subst (λ (r : AxiomRow GroundAtom). lawful.rank atom.predicate < lawful.rank r.atom.predicate) from.gives (below lawful.rank schema.predicate atom lower derived)

  pub instances_ranked : IsRanked (instance_task task)
  instances_ranked = record {
    rank = λ atom. lawful.rank atom.predicate;
    positive = λ row within atom asked derived. falls true row within atom
        (λ schema objects gives. subst (λ (r : AxiomRow GroundAtom). Among atom r.condition.positive) (sym gives) (among_contains row.condition.positive atom asked)) derived;
    negative = λ row within atom asked derived. falls false row within atom
        (λ schema objects gives. subst (λ (r : AxiomRow GroundAtom). Among atom r.condition.negative) (sym gives) (among_contains row.condition.negative atom asked)) derived;
  }
