-- No derived atom of the instances of a checked pair's normal task depends on itself.
use Rattle.std.proofs.Common.{◌≡◌, ℕ, ◌<◌, Bool, true, false, List, [], ◌∷◌, sym, subst, inl, inr}
use Rattle.std.specs.Prelude.{filter, if◌then◌else◌}
use Rattle.std.specs.List.{flat_map, Contains}
use Rattle.pddl_syntax.specs.declared.types.Domain.{Domain}
use Rattle.pddl_syntax.specs.declared.types.Problem.{Problem}
use Rattle.type_checker.specs.Faults.{check_faults}
use Rattle.lists.proofs.Items.{Among, among_contains, map_source, flat_map_piece}
use Rattle.normal_task.specs.declared.task.AxiomRow.{AxiomRow as AxiomSchema}
use Rattle.normal_task.specs.declared.task.GroundAtom.{GroundAtom}
use Rattle.normal_task.specs.declared.task.Literal.{Literal}
use Rattle.normal_task.specs.declared.task.Literal.TheVariants.{Holds, Equal}
use Rattle.normal_task.specs.declared.task.Place.{Place}
use Rattle.normal_task.specs.Meaning.{atom_of, Binding, objects_at, choices, answers}
use Rattle.normal_task.specs.Normalised.{normal}
use Rattle.normal_task.proofs.Ranks.{rank, rank-falls}
use Rattle.ground_task.specs.Literals.{AxiomRow}
use Rattle.ground_task.specs.Instances.{signed_atom, signed_atoms, all_fit, axiom_of, axioms_of, instance_task}
use Rattle.ground_task.specs.Ranked.{IsRanked}

-- the literal that gives the atom
record Asks (literals : List Literal) (atom : GroundAtom) : Type 0 where
  positive : Bool
  places : List Place
  inside : Among (Holds positive atom.predicate places) literals

asks : (sign : Bool) (binding : Binding) (literals : List Literal) (atom : GroundAtom) → Among atom (signed_atoms sign binding literals) → Asks literals atom
asks sign binding literals atom among =
    let piece = flat_map_piece (signed_atom sign binding) literals atom among in
    by piece.source piece.among piece.inside
  where
    of_sign : (b : Bool) (made : GroundAtom) → Among atom (if b then made ∷ [] else []) → made ≡ atom
    of_sign true made (inl same) = same
    of_sign true made (inr none) = absurd none
    of_sign false made inside = absurd inside

    by : (l : Literal) → Among l literals → Among atom (signed_atom sign binding l) → Asks literals atom
    by (Equal positive left right) there inside = absurd inside
    by (Holds positive predicate places) there inside =
        let same = of_sign (answers sign positive) (atom_of predicate (objects_at binding places)) inside in
        subst (Asks literals) same (record { positive = positive; places = places; inside = there })

module _ (domain : Domain) (problem : Problem) (none : check_faults domain problem ≡ []) where
  falls : (sign : Bool) (row : AxiomRow GroundAtom) → Contains (instance_task (normal domain problem)).axioms row → (atom : GroundAtom) →
      ((schema : AxiomSchema) (objects : List ℕ) → axiom_of schema objects ≡ row → Among atom (signed_atoms sign objects schema.condition)) → rank domain problem none atom.predicate < rank domain problem none row.atom.predicate
  falls sign row within atom inside =
      let piece = flat_map_piece axioms_of (normal domain problem).axioms row (among_contains (flat_map axioms_of (normal domain problem).axioms) row within) in
      let schema = piece.source in
      let from = map_source (axiom_of schema) (filter (λ objects. all_fit objects schema.condition) (choices schema.parameters)) row piece.inside in
      let literal = asks sign from.source schema.condition atom (inside schema from.source from.gives) in
      subst (λ (r : AxiomRow GroundAtom). rank domain problem none atom.predicate < rank domain problem none r.atom.predicate) from.gives
      (rank-falls domain problem none schema piece.among literal.positive atom.predicate literal.places literal.inside)

  pub instances_ranked : IsRanked (instance_task (normal domain problem))
  instances_ranked = record {
    rank = λ atom. rank domain problem none atom.predicate;
    positive = λ row within atom asked derived. falls true row within atom
        (λ schema objects gives. subst (λ (r : AxiomRow GroundAtom). Among atom r.condition.positive) (sym gives) (among_contains row.condition.positive atom asked));
    negative = λ row within atom asked derived. falls false row within atom
        (λ schema objects gives. subst (λ (r : AxiomRow GroundAtom). Among atom r.condition.negative) (sym gives) (among_contains row.condition.negative atom asked));
  }
