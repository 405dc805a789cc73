-- What a part has that is for so many parameters, and the parts of a well-formed candidate.
use Rattle.std.proofs.Common.{◌≡◌, ℕ, ◌<◌, true, ◌&&◌, List, map, length}
use Rattle.std.specs.Prelude.{nat_eq, nat_lt}
use Rattle.std.specs.Cmp.{nat_eq_equiv}
use Rattle.std.specs.List.{list_all}
use Rattle.std.proofs.lemmas.Bool.{and_parts, and_from, eqb-true, eq-eqb, ltb-true, lt-ltb}
use Rattle.lists.proofs.Items.{Among, each_passes, all_passes}
use Rattle.lists.proofs.NoRepeats.{Once}
use Rattle.normal_task.specs.declared.task.Normal.{Normal}
use Rattle.normal_task.specs.Lawful.{differ, is_rising}
use Rattle.contradictions.specs.declared.types.Candidate.{Candidate}
use Rattle.contradictions.specs.declared.types.Part.{Part}
use Rattle.invariant_check.specs.Extensions.{is_changing, arity_of}
use Rattle.invariant_check.specs.WellFormed.{used_places, is_part_for, is_named_by_first, is_well_formed}
use Rattle.normal_task.proofs.RisingLists.{differ_once, once_differ}

-- what `is_part_for` says
pub record IsPartFor (task : Normal) (parameters : ℕ) (part : Part) : Type 0 where
  pub changes : is_changing task part.predicate ≡ true
  pub as_many : length part.places ≡ parameters
  pub all : length (used_places part) ≡ arity_of task part.predicate
  pub within : (place : ℕ) → Among place (used_places part) → place < arity_of task part.predicate
  pub once : Once (used_places part)

module _ (task : Normal) (parameters : ℕ) (part : Part) where
  pub part_facts : is_part_for task parameters part ≡ true → IsPartFor task parameters part
  part_facts is =
      let arity = arity_of task part.predicate in
      let last = and_parts (is_changing task part.predicate && nat_eq (length part.places) parameters && nat_eq (length (used_places part)) arity && list_all (λ place. nat_lt place arity) (used_places part)) (differ nat_eq (used_places part)) is in
      let fourth = and_parts (is_changing task part.predicate && nat_eq (length part.places) parameters && nat_eq (length (used_places part)) arity) (list_all (λ place. nat_lt place arity) (used_places part)) last.0 in
      let third = and_parts (is_changing task part.predicate && nat_eq (length part.places) parameters) (nat_eq (length (used_places part)) arity) fourth.0 in
      let second = and_parts (is_changing task part.predicate) (nat_eq (length part.places) parameters) third.0 in
      record {
        changes = second.0;
        as_many = eqb-true (length part.places) parameters second.1;
        all = eqb-true (length (used_places part)) arity third.1;
        within = λ place there. ltb-true place arity (all_passes (λ p. nat_lt p arity) place (used_places part) there fourth.1);
        once = once_differ nat_eq nat_eq_equiv.refl (used_places part) last.1;
      }

  pub part_test : IsPartFor task parameters part → is_part_for task parameters part ≡ true
  part_test facts =
      let arity = arity_of task part.predicate in
      and_from (is_changing task part.predicate && nat_eq (length part.places) parameters && nat_eq (length (used_places part)) arity && list_all (λ place. nat_lt place arity) (used_places part)) (differ nat_eq (used_places part))
      (and_from (is_changing task part.predicate && nat_eq (length part.places) parameters && nat_eq (length (used_places part)) arity) (list_all (λ place. nat_lt place arity) (used_places part))
      (and_from (is_changing task part.predicate && nat_eq (length part.places) parameters) (nat_eq (length (used_places part)) arity)
      (and_from (is_changing task part.predicate) (nat_eq (length part.places) parameters) facts.changes (eq-eqb (length part.places) parameters facts.as_many))
      (eq-eqb (length (used_places part)) arity facts.all))
      (each_passes (λ p. nat_lt p arity) (used_places part) (λ place there. lt-ltb place arity (facts.within place there))))
      (differ_once nat_eq (λ x y is. eqb-true x y is) (used_places part) facts.once)

-- ---- parts in order

abbrev pub predicates : List Part → List ℕ
predicates parts = map (λ (part : Part). part.predicate) parts

-- what `is_well_formed` says
pub record AreFormed (task : Normal) (parameters : ℕ) (parts : List Part) : Type 0 where
  pub each : (part : Part) → Among part parts → IsPartFor task parameters part
  pub by_predicate : is_rising (predicates parts) ≡ true
  pub named : is_named_by_first parts ≡ true

pub formed_facts : (task : Normal) (candidate : Candidate) → is_well_formed task candidate ≡ true → AreFormed task candidate.parameters candidate.parts
formed_facts task candidate is =
    let last = and_parts (list_all (is_part_for task candidate.parameters) candidate.parts && is_rising (predicates candidate.parts)) (is_named_by_first candidate.parts) is in
    let first = and_parts (list_all (is_part_for task candidate.parameters) candidate.parts) (is_rising (predicates candidate.parts)) last.0 in
    record {
      each = λ part there. part_facts task candidate.parameters part (all_passes (is_part_for task candidate.parameters) part candidate.parts there first.0);
      by_predicate = first.1;
      named = last.1;
    }

pub formed_test : (task : Normal) (candidate : Candidate) → AreFormed task candidate.parameters candidate.parts → is_well_formed task candidate ≡ true
formed_test task candidate facts =
    and_from (list_all (is_part_for task candidate.parameters) candidate.parts && is_rising (predicates candidate.parts)) (is_named_by_first candidate.parts)
    (and_from (list_all (is_part_for task candidate.parameters) candidate.parts) (is_rising (predicates candidate.parts))
    (each_passes (is_part_for task candidate.parameters) candidate.parts (λ part there. part_test task candidate.parameters part (facts.each part there))) facts.by_predicate)
    facts.named
