-- The part by which an instance covers an atom.
use Rattle.std.proofs.Common.{◌≡◌, ℕ, true, List, subst}
use Rattle.std.specs.Cmp.Lexicographic.{pointwise}
use Rattle.std.specs.Prelude.{nat_eq}
use Rattle.std.proofs.lemmas.Bool.{eqb-true, eq-eqb, and_parts, and_from}
use Rattle.lists.proofs.Items.{Among, any_passes, passing}
use Rattle.normal_task.specs.declared.task.GroundAtom.{GroundAtom}
use Rattle.contradictions.specs.declared.types.Candidate.{Candidate}
use Rattle.contradictions.specs.declared.types.Part.{Part}
use Rattle.contradictions.specs.Candidates.{at_positions, part_covers, covers}
use Rattle.names.proofs.SameNames.{same_name}
use Rattle.std.proofs.lemmas.Cmp.{nat_list_eq_equiv}

pub record Covering (candidate : Candidate) (instance : List ℕ) (atom : GroundAtom) : Type 0 where
  pub part : Part
  pub among : Among part candidate.parts
  pub same_predicate : part.predicate ≡ atom.predicate
  pub agrees : at_positions 0 part.places atom.objects ≡ instance

pub covering : (candidate : Candidate) (instance : List ℕ) (atom : GroundAtom) → covers candidate instance atom ≡ true → Covering candidate instance atom
covering candidate instance atom is =
    let found = passing (part_covers instance atom) candidate.parts is in
    let sides = and_parts (nat_eq found.item.predicate atom.predicate) (pointwise nat_eq (at_positions 0 found.item.places atom.objects) instance) found.passes in
    record { part = found.item; among = found.among; same_predicate = eqb-true found.item.predicate atom.predicate sides.0; agrees = same_name (at_positions 0 found.item.places atom.objects) instance sides.1 }

pub covered : (candidate : Candidate) (instance : List ℕ) (atom : GroundAtom) (part : Part) → Among part candidate.parts → part.predicate ≡ atom.predicate → at_positions 0 part.places atom.objects ≡ instance → covers candidate instance atom ≡ true
covered candidate instance atom part there same agrees =
    any_passes (part_covers instance atom) part candidate.parts there
    (and_from (nat_eq part.predicate atom.predicate) (pointwise nat_eq (at_positions 0 part.places atom.objects) instance) (eq-eqb part.predicate atom.predicate same)
    (subst (λ (os : List ℕ). pointwise nat_eq (at_positions 0 part.places atom.objects) os ≡ true) agrees (nat_list_eq_equiv.refl (at_positions 0 part.places atom.objects))))
