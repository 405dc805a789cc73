-- The parts of well-formed candidates are of different predicates.
use Rattle.std.proofs.Common.{◌≡◌, true, not, List, [], ◌∷◌, nat_eq, refl, ap, arith}
use Rattle.std.specs.List.{list_any}
use Rattle.std.proofs.lemmas.Bool.{and_from, eqb-true}
use Rattle.lists.proofs.Items.{Among, among_map, none_passes}
use Rattle.normal_task.specs.declared.task.Normal.{Normal}
use Rattle.normal_task.specs.Lawful.{differ, is_rising}
use Rattle.contradictions.specs.declared.types.Candidate.{Candidate}
use Rattle.contradictions.specs.declared.types.Part.{Part}
use Rattle.invariant_check.specs.WellFormed.{is_well_formed}
use Rattle.normal_task.proofs.RisingLists.{rises_behind, below_rising}
use Rattle.invariant_check.proofs.FormedParts.{predicates, formed_facts}
use Rattle.mutex_groups.specs.Found.{parts_differ}

rising-differ : (parts : List Part) → is_rising (predicates parts) ≡ true → differ (λ part other. nat_eq part.predicate other.predicate) parts ≡ true
rising-differ [] is = refl
rising-differ (part ∷ parts) is =
    and_from (not (list_any (λ (other : Part). nat_eq part.predicate other.predicate) parts)) (differ (λ part other. nat_eq part.predicate other.predicate) parts)
    (ap not (none_passes (λ (other : Part). nat_eq part.predicate other.predicate) parts apart)) (rising-differ parts (rises_behind part.predicate (predicates parts) is))
  where
    apart : (other : Part) → Among other parts → nat_eq part.predicate other.predicate ≡ true → ⊥
    apart other there same =
        let low = below_rising part.predicate (predicates parts) is other.predicate (among_map (λ (p : Part). p.predicate) other parts there) in
        let equal = eqb-true part.predicate other.predicate same in
        omega (arith, low, equal)

pub formed-differ : (task : Normal) (candidate : Candidate) → is_well_formed task candidate ≡ true → parts_differ candidate ≡ true
formed-differ task candidate formed = rising-differ candidate.parts (formed_facts task candidate formed).by_predicate
