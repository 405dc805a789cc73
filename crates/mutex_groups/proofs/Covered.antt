-- The instance that covers an atom, weights and members as they are counted.
use Rattle.std.proofs.Common.{◌≡◌, ℕ, ◌+◌, Bool, true, false, not, ◌&&◌, ◌||◌, ◌++◌, List, [], ◌∷◌, Option, Some, None, nat_eq, refl, sym, ap, ◌∙◌, subst, arith, if◌then◌else◌, append-nil}
use Rattle.std.specs.List.{list_any, filter, find, range_with_len, slice_get}
use Rattle.std.specs.Cmp.{nat_eq_equiv}
use Rattle.std.proofs.Math.Bool.{or-false}
use Rattle.std.specs.Option.{option_map, option_map_or}
use Rattle.std.specs.Cmp.Lexicographic.{pointwise}
use Rattle.std.proofs.lemmas.Bool.{true≢false, and_parts, not-true, eqb-true}
use Rattle.std.proofs.lemmas.List.Elements.{filter-append}
use Rattle.std.proofs.lemmas.Cmp.{nat_list_eq_equiv}
use Rattle.lists.proofs.Items.{none_passes, any_passes, filter_yes, filter_no}
use Rattle.lists.proofs.LoopSteps.{range_next}
use Rattle.names.specs.Names.{is_same}
use Rattle.normal_task.specs.declared.task.GroundAtom.{GroundAtom}
use Rattle.normal_task.specs.Lawful.{differ}
use Rattle.reached_task.specs.declared.types.Fact.{Fact}
use Rattle.contradictions.specs.declared.types.Candidate.{Candidate}
use Rattle.contradictions.specs.declared.types.Part.{Part}
use Rattle.contradictions.specs.Candidates.{at_positions, part_covers, covers}
use Rattle.mutex_groups.specs.Groups.{covers_fact}
use Rattle.mutex_groups.specs.Found.{parts_differ, instance_of}

-- ---- the instance that covers an atom

-- one of these covers the atom: its part's atoms have the objects of the instance
abbrev given : List ℕ → Option (List ℕ) → Bool
given instance found = option_map_or (λ own. is_same own instance) found false

covers-by : (instance : List ℕ) (atom : GroundAtom) (parts : List Part) → differ (λ part other. nat_eq part.predicate other.predicate) parts ≡ true →
    list_any (part_covers instance atom) parts ≡ given instance (option_map (λ (part : Part). at_positions 0 part.places atom.objects) (find (λ (part : Part). nat_eq part.predicate atom.predicate) parts))
covers-by instance atom [] apart = refl
covers-by instance atom (part ∷ parts) apart = by (nat_eq part.predicate atom.predicate) refl (covers-by instance atom parts sides.1)
  where
    sides : (not (list_any (λ (other : Part). nat_eq part.predicate other.predicate) parts) ≡ true) × (differ (λ part other. nat_eq part.predicate other.predicate) parts ≡ true)
    sides = and_parts (not (list_any (λ (other : Part). nat_eq part.predicate other.predicate) parts)) (differ (λ part other. nat_eq part.predicate other.predicate) parts) apart

    own : List ℕ
    own = at_positions 0 part.places atom.objects

    -- no other part is of the predicate
    alone : nat_eq part.predicate atom.predicate ≡ true → list_any (part_covers instance atom) parts ≡ false
    alone same = none_passes (part_covers instance atom) parts (λ other there covers'.
        let other_same = (and_parts (nat_eq other.predicate atom.predicate) (pointwise nat_eq (at_positions 0 other.places atom.objects) instance) covers').0 in
        let both : part.predicate ≡ other.predicate = eqb-true part.predicate atom.predicate same ∙ sym (eqb-true other.predicate atom.predicate other_same) in
        true≢false (sym (any_passes (λ (other : Part). nat_eq part.predicate other.predicate) other parts there (subst (λ (p : ℕ). nat_eq part.predicate p ≡ true) both (nat_eq_equiv.refl part.predicate)))
        ∙ not-true (list_any (λ (other : Part). nat_eq part.predicate other.predicate) parts) sides.0))

    by : (b : Bool) → nat_eq part.predicate atom.predicate ≡ b →
        list_any (part_covers instance atom) parts ≡ given instance (option_map (λ (part : Part). at_positions 0 part.places atom.objects) (find (λ (part : Part). nat_eq part.predicate atom.predicate) parts)) →
        ((b && pointwise nat_eq own instance) || list_any (part_covers instance atom) parts)
        ≡ given instance (option_map (λ (part : Part). at_positions 0 part.places atom.objects) (if b then Some part else find (λ (part : Part). nat_eq part.predicate atom.predicate) parts))
    by true same rest = ap (λ b. pointwise nat_eq own instance || b) (alone same) ∙ or-false (pointwise nat_eq own instance)
    by false differs rest = rest

pub covers-is : (candidate : Candidate) (instance : List ℕ) (atom : GroundAtom) → parts_differ candidate ≡ true → covers candidate instance atom ≡ given instance (instance_of candidate atom)
covers-is candidate instance atom apart = covers-by instance atom candidate.parts apart

-- what a found instance says
pub covers-some : (candidate : Candidate) (atom : GroundAtom) (own : List ℕ) → parts_differ candidate ≡ true → instance_of candidate atom ≡ Some own → (instance : List ℕ) → covers candidate instance atom ≡ is_same instance own
covers-some candidate atom own apart found instance = covers-is candidate instance atom apart ∙ ap (given instance) found ∙ nat_list_eq_equiv.symm own instance

pub covers-none : (candidate : Candidate) (atom : GroundAtom) → parts_differ candidate ≡ true → instance_of candidate atom ≡ None → (instance : List ℕ) → covers candidate instance atom ≡ false
covers-none candidate atom apart missing instance = covers-is candidate instance atom apart ∙ ap (given instance) missing

-- ---- one atom more, and one fact more

pub facts-next : (candidate : Candidate) (instance : List ℕ) (facts : List Fact) (i : ℕ) (fact : Fact) → slice_get facts i ≡ Some fact →
    filter (covers_fact candidate instance facts) (range_with_len 0 (i + 1))
    ≡ (if covers candidate instance fact.atom then filter (covers_fact candidate instance facts) (range_with_len 0 i) ++ i ∷ [] else filter (covers_fact candidate instance facts) (range_with_len 0 i))
facts-next candidate instance facts i fact at =
    ap (filter (covers_fact candidate instance facts)) (range_next 0 i ∙ ap (λ (n : ℕ). range_with_len 0 i ++ n ∷ []) (let e : 0 + i ≡ i = omega arith in e))
    ∙ filter-append (covers_fact candidate instance facts) (range_with_len 0 i) (i ∷ []) ∙ by (covers candidate instance fact.atom) refl
  where
    here : covers_fact candidate instance facts i ≡ covers candidate instance fact.atom
    here = ap (λ o. option_map_or (λ (fact : Fact). covers candidate instance fact.atom) o false) at

    start : List ℕ
    start = filter (covers_fact candidate instance facts) (range_with_len 0 i)

    by : (b : Bool) → covers candidate instance fact.atom ≡ b → start ++ filter (covers_fact candidate instance facts) (i ∷ []) ≡ (if b then start ++ i ∷ [] else start)
    by true yes' = ap (λ l. start ++ l) (filter_yes (covers_fact candidate instance facts) i [] (here ∙ yes'))
    by false no' = ap (λ l. start ++ l) (filter_no (covers_fact candidate instance facts) i [] (here ∙ no')) ∙ append-nil start
