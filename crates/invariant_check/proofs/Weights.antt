-- Weights of at most one.
use Rattle.std.proofs.Common.{◌≡◌, ℕ, ◌≤◌, true, false, List, [], ◌∷◌, length, inl, inr, refl, sym, ◌∙◌, subst, arith}
use Rattle.std.specs.List.{IsDistinct}
use Rattle.std.proofs.lemmas.Bool.{both_ways}
use Rattle.lists.proofs.Items.{Among, among_contains, contains_among}
use Rattle.normal_task.specs.declared.task.GroundAtom.{GroundAtom}
use Rattle.normal_task.specs.Meaning.{State, initial, is_same_atom}
use Rattle.contradictions.specs.declared.types.Candidate.{Candidate}
use Rattle.contradictions.specs.Candidates.{covers, IsAtMostOne, HasWeight}
use Rattle.invariant_check.specs.Soundness.{WeightsStayAtMostOne}
use Rattle.invariant_check.proofs.Sound.{invariants_are_sound}
use Rattle.normal_task.proofs.OnceEach.{atom_same}

pub only-one : {X : Type 0} (xs : List X) (x y : X) → length xs ≤ 1 → Among x xs → Among y xs → x ≡ y
only-one [] x y few none other = absurd none
only-one (z ∷ []) x y few (inl here) (inl there) = sym here ∙ there
only-one (z ∷ []) x y few (inl here) (inr none) = absurd none
only-one (z ∷ []) x y few (inr none) other = absurd none
only-one (z ∷ w ∷ xs) x y few one other = absurd (omega (arith, few))

pub most_of_weight : (state : State) (candidate : Candidate) (instance : List ℕ) (weight : ℕ) → HasWeight state candidate instance weight → weight ≤ 1 → IsAtMostOne state candidate instance
most_of_weight state candidate instance weight has few x y is-x is-y in-x in-y =
    only-one has.atoms x y (omega (arith, few, has.weight_is)) (among_contains has.atoms x ((has.are_those x).1 (is-x, in-x))) (among_contains has.atoms y ((has.are_those y).1 (is-y, in-y)))

differ : (x y : GroundAtom) (atoms : List GroundAtom) → IsDistinct is_same_atom (x ∷ y ∷ atoms) → is_same_atom x y ≡ false
unfolding IsDistinct
differ x y atoms once = once.0.0

few-atoms : (state : State) (candidate : Candidate) (instance : List ℕ) (atoms : List GroundAtom) → IsAtMostOne state candidate instance →
    ((x : GroundAtom) → Among x atoms → (covers candidate instance x ≡ true) × (state x ≡ true)) → IsDistinct is_same_atom atoms → length atoms ≤ 1
few-atoms state candidate instance [] most those once = omega arith
few-atoms state candidate instance (x ∷ []) most those once = omega arith
few-atoms state candidate instance (x ∷ y ∷ atoms) most those once =
    let one = those x (inl refl) in
    let other = those y (inr (inl refl)) in
    let same : x ≡ y = most x y one.0 other.0 one.1 other.1 in
    absurd (both_ways (is_same_atom x y) (differ x y atoms once) (subst (λ (z : GroundAtom). is_same_atom x z ≡ true) same (atom_same x)))

pub weights_stay : WeightsStayAtMostOne
weights_stay task candidate lawful basic accepted instance weight has few state reachable later has' =
    let most = invariants_are_sound task candidate lawful basic accepted instance (most_of_weight (initial task) candidate instance weight has few) state reachable in
    let small = few-atoms state candidate instance has'.atoms most (λ x there. (has'.are_those x).0 (contains_among has'.atoms x there)) has'.once in
    omega (arith, small, has'.weight_is)
