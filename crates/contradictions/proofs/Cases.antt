-- A case that is built is the one of the definition.
use Rattle.std.proofs.Common.{◌≡◌, ℕ, Bool, List, map, Result, refl, ap, ◌∙◌, subst}
use Rattle.std.specs.Prelude.{zip, IfOk}
use Rattle.lists.proofs.Items.{map_back}
use Rattle.normal_task.specs.declared.task.Literal.{Literal}
use Rattle.normal_task.specs.declared.task.Place.{Place}
use Rattle.contradictions.specs.declared.terms.TermPair.{TermPair}
use Rattle.contradictions.specs.declared.types.Candidate.{Candidate}
use Rattle.contradictions.specs.Contradictory.{is_contradictory}
use Rattle.contradictions.specs.Merges.{as_pair, pair_of}

-- the answer to one test is that to another, where they are equal
pub answers_too : {E : Type 0} (result : Result Bool E) (test other : Bool) → test ≡ other → IfOk result (λ answer. answer ≡ test) → IfOk result (λ answer. answer ≡ other)
answers_too result test other same answer = subst (λ b. IfOk result (λ answer. answer ≡ b)) same answer

-- the pairs that were made of two lists of terms
pub equated_is : (equated : List TermPair) (left right : List Place) → equated ≡ map pair_of (zip left right) → map as_pair equated ≡ zip left right
equated_is equated left right made = ap (map as_pair) made ∙ map_back pair_of as_pair (λ pair. refl) (zip left right)

pub same_case : (candidate : Candidate) (ranges ranges' : List (List ℕ)) (literals literals' : List Literal) (pairs pairs' : List (Place × Place)) (instance instance' : List Place) →
    ranges ≡ ranges' → literals ≡ literals' → pairs ≡ pairs' → instance ≡ instance' → is_contradictory candidate ranges literals pairs instance ≡ is_contradictory candidate ranges' literals' pairs' instance'
same_case candidate ranges ranges' literals literals' pairs pairs' instance instance' r l p i =
    ap (λ ranges. is_contradictory candidate ranges literals pairs instance) r ∙ ap (λ literals. is_contradictory candidate ranges' literals pairs instance) l
    ∙ ap (λ pairs. is_contradictory candidate ranges' literals' pairs instance) p ∙ ap (λ instance. is_contradictory candidate ranges' literals' pairs' instance) i
