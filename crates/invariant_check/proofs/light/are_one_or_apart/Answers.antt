use Rattle.std.proofs.Common.{◌≡◌, ◌∙◌, ap, map, sym, false}
use Rattle.std.specs.Prelude.{◌&&◌, nat_eq}
use Rattle.contradictions.specs.Contradictory.{are_same_terms, has_contradiction, standing}
use Rattle.contradictions.specs.Merges.{all_ranges, as_pair, have_one_leader}
use Rattle.contradictions.proofs.Cases.{answers_too}
use Rattle.invariant_check.specs.Attempts.{are_one_or_apart}
use Rattle.invariant_check.proofs.AddCases.{apart_by_classes}
use Rattle.invariant_check.proofs.light.are_one_or_apart.Goals as goal

pub returns : goal.returns
returns c =
    let candidate = c.args.candidate.now in
    let ranges = all_ranges c.args.case.now.ranges in
    let literals = c.args.case.now.literals.now in
    let pairs = map as_pair c.args.case.now.equated.now in
    let instance = c.args.case.now.instance.now in
    let one = c.args.one.now in
    let other = c.args.other.now in
    let same = have_one_leader c.as_slice-2.result.now in
    let leaders : c.as_slice.result.now ≡ c.as_slice-2.result.now = c.as_slice.ensures.value ∙ sym c.as_slice-2.ensures.value in
    let two : (nat_eq one.predicate other.predicate && are_same_terms same one.places.now other.places.now) ≡ false =
    ap (λ merges. nat_eq one.predicate other.predicate && are_same_terms (have_one_leader merges) one.places.now other.places.now) (sym leaders) ∙ sym c.are_one.ensures ∙ c.if-are_one.false in
    answers_too c.contradicts.result (has_contradiction same candidate ranges literals (standing literals pairs instance) instance)
    (are_one_or_apart candidate ranges literals pairs instance one.predicate one.places.now other.predicate other.places.now)
    (apart_by_classes candidate ranges literals pairs instance one.predicate one.places.now other.predicate other.places.now same (ap have_one_leader c.as_slice-2.ensures.value ∙ c.in_ok-merges.ensures) two)
    c.contradicts.ensures
