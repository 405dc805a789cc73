use Rattle.std.proofs.Common.{◌∙◌, ap, map}
use Rattle.contradictions.specs.Contradictory.{is_contradictory, has_contradiction, standing}
use Rattle.contradictions.specs.Merges.{all_ranges, as_pair, have_one_leader}
use Rattle.contradictions.proofs.Cases.{answers_too}
use Rattle.contradictions.proofs.contradictory.is_contradictory.Goals as goal

pub returns : goal.returns
returns c =
    let candidate = c.args.candidate.now in
    let ranges = all_ranges c.args.case.now.ranges in
    let literals = c.args.case.now.literals.now in
    let pairs = map as_pair c.args.case.now.equated.now in
    let instance = c.args.case.now.instance.now in
    let same = have_one_leader c.as_slice.result.now in
    answers_too c.contradicts.result (has_contradiction same candidate ranges literals (standing literals pairs instance) instance) (is_contradictory candidate ranges literals pairs instance)
    (ap (λ same. has_contradiction same candidate ranges literals (standing literals pairs instance) instance) (ap have_one_leader c.as_slice.ensures.value ∙ c.in_ok-merges.ensures))
    c.contradicts.ensures
