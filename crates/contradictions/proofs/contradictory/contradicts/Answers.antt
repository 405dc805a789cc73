use Rattle.std.proofs.Common.{sym, ◌∙◌, map, subst}
use Rattle.lists.specs.SameMembers.{SameMembers}
use Rattle.contradictions.specs.Contradictory.{has_contradiction, standing}
use Rattle.contradictions.specs.Merges.{all_ranges, as_pair, have_one_leader}
use Rattle.contradictions.proofs.Cases.{answers_too}
use Rattle.contradictions.proofs.EachOnce.{same_contradiction}
use Rattle.contradictions.proofs.contradictory.contradicts.Goals as goal

pub returns : goal.returns
returns c =
    let candidate = c.args.candidate.now in
    let ranges = all_ranges c.args.case.now.ranges in
    let literals = c.args.case.now.literals.now in
    let instance = c.args.case.now.instance.now in
    let all = standing literals (map as_pair c.args.case.now.equated.now) instance in
    let same = have_one_leader c.args.merges.now in
    let alike = subst (SameMembers c.in_ok-terms.terms.items) (c.as_slice.ensures.value ∙ c.in_ok-all.ensures) c.in_ok-terms.ensures in
    let terms = c.as_slice-2.result.now in
    answers_too c.contradicts_over.result (has_contradiction same candidate ranges literals terms instance) (has_contradiction same candidate ranges literals all instance)
    (same_contradiction terms all (subst (λ terms. SameMembers terms all) (sym c.as_slice-2.ensures.value) alike) same candidate ranges literals instance)
    c.contradicts_over.ensures
