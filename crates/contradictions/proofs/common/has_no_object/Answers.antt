use Rattle.std.proofs.Common.{◌≡◌, ◌∷◌, ◌∙◌, ap, map, filter, subst}
use Rattle.std.specs.Prelude.{IfSome}
use Rattle.contradictions.specs.Common.{objects_in, TellsShared}
use Rattle.contradictions.specs.Contradictory.{objects_of}
use Rattle.contradictions.specs.Merges.{all_ranges, have_one_leader}
use Rattle.contradictions.proofs.Shared.{no_object}
use Rattle.contradictions.proofs.common.has_no_object.Goals as goal

pub returns-in-Some : goal.returns-in-Some
returns-in-Some c =
    let same = have_one_leader c.args.merges.now in
    let ranges = all_ranges c.args.ranges.now in
    let lists = objects_of ranges c.args.term.now ∷ map (objects_of ranges) (filter (same c.args.term.now) c.args.terms.now) in
    let made = subst (λ found. IfSome found (λ class. map objects_in class.items ≡ lists)) c.in-Some.is c.in_ok-class-in-Variable.ensures in
    no_object same ranges c.args.terms.now c.args.term.now c.share_some.result
    (subst (λ ls. TellsShared ls c.share_some.result) (ap (map objects_in) c.as_slice.ensures.value ∙ made) c.share_some.ensures)
