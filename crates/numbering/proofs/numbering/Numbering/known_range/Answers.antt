use Rattle.std.proofs.Common.{◌≡◌, map, subst, ◌∙◌, arith}
use Rattle.type_checker.specs.Checked.{FilePair}
use Rattle.numbering.specs.Below.{objects_of_type}
use Rattle.numbering.proofs.KnownTypes.{known_at}
use Rattle.numbering.proofs.numbering.Numbering.known_range.Goals as goal

pub returns-then-place-len-clause-range : goal.returns-then-place-len-clause-range
returns-then-place-len-clause-range c =
    let domain = c.args.self.now.domain in
    let problem = c.args.self.now.problem in
    let types = c.self.inside.known.types in
    let ranges = c.self.inside.known.ranges.items in
    let ranged : ranges ≡ map (objects_of_type domain problem) types =
    subst (λ (p : FilePair). ranges ≡ map (objects_of_type p.domain p.problem) types) c.self.view_is c.self.invariant.1.1.ranged in
    known_at domain problem types ranges ranged c.in_ok-name.name.now c.position-place.result c.position-place.ensures.place (omega (arith, c.if-place-len.true, c.len.ensures, c.self.inside.known.ranges.ok.0)) c.index.result.now c.index.ensures
    ∙ c.in_ok-name.ensures.objects domain problem
