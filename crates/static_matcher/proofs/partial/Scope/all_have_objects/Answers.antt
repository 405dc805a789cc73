-- A variable that has no object.
use Rattle.std.proofs.Common.{sym, subst}
use Rattle.static_matcher.specs.Partial.{Partial, Completes}
use Rattle.static_matcher.proofs.partial.Scope.all_have_objects.Goals as goal

pub returns-then-not-has-clause-none : goal.returns-then-not-has-clause-none
returns-then-not-has-clause-none c none binding match completes =
    c.in_ok-has.ensures.none c.if-not-has.true binding match (subst (λ (p : Partial). Completes p binding) (sym c.loop-variable.invariant) completes)
