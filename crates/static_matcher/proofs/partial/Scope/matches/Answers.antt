-- From the first objects on.
use Rattle.std.proofs.Common.{ℕ, Option, Vec, Global, subst, sym}
use Rattle.std.specs.Prelude.{IfSome, MatchOption}
use Rattle.static_matcher.specs.Partial.{Partial, all_ranges, MayMatch, Completes}
use Rattle.static_matcher.proofs.partial.Scope.matches.Goals as goal

pub push_matches-requires-clause-may : goal.push_matches-requires-clause-may
push_matches-requires-clause-may c =
    subst (λ (p : Partial). MayMatch c.args.self.now.tables.now c.args.self.now.literals.now (all_ranges c.args.self.now.start.now c.args.self.now.ranges.now) p) (sym c.as_mut_slice.ensures.value)
    (subst (λ (o : Option (Vec (Option ℕ) Global)). IfSome o (λ l. MayMatch c.args.self.now.tables.now c.args.self.now.literals.now (all_ranges c.args.self.now.start.now c.args.self.now.ranges.now) l.items)) c.in-Some.is c.in_ok-first.ensures.may)

pub returns-in_default-clause-whole : goal.returns-in_default-clause-whole
returns-in_default-clause-whole c binding is =
    absurd (subst (λ (o : Option (Vec (Option ℕ) Global)). MatchOption o ⊥ (λ l. Completes l.items binding)) c.in_default.is (c.in_ok-first.ensures.completes binding is))

pub returns-clause-whole : goal.returns-clause-whole
returns-clause-whole c binding is =
    c.in_ok-push_matches.ensures.whole binding is
    (subst (λ (p : Partial). Completes p binding) (sym c.as_mut_slice.ensures.value)
    (subst (λ (o : Option (Vec (Option ℕ) Global)). MatchOption o ⊥ (λ l. Completes l.items binding)) c.in-Some.is (c.in_ok-first.ensures.completes binding is)))
