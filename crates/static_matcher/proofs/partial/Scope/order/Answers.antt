-- One variable more.
use Rattle.std.proofs.Common.{◌≡◌, ◌++◌, ◌∷◌, [], ℕ, List, true, subst, sym, arith}
use Rattle.std.specs.List.{Contains}
use Rattle.std.proofs.lemmas.List.Elements.{Contains-append_left, Contains-push}
use borrow.Author.Count.{below_more}
use Rattle.static_matcher.specs.Partial.{is_open_variable}
use Rattle.static_matcher.proofs.Searching.{open_at}
use Rattle.static_matcher.proofs.partial.Scope.order.Goals as goal

pub loop-variable-preserved : goal.loop-variable-preserved
loop-variable-preserved c =
    let before = c.loop-variable.order.items in
    let count = c.loop-variable.variable in
    let grown : c.push.new.self.items ≡ before ++ count ∷ [] = c.in_ok-push.ensures.items in
    below_more (λ variable. is_open_variable c.args.partial.now variable ≡ true → Contains c.push.new.self.items variable) count
    (λ variable low open_here. subst (λ (l : List ℕ). Contains l variable) (sym grown) (Contains-append_left before (count ∷ []) variable (c.loop-variable.invariant variable low open_here)))
    (λ open_here. subst (λ (l : List ℕ). Contains l count) (sym grown) (Contains-push before count))

pub returns : goal.returns
returns c variable open_here =
    let low = (open_at c.args.partial.now variable open_here).0 in
    let end = c.loop-variable-test.false in
    c.loop-variable.invariant variable (omega (arith, low, end)) open_here
