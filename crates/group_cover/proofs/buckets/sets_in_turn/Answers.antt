-- The last bucket is opened, until there is none.
use Rattle.std.proofs.Common.{◌≡◌, ◌++◌, ◌∷◌, [], ℕ, ◌-◌, take, List, Vec, Global, map, subst, sym, ap, ◌∙◌}
use Rattle.std.proofs.lemmas.List.{map-append}
use Rattle.group_cover.specs.Waiting.{IsReached}
use Rattle.group_cover.proofs.Waiting.{opened, ended}
use Rattle.group_cover.proofs.buckets.sets_in_turn.Goals as goal

pub loop-opened-init : goal.loop-opened-init
loop-opened-init c =
    let groups = map (λ group. group.now) c.args.groups.now in
    let items = λ (bucket : Vec ℕ Global). bucket.items in
    subst (λ (sets : List (List ℕ)). IsReached c.args.full groups sets (map items c.in_ok-buckets.buckets.items) []) (sym c.new-sets.ensures) (c.in_ok-buckets.ensures c.args.full)

pub empty-requires-clause-reached : goal.empty-requires-clause-reached
empty-requires-clause-reached c =
    let groups = map (λ group. group.now) c.args.groups.now in
    let items = λ (bucket : Vec ℕ Global). bucket.items in
    opened c.args.full groups c.loop-opened.sets (map items c.pop.new.self.items) c.in-Some.opened.items
    (subst (λ (b : List (List ℕ)). IsReached c.args.full groups c.loop-opened.sets b []) (ap (map items) c.in-Some.ensures.items ∙ map-append items c.pop.new.self.items (c.in-Some.opened ∷ [])) c.loop-opened.invariant)

pub returns-clause-none_left : goal.returns-clause-none_left
returns-clause-none_left c =
    let groups = map (λ group. group.now) c.args.groups.now in
    let items = λ (bucket : Vec ℕ Global). bucket.items in
    let left = c.loop-opened.buckets.items in
    let none : left ≡ [] = c.in_default.ensures.items ∙ ap (λ (l : List (Vec ℕ Global)). l ++ []) (c.in_default.ensures.rest ∙ ap (λ (n : ℕ). take (n - 1) left) c.in_default.ensures.cases.0) in
    ended c.args.full groups c.loop-opened.sets (subst (λ (b : List (Vec ℕ Global)). IsReached c.args.full groups c.loop-opened.sets (map items b) []) none c.loop-opened.invariant)
