use Rattle.std.proofs.Common.{◌≡◌, ◌++◌, ◌∷◌, [], ℕ, List, ◌∙◌, sym, ap, subst, refl, rules, if◌then◌else◌}
use Rattle.std.specs.Prelude.{IsSome}
use Rattle.names.specs.Names.{is_same}
use Rattle.ground_task.specs.Buckets.{numbers_in}
use Rattle.ground_task.proofs.KeyTables.{seen, numbered, numbers-some, numbers-none}
use Rattle.ground_task.proofs.buckets.Buckets.add.Goals as goal

pub returns-in_ok-push-in-Some : goal.returns-in_ok-push-in-Some
returns-in_ok-push-in-Some c =
    let found = sym c.in-Some.ensures.value in
    let updates = (c.get_mut.follows.holds c.push.new.self).3 (subst (λ o. IsSome o) (sym found) refl) in
    let was = numbers-some (λ key. key.items) (λ numbers. numbers.items) c.as_slice.result.now c.self.inside.table.entries c.args.self.now c.self.view_is c.in-Some.numbers.now found in
    subst (λ (l : List ℕ). (other : List ℕ) → numbers_in (seen (λ key. key.items) (λ numbers. numbers.items) (c.get_mut.follows.lender c.push.new.self).entries) other
    ≡ (if is_same other l then numbers_in c.args.self.now other ++ c.args.number ∷ [] else numbers_in c.args.self.now other)) c.as_slice.ensures.value
    (numbered (λ key. key.items) (λ numbers. numbers.items) c.as_slice.result.now c.self.inside.table.entries c.args.self.now c.self.view_is (c.get_mut.follows.lender c.push.new.self).entries c.push.new.self c.args.number
    (◌∙◌ {A = List ℕ} c.in_ok-push-in-Some.ensures.items (ap (λ (l : List ℕ). l ++ c.args.number ∷ []) (sym was))) updates.1 updates.3)

pub returns-in_ok-insert-in-None : goal.returns-in_ok-insert-in-None
returns-in_ok-insert-in-None c =
    let same = ap (λ map. seen (λ key. key.items) (λ numbers. numbers.items) map.entries) c.get_mut.follows.holds-at-none ∙ c.self.view_is in
    let none = sym (c.in-None.ensures.value) in
    let was = numbers-none (λ key. key.items) (λ numbers. numbers.items) c.as_slice.result.now c.self.inside.table.entries c.args.self.now c.self.view_is none in
    let is : c.match-branch-4.self ≡ seen (λ key. key.items) (λ numbers. numbers.items) c.insert.new.self.entries = search rules in
    subst (λ (s : List (List ℕ × List ℕ)). (other : List ℕ) → numbers_in s other ≡ (if is_same other c.args.key.items then numbers_in c.args.self.now other ++ c.args.number ∷ [] else numbers_in c.args.self.now other)) (sym is)
    (numbered (λ key. key.items) (λ numbers. numbers.items) c.args.key.items c.get_mut.follows.lender-at-none.entries c.args.self.now same c.insert.new.self.entries c.in_ok-vec-in-None.field-0 c.args.number
    (c.in_ok-vec-in-None.ensures.items ∙ ap (λ (l : List ℕ). l ++ c.args.number ∷ []) (sym (ap (numbers_in c.args.self.now) (sym c.as_slice.ensures.value) ∙ was)))
    c.in_ok-insert-in-None.ensures.updates.1 c.in_ok-insert-in-None.ensures.updates.3)
