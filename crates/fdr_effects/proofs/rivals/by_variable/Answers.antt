-- Each call of the closure gives a rival's variable.
use Rattle.std.proofs.Common.{◌≡◌, rules}
use Rattle.std.proofs.lemmas.List.Sorted.{IsNonDecreasingBy-from_sort_by_key, answers_always}
use Rattle.fdr_effects.specs.declared.rivals.Rival.{Rival}
use Rattle.fdr_effects.proofs.rivals.by_variable.Goals as goal

pub returns-clause-in_order : goal.returns-clause-in_order
returns-clause-in_order c =
    IsNonDecreasingBy-from_sort_by_key (λ (r : Rival). r.var) c.sort_by_key.new.self.items c.in_ok-sort_by_key.ensures.sorted (λ a r q k. search rules)

pub returns-clause-stable : goal.returns-clause-stable
returns-clause-stable c =
    c.sort_by_key.ensures.stable (λ (r : Rival). r.var) (answers_always _ (λ a r. r ≡ a.0.now.var) _ (λ f a r f' call. search rules))
