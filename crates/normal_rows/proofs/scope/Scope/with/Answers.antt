use Rattle.std.proofs.Common.{[], ◌∷◌, reverse, sym, ap, subst, ◌∙◌}
use Rattle.std.proofs.lemmas.List.{reverse-append}
use Rattle.normal_task.specs.Parts.{Scope}
use Rattle.normal_rows.specs.InScope.{HasNumbers}
use Rattle.normal_rows.proofs.InnerScopes.{numbers_more}
use Rattle.normal_rows.proofs.scope.Scope.with.Goals as goal

pub invariant_of-result : goal.invariant_of-result
invariant_of-result c =
    let before = c.self.inside.variables.items in
    subst (λ (scope : Scope). HasNumbers scope c.insert.new.self) (sym (ap reverse c.in_ok-push.ensures.items ∙ reverse-append before (c.args.variable ∷ [])))
    (numbers_more c.args.variable (reverse before) c.self.inside.numbers c.insert.new.self c.name.result c.place.result c.name.ensures c.place.ensures c.self.invariant c.in_ok-insert.ensures.updates)
