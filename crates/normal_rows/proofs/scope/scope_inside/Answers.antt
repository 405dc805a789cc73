use Rattle.std.proofs.Common.{ℕ, ap, ◌∙◌}
use Rattle.normal_task.specs.Numbers.{range_of}
use Rattle.normal_task.specs.Parts.{Slot}
use Rattle.normal_rows.proofs.InnerScopes.{one_more}
use Rattle.normal_rows.proofs.scope.scope_inside.Goals as goal

pub loop-index-preserved : goal.loop-index-preserved
loop-index-preserved c =
    let domain = c.args.numbering.now.domain in
    let problem = c.args.numbering.now.problem in
    let variable = c.index-variables-index.result in
    let slot : ℕ → Slot = λ place. record { variable = variable.name.name; range = range_of domain problem variable; place = place } in
    one_more domain problem c.args.variables.now c.args.place c.loop-index.index variable c.loop-index-test.true c.index-variables-index.is
    c.new.result c.loop-index.scope c.in_ok-scope-2.scope (c.new.ensures ∙ ap slot c.in_ok-number.ensures) c.in_ok-scope-2.ensures
    ∙ c.loop-index.invariant
