-- The row of the number is longer.
use Rattle.std.proofs.Common.{◌<◌, length, subst, ◌∙◌}
use Rattle.lists.proofs.RowSteps.{pushed_at}
use Rattle.lists.proofs.rows.Rows.push.Goals as goal

pub returns-in_ok-push : goal.returns-in_ok-push
returns-in_ok-push g c =
    let within : c.args.number < length c.self.inside.rows.items = subst (λ n. c.args.number < n) (c.len.ensures ∙ c.self.inside.rows.ok.0) c.if-place-len.true in
    pushed_at (λ row. row.items) c.self.inside.rows.items c.args.number c.index_mut.result.now c.push.new.self c.args.item c.args.self.now c.self.view_is within c.index_mut.ensures.value c.in_ok-push.ensures.items
