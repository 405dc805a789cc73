use Rattle.std.proofs.Common.{◌≡◌, ◌∙◌, sym, ap, Some}
use Rattle.mutex_groups.specs.Found.{told_more, weight_in}
use Rattle.mutex_groups.proofs.KeyTables.{counted}
use Rattle.mutex_groups.proofs.tables.Weights.count.Goals as goal
use Rattle.mutex_groups.proofs.tables.Weights.count.Goals.{in-Some, in-None}

pub returns : goal.returns
returns c =
    let was : c.weight.result ≡ weight_in c.args.self.now c.args.instance.items = c.weight.ensures ∙ ap (weight_in c.args.self.now) c.as_slice.ensures.value in
    let more : Some c.match-weight.weight ≡ told_more c.weight.result = elim c.match-weight.branch [
      | in-Some w ↦ ap (λ weight. Some weight) w.weight-is ∙ ap told_more (sym w.in-Some.is)
      | in-None w ↦ ap (λ weight. Some weight) w.weight-is ∙ ap told_more (sym w.in-None.is)
    ] in
    counted (λ key. key.items) c.args.instance.items c.self.inside.table.entries c.args.self.now c.self.view_is c.insert.new.self.entries c.match-weight.weight (more ∙ ap told_more was)
    c.in_ok-insert.ensures.updates.1 c.in_ok-insert.ensures.updates.3
