use Rattle.std.proofs.Common.{◌∙◌, sym}
use Rattle.mutex_groups.proofs.KeyTables.{weight-found}
use Rattle.mutex_groups.proofs.tables.Weights.weight.Goals as goal

pub returns : goal.returns
returns c =
    c.copied.ensures ∙ c.get.ensures.value ∙ sym (weight-found (λ key. key.items) c.args.instance.now c.self.inside.table.entries c.args.self.now c.self.view_is)
