use Rattle.std.proofs.Common.{◌∙◌, ap}
use Rattle.reached_task.specs.Rules.{added}
use Rattle.reached_task.proofs.KeyedAtoms.{added_key}
use Rattle.reached_task.proofs.atoms.Atoms.add.Goals as goal

pub returns : goal.returns
returns c =
    added_key c.self.inside.table.keys c.args.self.now c.self.view_is c.key.result c.insert.new.self.keys c.in_ok-insert.ensures.keys ∙ ap (added c.args.self.now) c.key.ensures
