use Rattle.std.proofs.Common.{◌∙◌, ap}
use Rattle.reached_task.specs.AtomKeys.{atom_of}
use Rattle.reached_task.specs.Reachable.{number_of}
use Rattle.reached_task.specs.Rules.{added}
use Rattle.reached_task.proofs.KeyedAtoms.{added_key, place_in_keys}
use Rattle.reached_task.proofs.atoms.Atoms.place.Goals as goal

pub returns-clause-added : goal.returns-clause-added
returns-clause-added c =
    added_key c.self.inside.table.keys c.args.self.now c.self.view_is c.key.result c.insert_full.new.self.keys c.in_ok-place.ensures.keys ∙ ap (added c.args.self.now) c.key.ensures

pub returns-clause-place : goal.returns-clause-place
returns-clause-place c =
    c.in_ok-place.ensures.index ∙ place_in_keys c.self.inside.table.keys c.args.self.now c.self.view_is (atom_of c.key.result) ∙ ap (number_of c.args.self.now) c.key.ensures
