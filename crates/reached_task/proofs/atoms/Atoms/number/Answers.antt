use Rattle.std.proofs.Common.{◌∙◌, ap, cond, Some, None}
use Rattle.reached_task.specs.AtomKeys.{atom_of}
use Rattle.reached_task.specs.Reachable.{is_among, number_of}
use Rattle.reached_task.proofs.KeyedAtoms.{number_in_keys}
use Rattle.reached_task.proofs.atoms.Atoms.number.Goals as goal

pub returns-in-Some : goal.returns-in-Some
returns-in-Some c =
    c.in-Some.ensures.index ∙ number_in_keys c.self.inside.table.keys c.args.self.now c.self.view_is (atom_of c.key.result)
    ∙ ap (λ atom. cond (is_among c.args.self.now atom) (Some (number_of c.args.self.now atom)) None) c.key.ensures

pub returns-in-None : goal.returns-in-None
returns-in-None c =
    c.in-None.ensures.index ∙ number_in_keys c.self.inside.table.keys c.args.self.now c.self.view_is (atom_of c.key.result)
    ∙ ap (λ atom. cond (is_among c.args.self.now atom) (Some (number_of c.args.self.now atom)) None) c.key.ensures
