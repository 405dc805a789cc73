use Rattle.std.proofs.Common.{◌∙◌}
use Rattle.normal_task.specs.Meaning.{is_same_atom}
use Rattle.reached_task.specs.AtomKeys.{Key, atom_of}
use Rattle.reached_task.proofs.KeyedAtoms.{place_in_keys, found_place, no_place}
use Rattle.reached_task.proofs.atoms.Atoms.position.Goals as goal

pub returns-in-Some : goal.returns-in-Some
returns-in-Some c =
    found_place (λ (key : Key). is_same_atom (atom_of c.args.atom) (atom_of key)) c.self.inside.table.keys c.in-Some.place c.in-Some.ensures.index
    ∙ place_in_keys c.self.inside.table.keys c.args.self.now c.self.view_is (atom_of c.args.atom)

pub returns-in-None : goal.returns-in-None
returns-in-None c =
    c.len.ensures.len
    ∙ no_place (λ (key : Key). is_same_atom (atom_of c.args.atom) (atom_of key)) c.self.inside.table.keys c.in-None.ensures.index
    ∙ place_in_keys c.self.inside.table.keys c.args.self.now c.self.view_is (atom_of c.args.atom)
