use Rattle.std.proofs.Common.{sym, ◌∙◌}
use Rattle.invariant_check.proofs.AtOnce.{one_atom}
use Rattle.invariant_check.proofs.light.is_light_beside_row.Goals as goal

pub returns-then-add_one_atom : goal.returns-then-add_one_atom
returns-then-add_one_atom c =
    sym (one_atom c.args.candidate.now c.args.schema.now c.args.one.now.part.now c.args.one.now.row.now c.args.row.now (sym c.add_one_atom.ensures ∙ c.if-add_one_atom.true))
