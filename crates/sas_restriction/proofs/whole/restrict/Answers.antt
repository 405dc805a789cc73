-- The copy is the task.
use Rattle.std.proofs.Common.{map, sym, ap, subst, ◌∙◌}
use Rattle.sas_task.specs.Task.{Task}
use Rattle.sas_restriction.specs.Listed.{with_operators}
use Rattle.sas_restriction.specs.Choice.{IsChoice}
use Rattle.sas_restriction.specs.Restriction.{restriction}
use Rattle.sas_restriction.proofs.whole.restrict.Goals as goal

pub into_restriction-requires : goal.into_restriction-requires
into_restriction-requires c =
    let same = sym c.in_ok-copy.ensures in
    let leaves = c.requires.marks.0 in
    record { marks = (leaves, c.requires.marks.1 ∙ ap (λ (t : Task). map leaves t.operators) same, subst (IsChoice (with_operators c.args.shown.now leaves)) same c.requires.marks.2) }

pub returns : goal.returns
returns c leaves marks =
    c.in_ok-new.ensures leaves (marks ∙ ap (λ (t : Task). map leaves t.operators) (sym c.in_ok-copy.ensures))
    ∙ ap (restriction c.args.once (with_operators c.args.shown.now leaves)) c.in_ok-copy.ensures
