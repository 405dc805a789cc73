use Rattle.std.proofs.Common.{sym, ◌∙◌}
use Rattle.sas_reader.proofs.Tabled.{allows_nothing, allows_prevail, allows_same}
use Rattle.sas_reader.proofs.requirements.Requirements.may_change.Goals as goal

pub returns-in-None : goal.returns-in-None
returns-in-None c = rw (← c.self.view_is) (allows_nothing c.self.inside.prevail c.self.inside.told.items c.args.var c.args.value (sym (c.self.invariant c.args.var) ∙ sym c.in-None.ensures.value))

pub returns-in-Some-Prevails : goal.returns-in-Some-Prevails
returns-in-Some-Prevails c =
    rw (← c.self.view_is) (allows_prevail c.self.inside.prevail c.self.inside.told.items c.args.var c.args.value c.in-Some-Prevails.field-0-0 (sym (c.self.invariant c.args.var) ∙ sym (rw c.in-Some-Prevails.field-0-is at c.in-Some-Prevails.ensures.value)))

pub returns-in-Some-Changes : goal.returns-in-Some-Changes
returns-in-Some-Changes c =
    rw (← c.self.view_is) (c.eq.ensures ∙ allows_same c.self.inside.prevail c.self.inside.told.items c.args.var c.args.value c.in-Some-Changes.earlier (sym (c.self.invariant c.args.var) ∙ sym (rw c.in-Some-Changes.field-0-is at c.in-Some-Changes.ensures.value)))
