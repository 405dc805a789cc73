use Rattle.std.proofs.Common.{◌∙◌}
use Rattle.sas_reader.proofs.Ordered.{conditions_are}
use Rattle.sas_reader.proofs.requirements.Requirements.into_parts.Goals as goal

pub returns-clause-conditions : goal.returns-clause-conditions
returns-clause-conditions c = rw (← c.self.view_is) (λ variables below. c.from_vec.ensures ∙ c.in_ok-conditions.ensures.noted ∙ conditions_are c.self.inside.table variables c.self.inside.prevail c.self.inside.told.items c.noted_conditions.ensures.ordered c.self.invariant below)
