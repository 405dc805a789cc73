use Rattle.std.proofs.Common.{ap, ◌∙◌}
use Rattle.fault_positions.specs.Heads.{takes}
use Rattle.fault_positions.proofs.heads.Heads.has.Goals as goal

pub returns : goal.returns
returns c = c.contains.ensures ∙ c.self.invariant.used (c.args.name, c.args.arity) ∙ ap (λ heads. takes heads c.args.name.now c.args.arity) c.self.view_is
