use Rattle.std.proofs.Common.{rules}
use Rattle.fault_positions.specs.Initial.{denied_position}
use Rattle.fault_positions.proofs.initial.first_denied_of.Goals as goal

pub returns : goal.returns
returns c = c.try_first_of.ensures (denied_position c.args.init.now) (λ entry at called. search rules)
