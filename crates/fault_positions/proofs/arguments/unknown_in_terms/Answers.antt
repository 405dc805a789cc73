use Rattle.std.proofs.Common.{rules}
use Rattle.fault_positions.specs.Names.{unknown_object}
use Rattle.fault_positions.proofs.arguments.unknown_in_terms.Goals as goal

pub returns : goal.returns
returns c = c.first_of.ensures (unknown_object c.args.objects.now.0 c.args.objects.now.1) (λ term at called. search rules)
