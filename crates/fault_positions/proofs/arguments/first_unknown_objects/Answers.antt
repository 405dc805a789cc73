use Rattle.std.proofs.Common.{refl}
use Rattle.fault_positions.proofs.arguments.first_unknown_objects.Goals as goal

pub returns : goal.returns
returns c = rw (c.first_unknown_object.ensures, c.first_unknown_object-2.ensures, c.in_ok-objects.ensures, c.requires.in_domain, c.requires.in_problem) refl
