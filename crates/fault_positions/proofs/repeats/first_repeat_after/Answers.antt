use Rattle.std.proofs.Common.{rules}
use Rattle.pddl_syntax.specs.declared.types.Typed.{Typed}
use Rattle.fault_positions.proofs.repeats.first_repeat_after.Goals as goal

pub returns : goal.returns
returns c = c.first_repeat.ensures (λ (item : Typed). item.name) (λ item name called. search rules)
