use Rattle.invariant_guess.proofs.Queue.{all_formed, each_once as once, front_of}
use Rattle.std.proofs.Common.{suc, arith}
use Rattle.invariant_guess.proofs.laws.queues.Goals as goal

pub returns-clause-well_formed : goal.returns-clause-well_formed
returns-clause-well_formed c task number = all_formed task number

pub returns-clause-each_once : goal.returns-clause-each_once
returns-clause-each_once c task number = once task number

pub returns-clause-goes_on : goal.returns-clause-goes_on
returns-clause-goes_on c task number = front_of task number (suc number) (omega arith)
