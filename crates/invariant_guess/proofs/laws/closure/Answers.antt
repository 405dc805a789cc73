use Rattle.invariant_guess.proofs.Queue.{begun, repaired as all_repaired, nothing_else}
use Rattle.invariant_guess.proofs.laws.closure.Goals as goal

pub returns-clause-begins : goal.returns-clause-begins
returns-clause-begins c task number candidate in' = begun task number candidate in'

pub returns-clause-repaired : goal.returns-clause-repaired
returns-clause-repaired c task number candidate repair tried of = all_repaired task number candidate repair tried of

pub returns-clause-least : goal.returns-clause-least
returns-clause-least c task test first each number = nothing_else task test first each number
