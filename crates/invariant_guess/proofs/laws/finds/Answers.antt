use Rattle.invariant_guess.proofs.Queue.{one_found, found_formed, found_accepted}
use Rattle.invariant_guess.proofs.laws.finds.Goals as goal

pub returns-clause-one : goal.returns-clause-one
returns-clause-one c task max found other is is' = one_found task max found other is is'

pub returns-clause-well_formed : goal.returns-clause-well_formed
returns-clause-well_formed c task max found is = found_formed task max found is

pub returns-clause-accepted : goal.returns-clause-accepted
returns-clause-accepted c task max found is = found_accepted task max found is
