use Rattle.invariant_guess.proofs.Queue.{some_order as order_of, some_number, one_number, tried_are_smaller, tried_are_first}
use Rattle.invariant_guess.proofs.laws.tried.Goals as goal

pub returns-clause-some_order : goal.returns-clause-some_order
returns-clause-some_order c task = order_of task

pub returns-clause-some : goal.returns-clause-some
returns-clause-some c task max = some_number task max

pub returns-clause-one : goal.returns-clause-one
returns-clause-one c task max number other one two = one_number task max number other one two

pub returns-clause-smaller : goal.returns-clause-smaller
returns-clause-smaller c task order is max number tried = tried_are_smaller task order is max number tried

pub returns-clause-first : goal.returns-clause-first
returns-clause-first c task order is max number tried = tried_are_first task order is max number tried
