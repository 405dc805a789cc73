use Rattle.std.proofs.Common.{refl}
use Rattle.invariant_check.specs.Examples.{switch, back}
use Rattle.invariant_guess.specs.Examples.{bell}
use Rattle.invariant_guess.proofs.Queue.{tried_by}
use Rattle.invariant_guess.proofs.laws.worked_examples.Goals as goal

pub returns-clause-order_of_switch : goal.returns-clause-order_of_switch
returns-clause-order_of_switch c = refl

pub returns-clause-switch : goal.returns-clause-switch
returns-clause-switch c = record { tried = tried_by switch 100000 3 refl refl; accepted = refl }

pub returns-clause-two_of_switch : goal.returns-clause-two_of_switch
returns-clause-two_of_switch c = record { tried = tried_by switch 2 2 refl refl; accepted = refl }

pub returns-clause-none_of_switch : goal.returns-clause-none_of_switch
returns-clause-none_of_switch c = record { tried = tried_by switch 0 0 refl refl; accepted = refl }

pub returns-clause-back : goal.returns-clause-back
returns-clause-back c = record { tried = tried_by back 100000 4 refl refl; accepted = refl }

pub returns-clause-bell : goal.returns-clause-bell
returns-clause-bell c = record { tried = tried_by bell 100000 3 refl refl; accepted = refl }

pub returns-clause-blocks_tried : goal.returns-clause-blocks_tried
returns-clause-blocks_tried c = refl

pub returns-clause-blocks_accepted : goal.returns-clause-blocks_accepted
returns-clause-blocks_accepted c = refl
