use Rattle.type_checker.proofs.OneIncrease.{increases_counted, increases_formed}
use Rattle.type_checker.proofs.laws.one_increase.Goals as goal

pub returns : goal.returns
returns c = record { one = increases_counted; outermost = increases_formed }
