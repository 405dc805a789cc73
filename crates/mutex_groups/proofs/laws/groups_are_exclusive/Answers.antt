use Rattle.mutex_groups.proofs.Exclusive as exclusive
use Rattle.mutex_groups.proofs.laws.groups_are_exclusive.Goals as goal

pub returns : goal.returns
returns c = exclusive.groups_are_exclusive
