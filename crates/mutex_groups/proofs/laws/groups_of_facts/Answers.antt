use Rattle.mutex_groups.proofs.Exclusive.{are_sorted, are_facts, are_basic}
use Rattle.mutex_groups.proofs.laws.groups_of_facts.Goals as goal

pub returns : goal.returns
returns c = record { sorted = are_sorted; facts = are_facts; basic = are_basic }
