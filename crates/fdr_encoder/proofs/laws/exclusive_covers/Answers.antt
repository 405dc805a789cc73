-- A set of two facts or more lies inside a group.
use Rattle.fdr_encoder.proofs.Covers.{exclusive_from_groups, exclusive_by_groups, singles_exclusive}
use Rattle.fdr_encoder.proofs.laws.exclusive_covers.Goals as goal

pub returns : goal.returns
returns c = record { single_facts = singles_exclusive; of_groups = exclusive_from_groups; by_groups = exclusive_by_groups }
