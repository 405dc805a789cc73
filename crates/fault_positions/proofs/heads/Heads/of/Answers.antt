use Rattle.fault_positions.proofs.heads.Heads.of.Goals as goal

pub invariant_of-result : goal.invariant_of-result
invariant_of-result c = record { named = c.in_ok-names.ensures {u = tt}; used = c.in_ok-keys.ensures {u = tt} }
