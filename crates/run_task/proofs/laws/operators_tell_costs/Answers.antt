use Rattle.run_task.proofs.Encoded.{in_encodings, in_restrictions, in_projections}
use Rattle.run_task.proofs.laws.operators_tell_costs.Goals as goal

pub returns-clause-encodings : goal.returns-clause-encodings
returns-clause-encodings c = in_encodings

pub returns-clause-restrictions : goal.returns-clause-restrictions
returns-clause-restrictions c = in_restrictions

pub returns-clause-projections : goal.returns-clause-projections
returns-clause-projections c = in_projections
