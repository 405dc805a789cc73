use Rattle.sas_reader.specs.Operators.{operator}
use Rattle.sas_reader.specs.Tables.{after_name}
use Rattle.sas_reader.proofs.operators.operator.Goals as goal

pub returns : goal.returns
unfolding operator after_name
returns c = rw (c.in_ok-fixed.ensures, c.in_ok-name.ensures) c.after_name.ensures
