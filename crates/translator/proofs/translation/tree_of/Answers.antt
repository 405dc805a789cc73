use Rattle.translator.proofs.Stages.{given_unless, refused_unless}
use Rattle.translator.proofs.translation.tree_of.Goals as goal

pub returns-in-Ok : goal.returns-in-Ok
returns-in-Ok c = given_unless _ _ _ _ c.in-Ok.ensures.faultless c.in-Ok.ensures.nested

pub returns-in-Err-Fault : goal.returns-in-Err-Fault
returns-in-Err-Fault c = refused_unless _ _ _ c.in-Err-Fault.field-0 c.in-Err-Fault.fault c.in-Err-Fault.field-0-is c.in-Err-Fault.ensures.first
