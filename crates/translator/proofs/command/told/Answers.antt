use Rattle.std.proofs.Common.{sym, subst}
use Rattle.translator.specs.Call.{whole, part, Printed}
use Rattle.translator.proofs.command.told.Goals as goal

pub returns-in-Ok : goal.returns-in-Ok
returns-in-Ok g c = subst (Printed _ _ _ _) (sym c.of.ensures) (whole c.in-Ok.ensures.ok c.in-Ok.ensures.cause.same)

pub returns-in-Err : goal.returns-in-Err
returns-in-Err g c = part c.in-Err.ensures.err c.in-Err.ensures.cause.rose
