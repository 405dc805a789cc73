use Rattle.contradictions.proofs.Shared.{found, found_past, none_past}
use Rattle.contradictions.proofs.rising.Rising.first_from.Goals as goal

pub returns-in-Ok : goal.returns-in-Ok
returns-in-Ok c = found c.args.self.now.objects.now c.args.least c.in-Ok.field-0 c.in-Ok.ensures.position c.args.self.now.rises

pub returns-then-place-self : goal.returns-then-place-self
returns-then-place-self c = found_past c.args.self.now.objects.now c.args.least c.in-Err.place c.in-Err.ensures.position c.args.self.now.rises c.if-place-self.true

pub returns-else-place-self : goal.returns-else-place-self
returns-else-place-self c = none_past c.args.self.now.objects.now c.args.least c.in-Err.place c.in-Err.ensures.position c.args.self.now.rises c.if-place-self.false
