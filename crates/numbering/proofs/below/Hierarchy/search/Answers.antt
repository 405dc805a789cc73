use Rattle.numbering.proofs.FoundTypes.{grows_not, grows_on}
use Rattle.numbering.proofs.below.Hierarchy.search.Goals as goal

pub loop-init : goal.loop-init
loop-init c = grows_not c.args.self.now.entries.now c.args.found.now

pub loop-preserved : goal.loop-preserved
loop-preserved c = grows_on c.args.self.now.entries.now c.args.found.now c.loop.found c.open_next.new.found c.loop.invariant c.in_ok-open_next.ensures
