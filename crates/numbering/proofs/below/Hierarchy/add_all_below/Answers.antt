use Rattle.numbering.proofs.FoundTypes.{grows_not, grows_on}
use Rattle.numbering.proofs.below.Hierarchy.add_all_below.Goals as goal

pub loop-position-init : goal.loop-position-init
loop-position-init c = grows_not c.args.self.now.entries.now c.args.found.now

pub loop-position-preserved : goal.loop-position-preserved
loop-position-preserved c = grows_on c.args.self.now.entries.now c.args.found.now c.loop-position.found c.add_at.new.found c.loop-position.invariant c.in_ok-add_at.ensures
