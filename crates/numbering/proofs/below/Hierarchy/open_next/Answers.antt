use Rattle.numbering.proofs.FoundTypes.{grows_not}
use Rattle.numbering.proofs.below.Hierarchy.open_next.Goals as goal

pub returns-in-None : goal.returns-in-None
returns-in-None c = grows_not c.args.self.now.entries.now c.args.found.now
