use Rattle.numbering.proofs.FoundTypes.{found_below, grows_on}
use Rattle.numbering.proofs.below.Hierarchy.below.Goals as goal

pub returns : goal.returns
returns c =
    let entries = c.args.self.now.entries.now in
    found_below entries c.args.listed.now c.in_ok-found.found c.close.new.found c.in_ok-found.ensures
    (grows_on entries c.in_ok-found.found c.search.new.found c.close.new.found c.in_ok-search.ensures c.in_ok-close.ensures.grows) c.in_ok-close.ensures.closed
