use Rattle.group_cover.proofs.Parts.{covers_all, covers_once, share_as_groups}
use Rattle.group_cover.proofs.laws.sets_of_facts.Goals as goal

pub returns : goal.returns
returns c = record { some = covers_all; one = covers_once; shared = share_as_groups }
