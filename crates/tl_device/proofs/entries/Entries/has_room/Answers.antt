use Rattle.tl_device.proofs.EntryLemmas.{room_is}
use Rattle.tl_device.proofs.entries.Entries.has_room.Goals as goal

pub returns : goal.returns
returns c =
    let room = room_is _ c.args.i _ (rw c.self.view_is c.requires) c.index.ensures in
    rw (← c.self.view_is, room) c.has_room.ensures
