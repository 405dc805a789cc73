use Rattle.std.proofs.Common.{◌≡◌, ◌∙◌, ◌<◌, length, refl, subst, IsSome}
use Rattle.tl_device.specs.memory.Entries.{file_at}
use Rattle.tl_device.proofs.EntryLemmas.{file_is, entry_of}
use Rattle.tl_device.proofs.entries.Entries.content.Goals as goal

pub content-requires : goal.content-requires
content-requires c = subst IsSome (file_is _ c.args.i _ (rw c.self.view_is c.requires.within) c.index.ensures) (rw c.self.view_is c.requires.exists)

pub returns : goal.returns
returns c =
    let within : c.args.i < length c.self.inside.items.items = rw c.self.view_is c.requires.within in
    let file : file_at c.self.inside.items.items c.args.i ≡ c.index.result.now.file = file_is _ c.args.i _ within c.index.ensures in
    rw (← c.self.view_is) ((entry_of _ c.args.i _ c.self.invariant within refl).file ∙ file ∙ c.content.ensures)
