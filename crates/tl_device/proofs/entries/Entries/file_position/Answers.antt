use Rattle.std.proofs.Common.{◌≡◌, ◌∙◌, ◌<◌, length, sym, subst, IsSome}
use Rattle.tl_device.specs.memory.Entries.{file_at}
use Rattle.tl_device.proofs.EntryLemmas.{file_is, none_held}
use Rattle.tl_device.proofs.entries.Entries.file_position.Goals as goal

pub returns-then-exists-clause-file : goal.returns-then-exists-clause-file
returns-then-exists-clause-file c =
    let within : c.in_ok-i.i < length c.self.inside.items.items = rw c.self.view_is c.in_ok-i.ensures.found.within in
    let file : file_at c.self.inside.items.items c.in_ok-i.i ≡ c.index.result.now.file = file_is _ c.in_ok-i.i _ within c.index.ensures in
    rw (← c.self.view_is) (subst IsSome (sym file) (c.exists.ensures.0 c.if-exists.true))

pub returns-else-exists-clause-none : goal.returns-else-exists-clause-none
returns-else-exists-clause-none c =
    let within : c.in_ok-i.i < length c.self.inside.items.items = rw c.self.view_is c.in_ok-i.ensures.found.within in
    let file : file_at c.self.inside.items.items c.in_ok-i.i ≡ c.index.result.now.file = file_is _ c.in_ok-i.i _ within c.index.ensures in
    c.in_ok-i.ensures.found.file ∙ rw (← c.self.view_is) (file ∙ none_held _ (λ held. let yes = c.exists.ensures.1 held in cc))
