use Rattle.std.proofs.Common.{◌∙◌, ap, Some}
use Rattle.tl_device.specs.Contents.{emptied}
use Rattle.tl_device.specs.memory.Entries.{contents}
use Rattle.tl_device.proofs.Grown.{others_emptied}
use Rattle.tl_device.proofs.FilesLemmas.{emptied_held, rest_of-other, reading_kept}
use Rattle.tl_device.proofs.mem_files.MemFiles.create.Goals as goal

pub returns-in-Some-clause-rest : goal.returns-in-Some-clause-rest
returns-in-Some-clause-rest c differs = rest_of-other c.args.self.now _ _ c.args.name.now
    (reading_kept _ _ c.self.inside.reading c.empty.ensures.places c.self.invariant.reads ∙ ap (λ s. s.reading) c.self.view_is)
    (others_emptied (Some c.args.self.now.files) (Some (contents c.empty.new.self)) c.args.name.now
    (ap Some c.empty.ensures.contents ∙ ap (λ n. emptied (Some (contents c.self.inside.entries)) n) c.in-Some.ensures.found.named ∙ ap (λ s. emptied (Some s.files) c.args.name.now) c.self.view_is))
    differs

pub returns-in-Some-clause-held : goal.returns-in-Some-clause-held
returns-in-Some-clause-held c = emptied_held c.self.inside.entries c.empty.new.self c.in-Some.entry c.in-Some.ensures.found.within c.empty.ensures.contents c.empty.ensures.places
