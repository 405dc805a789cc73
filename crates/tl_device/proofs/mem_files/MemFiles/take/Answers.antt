use Rattle.std.proofs.Common.{◌≡◌, ◌∙◌, [], unwrap_or, sym, ap, subst, IfSome, is_some, Some}
use Rattle.std.specs.Option.{option_map}
use Rattle.tl_device.specs.Contents.{HoldsCreated}
use Rattle.tl_device.specs.memory.Entries.{IsFileAt, name_at, contents}
use Rattle.tl_device.specs.memory.FilesState.{FilesState, name_written}
use Rattle.tl_device.proofs.FilesLemmas.{written_held, appended_held, rest_of-other, reading_kept, others_grow}
use Rattle.tl_device.proofs.mem_files.MemFiles.take.Goals as goal

pub returns-clause-rest : goal.returns-clause-rest
returns-clause-rest c differs =
    let name : name_at c.self.inside.entries c.in-Some.entry ≡ name_written c.args.self.now =
    sym (ap (λ w. unwrap_or (option_map (name_at c.self.inside.entries) w) []) c.in-Some.is) ∙ ap name_written c.self.view_is in
    rest_of-other c.args.self.now _ _ (name_written c.args.self.now)
    (reading_kept _ _ c.self.inside.reading c.append.ensures.places c.self.invariant.reads ∙ ap (λ s. s.reading) c.self.view_is)
    (others_grow c.args.self.now.files (contents c.self.inside.entries) (contents c.append.new.self) _ _ _ (ap (λ s. s.files) c.self.view_is) name c.append.ensures.contents)
    differs

-- there is a file of the name being written
abbrev IsHeld : FilesState → Type 0
IsHeld s = HoldsCreated (Some s.files) (is_some s.writing) (name_written s)

pub returns-then-is_listed-clause-held : goal.returns-then-is_listed-clause-held
returns-then-is_listed-clause-held c =
    subst IsHeld (sym c.write_fault.ensures) (subst IsHeld c.self.view_is (written_held c.self.inside.entries _ c.in-Some.entry c.in-Some.is c.free_room-free.ensures.held))

pub returns-then-not-is_empty-clause-held : goal.returns-then-not-is_empty-clause-held
returns-then-not-is_empty-clause-held c =
    subst IsHeld (sym c.write_fault-then-not-is_empty.ensures) (subst IsHeld c.self.view_is (written_held c.self.inside.entries _ c.in-Some.entry c.in-Some.is c.free_room-free.ensures.held))

pub returns-clause-held : goal.returns-clause-held
returns-clause-held c =
    let at : IsFileAt c.self.inside.entries c.in-Some.entry = subst (λ w. IfSome w (IsFileAt c.self.inside.entries)) c.in-Some.is c.self.invariant.writes in
    written_held c.append.new.self _ c.in-Some.entry c.in-Some.is
    (appended_held c.self.inside.entries c.append.new.self c.in-Some.entry _ at.within c.append.ensures.contents c.append.ensures.places c.free_room-free.ensures.held)
