use Rattle.std.proofs.Common.{◌≡◌, ◌∙◌, sym, ap, arith}
use Rattle.std.specs.Option.{option_map}
use Rattle.tl_device.specs.memory.Entries.{open_file_at}
use Rattle.tl_device.specs.memory.FilesState.{position_of, position_in}
use Rattle.tl_device.proofs.mem_files.MemFiles.give.Goals as goal

pub returns-clause-taken : goal.returns-clause-taken
returns-clause-taken c =
    let position : position_of c.args.self.now ≡ c.in-Some.cursor.position = sym (ap position_of c.self.view_is) ∙ ap (λ r. position_in (option_map (open_file_at c.self.inside.entries) r)) c.in-Some.is in
    omega (arith, position, c.copy_front-count.ensures.count, c.rest.ensures.end)
