use Rattle.std.proofs.Common.{length, take, true, ◌-◌, ◌≡◌, ◌≢◌, ◌≤◌, ◌<◌}
use Rattle.tl_device.specs.Contents.{HoldsCreated, grown}
use Rattle.tl_device.proofs.whole.put_all.Given as goal

abbrev pub invariant-loop-done : goal.invariant-loop-done
invariant-loop-done g l = record {
  within : l.done ≤ length l.bytes;
  files : g.F.Files.files l.files ≡ grown (g.F.Files.files l.fn.files) (g.F.Files.writing l.fn.files) (take l.done l.bytes);
  held : 0 < l.done → HoldsCreated (g.F.Files.files l.fn.files) true (g.F.Files.writing l.fn.files);
  asked : g.F.Files.asked l.files ≡ g.F.Files.asked l.fn.files;
  write_faults : g.F.Files.write_faults l.files ≡ g.F.Files.write_faults l.fn.files;
  created : g.F.Files.is_created l.files ≡ true;
  writing : g.F.Files.writing l.files ≡ g.F.Files.writing l.fn.files;
  begun : g.F.Files.is_begun l.files ≡ g.F.Files.is_begun l.fn.files;
  reading : g.F.Files.reading l.files ≡ g.F.Files.reading l.fn.files;
  rest : g.F.Files.reading l.fn.files ≢ g.F.Files.writing l.fn.files → g.F.Files.rest l.files ≡ g.F.Files.rest l.fn.files;
  taken : g.F.Files.taken l.files ≡ g.F.Files.taken l.fn.files;
  read_faults : g.F.Files.read_faults l.files ≡ g.F.Files.read_faults l.fn.files;
}

abbrev pub decreases-loop-done : goal.decreases-loop-done
decreases-loop-done g l = length l.bytes - l.done
