use Rattle.std.proofs.Common.{length, true, ◌+◌, ◌-◌, ◌++◌, ◌≡◌, ◌≤◌}
use Rattle.tl_device.specs.Contents.{Holds, IsAskedFor}
use Rattle.tl_device.proofs.whole.read_all.Given as goal

abbrev pub invariant-loop-all : goal.invariant-loop-all
invariant-loop-all g l = record {
  asked : IsAskedFor (g.F.Files.asked l.files) l.name;
  begun : g.F.Files.is_begun l.files ≡ true;
  within : length l.all.items ≤ l.limit;
  whole : Holds (g.F.Files.files l.fn.files) l.name (l.all.items ++ g.F.Files.rest l.files);
  taken : g.F.Files.taken l.files ≡ length l.all.items;
  files : g.F.Files.files l.files ≡ g.F.Files.files l.fn.files;
  read_faults : g.F.Files.read_faults l.files ≡ g.F.Files.read_faults l.fn.files;
  created : g.F.Files.is_created l.files ≡ g.F.Files.is_created l.fn.files;
  writing : g.F.Files.writing l.files ≡ g.F.Files.writing l.fn.files;
  write_faults : g.F.Files.write_faults l.files ≡ g.F.Files.write_faults l.fn.files;
}

abbrev pub decreases-loop-all : goal.decreases-loop-all
decreases-loop-all g l = l.limit + 1 - length l.all.items
