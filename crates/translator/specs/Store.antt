-- What a store and a console tell at a time.
use Rattle.std.specs.Prelude.{◌≡◌, ◌⊎◌, ℕ, Bool, List, Contains}
use Rattle.std.specs.declared.option.Option.{Option}
use Rattle.tl_device.specs.Contents.{Contents, IsAskedFor}
use Rattle.tl_device.specs.declared.device.Files.{Ghosts}
use Rattle.tl_device.specs.declared.device.Console.{Ghosts as ConsoleGhosts}

-- what a store tells, but for the file that is being read
pub record Store : Type 0 where
  pub files : Option Contents
  -- the name that was asked for last
  pub asked : Option (List ℕ)
  -- the name being written, and whether there is one
  pub writing : List ℕ
  pub created : Bool
  -- how often reading and writing have failed
  pub reads : ℕ
  pub writes : ℕ

abbrev pub store : {F : Type 0} → Ghosts F → F → Store
store ghosts f =
    record {
      files = ghosts.files f;
      asked = ghosts.asked f;
      writing = ghosts.writing f;
      created = ghosts.is_created f;
      reads = ghosts.read_faults f;
      writes = ghosts.write_faults f;
    }

-- The store is as it was, but for the name that was asked for last and for failed reads: no file was created, and all are as before.
pub record IsUntouched (before now : Store) : Type 0 where
  pub files : now.files ≡ before.files
  pub writing : now.writing ≡ before.writing
  pub created : now.created ≡ before.created
  pub writes : now.writes ≡ before.writes

-- The name that was asked for last is as before, or is one of these names.
abbrev pub AsksForNoOther : Store → Store → List (List ℕ) → Type 0
AsksForNoOther before now names = (now.asked ≡ before.asked) ⊎ ((name : List ℕ) × Contains names name × IsAskedFor now.asked name)

-- what a console tells
pub record Screen : Type 0 where
  pub printed : Option (List ℕ)
  -- how often printing has failed
  pub faults : ℕ

abbrev pub screen : {C : Type 0} → ConsoleGhosts C → C → Screen
screen ghosts c = record { printed = ghosts.printed c; faults = ghosts.faults c }
