-- That the stages have one task for a pair, whatever order their answers are listed in.
use Rattle.std.specs.Prelude.{◌≡◌, Bool, List}
use Rattle.command_line.specs.declared.accepted.Settings.{Settings}
use Rattle.type_checker.specs.Checked.{FilePair}
use Rattle.normal_task.specs.declared.task.Normal.{Normal}
use Rattle.invariant_guess.specs.declared.types.Found.{Found}
use Rattle.pass_book.specs.declared.kind.PassKind.{PassKind}
use Rattle.sas_task.specs.Task.{Task}
use Rattle.run_task.specs.RunTask.{IsRunTask, IsTaskOf}

-- a normal task has one task of a run, with what was found for it, over whole groups or not
abbrev pub OneRunTask : Type 0
OneRunTask = (full : Bool) (task : Normal) (found : Found) (one other : Task) → IsRunTask full task found one → IsRunTask full task found other → one ≡ other

-- two tasks that are made of one pair with one number of candidates, both over whole groups or neither, and the same passes are equal, and so is what is found
abbrev pub OneTaskOfPair : Type 0
OneTaskOfPair =
    (pair : FilePair) (settings settings' : Settings) (passes : List PassKind) (found found' : Found) (one other : Task) → settings.max_candidates ≡ settings'.max_candidates → settings.full_encoding ≡ settings'.full_encoding →
    IsTaskOf pair settings passes found one → IsTaskOf pair settings' passes found' other → (found ≡ found') × (one ≡ other)
