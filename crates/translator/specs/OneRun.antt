-- That a run comes to one thing.
use Rattle.std.specs.Prelude.{◌≡◌}
use Rattle.tl_device.specs.Contents.{Contents}
use Rattle.translator.specs.Asked.{Asked}
use Rattle.translator.specs.Ending.{Ending}
use Rattle.run_task.specs.RunTask.{Output}
use Rattle.translator.specs.Run.{ComesTo}

-- what the files hold and what is asked for fix how a run ends, with the text and the summary that it writes
abbrev pub OneEnding : Type 0
OneEnding = (files : Contents) (asked : Asked) (one other : Ending Output) → ComesTo files asked one → ComesTo files asked other → one ≡ other
