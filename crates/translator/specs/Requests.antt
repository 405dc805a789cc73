-- What the code holds of what a run is asked for.
use Rattle.command_line.specs.Accepted as words
use Rattle.translator.specs.declared.request.Request.{Request}
use Rattle.translator.specs.Asked.{Asked, with_kinds}

abbrev pub asked_by : Request → Asked
asked_by request = with_kinds (words.asked_by request.accepted) request.passes.items
