use Rattle.std.proofs.Common.{◌∙◌}
use Rattle.sas_writer.proofs.Searches.{found_is_any}
use Rattle.sas_writer.proofs.operators.is_among.Goals as goal

pub returns : goal.returns
returns c =
    c.is_ok.ensures.value ∙ found_is_any c.args.sorted.now c.args.number c.binary_search.result c.binary_search.ensures.position c.requires
