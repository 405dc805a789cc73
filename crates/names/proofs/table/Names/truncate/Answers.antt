use Rattle.std.proofs.Common.{map, sym, ap, ◌∙◌, take}
use Rattle.std.proofs.lemmas.List.{take-map}
use Rattle.names.proofs.Tables.{Key}
use Rattle.names.proofs.table.Names.truncate.Goals as goal

pub returns : goal.returns
returns c =
    ap (map (λ (key : Key). key.now)) c.truncate.ensures.keys
    ∙ sym (take-map (λ (key : Key). key.now) c.args.len c.self.inside.table.keys)
    ∙ ap (take c.args.len) c.self.view_is
