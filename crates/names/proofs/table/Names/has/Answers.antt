use Rattle.std.proofs.Common.{sym, ap, ◌∙◌}
use Rattle.std.specs.List.{list_any}
use Rattle.names.specs.Names.{is_same}
use Rattle.names.proofs.Tables.{list_any-now}
use Rattle.names.proofs.table.Names.has.Goals as goal

pub returns : goal.returns
returns c =
    let test = is_same c.args.name.now in
    c.contains.ensures ∙ sym (ap (list_any test) (sym c.self.view_is) ∙ list_any-now test c.self.inside.table.keys)
