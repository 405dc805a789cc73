use Rattle.std.proofs.Common.{◌∙◌}
use Rattle.number_lists.proofs.Tables.{has_held}
use Rattle.number_lists.proofs.number_lists.NumberLists.has.Goals as goal

pub returns : goal.returns
returns c = c.contains.ensures ∙ has_held (λ list. list.items) c.self.inside.table.keys c.args.self.now c.self.view_is c.args.list.now
