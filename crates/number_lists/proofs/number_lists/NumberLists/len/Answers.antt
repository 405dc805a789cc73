use Rattle.std.proofs.Common.{subst}
use Rattle.std.specs.List.{IsDistinct}
use Rattle.names.specs.Names.{is_same}
use Rattle.number_lists.proofs.Tables.{distinct_held}
use Rattle.number_lists.proofs.number_lists.NumberLists.len.Goals as goal

pub returns-clause-once : goal.returns-clause-once
returns-clause-once c = subst (IsDistinct is_same) c.self.view_is (distinct_held (λ list. list.items) c.self.inside.table.keys c.len.ensures.unique)
