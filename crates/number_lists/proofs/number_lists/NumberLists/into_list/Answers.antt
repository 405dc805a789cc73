use Rattle.std.proofs.Common.{◌≡◌, ◌∙◌, sym, subst, rules}
use Rattle.std.specs.List.{IsDistinct}
use Rattle.names.specs.Names.{is_same}
use Rattle.number_lists.proofs.Tables.{distinct_held}
use Rattle.number_lists.proofs.number_lists.NumberLists.into_list.Goals as goal

pub returns-clause-once : goal.returns-clause-once
returns-clause-once c =
    let same : c.from_vec.result ≡ c.args.self = search rules in
    subst (λ lists. IsDistinct is_same lists) (c.self.view_is ∙ sym same) (distinct_held (λ list. list.items) c.self.inside.table.keys c.into_iter.ensures.into_iter_gives.3)
