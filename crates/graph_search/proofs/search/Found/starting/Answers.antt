use Rattle.std.proofs.Common.{fold, ap, ◌∙◌}
use Rattle.graph_search.specs.Search.{with_number}
use Rattle.graph_search.proofs.search.Found.starting.Goals as goal

pub returns : goal.returns
returns c = c.in_ok-add_all.ensures ∙ ap (λ found. fold with_number found c.args.starts.now) c.in_ok-found.ensures
