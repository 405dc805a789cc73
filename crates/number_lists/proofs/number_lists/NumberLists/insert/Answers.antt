use Rattle.std.proofs.Common.{◌∙◌, not, ap}
use Rattle.number_lists.proofs.Tables.{has_held, key_added}
use Rattle.number_lists.proofs.number_lists.NumberLists.insert.Goals as goal

pub returns-clause-is_new : goal.returns-clause-is_new
returns-clause-is_new c = c.in_ok-is_new.ensures.added ∙ ap not (has_held (λ list. list.items) c.self.inside.table.keys c.args.self.now c.self.view_is c.args.list.items)

pub returns-clause-lists : goal.returns-clause-lists
returns-clause-lists c = key_added (λ list. list.items) c.self.inside.table.keys c.insert.new.self.keys c.args.self.now c.self.view_is c.args.list c.in_ok-is_new.ensures.keys
