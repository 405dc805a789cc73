-- The row of the number is shorter, and the others stay.
use Rattle.std.proofs.Common.{◌<◌, length, subst, ◌∙◌}
use Rattle.std.specs.Option.{option_to_list}
use Rattle.lists.proofs.RowSteps.{taken_at, others_at}
use Rattle.lists.proofs.rows.Rows.pop.Goals as goal

pub returns-then-place-len-clause-taken : goal.returns-then-place-len-clause-taken
returns-then-place-len-clause-taken g c =
    let within : c.args.number < length c.self.inside.rows.items = subst (λ n. c.args.number < n) (c.len.ensures ∙ c.self.inside.rows.ok.0) c.if-place-len.true in
    taken_at (λ row. row.items) c.self.inside.rows.items c.args.number c.index_mut.result.now c.pop.new.self (option_to_list c.pop.result) c.args.self.now c.self.view_is within c.index_mut.ensures.value c.pop.ensures.items

pub returns-then-place-len-clause-others : goal.returns-then-place-len-clause-others
returns-then-place-len-clause-others g c other apart = others_at (λ row. row.items) c.self.inside.rows.items c.args.number c.pop.new.self c.args.self.now c.self.view_is other apart
