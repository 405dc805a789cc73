-- All members are gone over.
use Rattle.std.proofs.Common.{◌++◌, List, map, sym, ap, ◌∙◌}
use Rattle.std.proofs.lemmas.Iterator.Adapters.{YieldsList-from_vec}
use Rattle.std.proofs.lemmas.Iterator.Consumers.{YieldsList-end}
use Rattle.lists.proofs.Items.{map_itself}
use Rattle.sas_task.specs.declared.parts.Pair.{Pair}
use Rattle.sas_task.specs.declared.parts.Effect.{Effect}
use Rattle.fdr_effects.proofs.effects.push_each.Goals as goal

pub returns : goal.returns
returns c =
    let given = c.into_iter-conditions-iterator.ensures.into_iter_gives in
    let end = YieldsList-end (YieldsList-from_vec {s = c.into_iter-conditions-iterator.result} c.args.members.items given.0 (given.1 ∙ c.args.members.ok.0)) c.loop-conditions.yielded c.loop-conditions.conditions-iterator c.loop-conditions.yielded_by c.next.result c.next.new.self c.in-None.is c.next.ensures.steps in
    let set : List Pair → Effect = λ m. record { conditions = m; var = c.args.var; after = c.args.val } in
    c.loop-conditions.invariant ∙ ap (λ ms. c.args.out.now.items ++ map set ms) (sym (map_itself c.loop-conditions.yielded) ∙ end.0)
