-- Each member stands by variable, and all are gone over.
use Rattle.std.proofs.Common.{◌++◌, List, length, map, sym, ap, ◌∙◌, subst}
use Rattle.std.specs.List.Sorted.{IsNonDecreasingBy}
use Rattle.std.proofs.lemmas.Iterator.Adapters.{YieldsList-from_vec}
use Rattle.std.proofs.lemmas.Iterator.Consumers.{YieldsList-end, YieldsList-turn}
use Rattle.lists.proofs.Items.{map_itself}
use Rattle.sas_task.specs.declared.parts.Pair.{Pair}
use Rattle.sas_task.specs.declared.parts.Operator.{Operator}
use Rattle.fdr_encoder.specs.Operators.{simplified}
use Rattle.fdr_encoder.proofs.operators.push_members.Goals as goal

pub operator-requires : goal.operator-requires
operator-requires c =
    let given = c.into_iter-member-iterator.ensures.into_iter_gives in
    let turn = YieldsList-turn (YieldsList-from_vec {s = c.into_iter-member-iterator.result} c.args.members.items given.0 (given.1 ∙ c.args.members.ok.0)) c.loop-member.yielded c.loop-member.member-iterator c.loop-member.yielded_by c.next.result c.next.new.self c.in-Some.member c.in-Some.is c.next.ensures.steps in
    subst (IsNonDecreasingBy (λ (p : Pair). p.var)) (sym turn.1) (c.requires (length c.loop-member.yielded) c.in-Some.member turn.0)

pub returns : goal.returns
returns c =
    let given = c.into_iter-member-iterator.ensures.into_iter_gives in
    let end = YieldsList-end (YieldsList-from_vec {s = c.into_iter-member-iterator.result} c.args.members.items given.0 (given.1 ∙ c.args.members.ok.0)) c.loop-member.yielded c.loop-member.member-iterator c.loop-member.yielded_by c.next.result c.next.new.self c.in-None.is c.next.ensures.steps in
    let made : List Pair → Operator = λ m. record { name = c.args.name.now; conditions = m; effects = simplified c.args.index.now m c.args.raw.now; cost = c.args.cost } in
    c.loop-member.invariant ∙ ap (λ ms. c.args.out.now.items ++ map made ms) (sym (map_itself c.loop-member.yielded) ∙ end.0)
