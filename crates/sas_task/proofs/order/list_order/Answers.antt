-- What is left decides while all before is equal.
use Rattle.std.proofs.Common.{sym, ◌∙◌, arith}
use Rattle.sas_task.proofs.Compared.{decided, left_open, ended}
use Rattle.sas_task.proofs.order.list_order.Goals as goal

pub returns-then-is_ne : goal.returns-then-is_ne
returns-then-is_ne g c =
    decided g.T.Ranked.cmp c.args.front.now c.args.back.now c.loop-i.i c.loop-i.invariant c.index-front-i.result c.index-back-i.result (omega arith) (omega arith) c.index-front-i.is c.index-back-i.is c.order-order.result c.order-order.ensures (sym c.is_ne.ensures ∙ c.if-is_ne.true)

pub loop-i-preserved : goal.loop-i-preserved
loop-i-preserved g c =
    left_open g.T.Ranked.cmp c.args.front.now c.args.back.now c.loop-i.i c.loop-i.invariant c.index-front-i.result c.index-back-i.result (omega arith) (omega arith) c.index-front-i.is c.index-back-i.is c.order-order.result c.order-order.ensures (sym c.is_ne.ensures ∙ c.if-is_ne.false)

pub returns : goal.returns
returns g c =
    c.cmp.ensures ∙ sym (ended g.T.Ranked.cmp c.args.front.now c.args.back.now c.loop-i.i c.loop-i.invariant (omega arith))
