-- The operators of the queue are looked at, turn by turn, until the queue is empty.
use Rattle.std.proofs.Common.{eqb, length, sym, ap, ◌∙◌, subst}
use Rattle.std.specs.List.{range_with_len}
use Rattle.std.specs.Vec.{vec_len}
use Rattle.std.proofs.lemmas.Bool.{eqb-true}
use Rattle.std.proofs.lemmas.List.{nil_from_length}
use Rattle.pass_h2.specs.Search.{woken, turned, initial_pairs}
use Rattle.pass_h2.proofs.EmptyQueue.{Between, begins, goes_on, goes_down, are_possible}
use Rattle.pass_h2.proofs.search.mark_possible.Goals as goal

pub loop-operators-init : goal.loop-operators-init
loop-operators-init c valid =
    let T = c.args.task.now in
    subst (λ f. Between T valid f c.in_ok-queue.queue.items) (sym c.in_ok-mark_initial.ensures)
    (subst (Between T valid (initial_pairs T)) (sym (c.in_ok-queue.ensures ∙ ap (λ operators. range_with_len 0 (length operators)) c.operator_slice-operators.ensures)) (begins T valid))

pub loop-operators-smaller : goal.loop-operators-smaller
loop-operators-smaller c =
    let T = c.args.task.now in
    let f = c.loop-operators.table in
    let valid = c.requires.valid in
    goes_down T valid f c.turn.new.table c.loop-operators.queue.items c.in_ok-queue-2.queue.items
    (c.in_ok-queue-2.ensures.table ∙ ap (λ operators. turned operators f c.as_slice.result.now) c.operator_slice-operators.ensures ∙ ap (turned T.operators f) c.as_slice.ensures.value)
    (c.in_ok-queue-2.ensures.next ∙ ap (λ operators. woken operators c.turn.new.table) c.operator_slice-operators.ensures)
    (c.loop-operators.invariant valid)
    (ap (λ n. eqb n 0) (sym c.loop-operators.queue.ok.0) ∙ sym c.is_empty.ensures ∙ c.loop-operators-test.true)

pub loop-operators-preserved : goal.loop-operators-preserved
loop-operators-preserved c valid =
    let T = c.args.task.now in
    let f = c.loop-operators.table in
    goes_on T valid f c.turn.new.table c.loop-operators.queue.items c.in_ok-queue-2.queue.items
    (c.in_ok-queue-2.ensures.table ∙ ap (λ operators. turned operators f c.as_slice.result.now) c.operator_slice-operators.ensures ∙ ap (turned T.operators f) c.as_slice.ensures.value)
    (c.in_ok-queue-2.ensures.next ∙ ap (λ operators. woken operators c.turn.new.table) c.operator_slice-operators.ensures)
    (c.loop-operators.invariant valid)

pub returns : goal.returns
returns c =
    let T = c.args.task.now in
    let valid = c.requires.valid in
    let none = nil_from_length c.loop-operators.queue.items (sym c.loop-operators.queue.ok.0 ∙ eqb-true (vec_len c.loop-operators.queue) 0 (sym c.is_empty.ensures ∙ c.loop-operators-test.false)) in
    are_possible T valid c.loop-operators.table (subst (Between T valid c.loop-operators.table) none (c.loop-operators.invariant valid))
