use Rattle.std.proofs.Common.{◌∙◌, ◌<◌, [], ◌∷◌, ◌++◌, filter, ap, subst, arith}
use Rattle.indexmap.specs.IndexSet.{insert_all}
use Rattle.invariant_check.specs.Accepted.{is_accepted}
use Rattle.invariant_guess.specs.Trial.{is_same, repairs}
use Rattle.invariant_guess.proofs.Trying.{at_first, tries_next, found}
use Rattle.invariant_guess.proofs.guess.find.Goals as goal
use Rattle.invariant_guess.proofs.guess.find.Goals.{then-loop-tried-test+else-tried-len, else-loop-tried-test}

pub loop-tried-init : goal.loop-tried-init
loop-tried-init c =
    at_first c.args.normal.now c.args.max c.add_new.new.queue.keys c.new-accepted.result.items
    (c.in_ok-add_new.ensures ∙ ap (λ keys. insert_all is_same keys c.in_ok-one_predicate.field-0) c.new-queue.ensures.empty ∙ ap (insert_all is_same []) c.in_ok-one_predicate.ensures)
    c.new-accepted.ensures.items

pub loop-tried-preserved : goal.loop-tried-preserved
loop-tried-preserved c =
    let task = c.in_ok-table.ensures in
    tries_next c.args.normal.now c.args.max c.loop-tried.queue.keys c.loop-tried.tried c.loop-tried.accepted.items c.loop-tried.invariant c.loop-tried-test.true
    (subst (λ n. c.loop-tried.tried < n) c.len.ensures.len c.if-tried-len.true) c.index.result.now c.index.ensures c.add_new-in-loop-tried.new.queue.keys c.try_one.new.accepted.items
    (c.in_ok-add_new-2.ensures ∙ ap (insert_all is_same c.loop-tried.queue.keys) (c.in_ok-repairs.ensures.repairs ∙ ap (λ task. repairs task c.index.result.now) task))
    (c.in_ok-repairs.ensures.kept ∙ ap (λ task. c.loop-tried.accepted.items ++ filter (is_accepted task) (c.index.result.now ∷ [])) task)

pub returns : goal.returns
returns c =
    found c.args.normal.now c.args.max c.loop-tried.queue.keys c.loop-tried.tried c.loop-tried.accepted.items c.from_vec.result c.loop-tried.invariant
    (λ more. elim c.loop-tried-test.branch [
      | then-loop-tried-test+else-tried-len w ↦ omega (arith, w.len.ensures.len, w.if-tried-len.false)
      | else-loop-tried-test w ↦ absurd (omega (arith, w.loop-tried-test.false, more))
    ]) c.from_vec.ensures
