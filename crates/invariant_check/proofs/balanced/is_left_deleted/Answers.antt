use Rattle.std.proofs.Common.{◌∙◌, sym}
use Rattle.contradictions.proofs.SamePlaces.{all_goes_on, all_stops}
use Rattle.invariant_check.specs.Accepted.{apart_from}
use Rattle.invariant_check.specs.Attempts.{leaves_deleted}
use Rattle.invariant_check.proofs.balanced.is_left_deleted.Goals as goal

pub returns-then-not-branch : goal.returns-then-not-branch
returns-then-not-branch c =
    let add = c.args.add.now in
    all_stops (λ a. leaves_deleted c.args.candidate.now add.schema.now add.row.now add.required.now add.instance.now c.args.predicate c.args.places.now (apart_from add.schema.now add.row.now a))
    add.schema.now.effects c.as_slice-row-items.result.now c.as_slice-row-items.ensures c.loop-row.row-index c.row-item.result c.loop-row-test.true c.row-item.is c.loop-row.invariant
    (sym c.in_ok-leaves_deleted.ensures ∙ c.if-not-branch.true)

pub loop-row-preserved : goal.loop-row-preserved
loop-row-preserved c =
    let add = c.args.add.now in
    all_goes_on (λ a. leaves_deleted c.args.candidate.now add.schema.now add.row.now add.required.now add.instance.now c.args.predicate c.args.places.now (apart_from add.schema.now add.row.now a))
    add.schema.now.effects c.as_slice-row-items.result.now c.as_slice-row-items.ensures c.loop-row.row-index c.row-item.result c.loop-row-test.true c.row-item.is c.loop-row.invariant
    (sym c.in_ok-leaves_deleted.ensures ∙ c.if-not-branch.false)
