-- The parts are those of the restriction, which is valid.
use Rattle.std.proofs.Common.{map, filter, length, sym, ap, subst, ◌∙◌}
use Rattle.std.proofs.lemmas.List.{length-map}
use Rattle.sas_task.specs.Valid.{IsValid}
use Rattle.sas_task.specs.Orders.{operator_cmp}
use Rattle.sas_task.specs.InOrder.{arranged}
use Rattle.sas_restriction.specs.Listed.{with_operators}
use Rattle.sas_restriction.specs.Choice.{operator_stays}
use Rattle.sas_restriction.specs.Restriction.{new_operator, restriction}
use Rattle.sas_restriction.proofs.Joined.{joined}
use Rattle.sas_restriction.proofs.Valid.{restriction_valid}
use Rattle.sas_restriction.proofs.Arranged.{restricts}
use Rattle.sas_restriction.proofs.whole.into_restriction.Goals as goal

pub beside_operators-requires : goal.beside_operators-requires
beside_operators-requires c = c.requires.marks.2.inside

pub whole_operators-requires : goal.whole_operators-requires
whole_operators-requires c =
    ap length c.requires.marks.1 ∙ length-map c.args.task.operators c.requires.marks.0 ∙ sym (ap length c.into_operators.ensures)

pub with-requires : goal.with-requires
with-requires c =
    let leaves = c.requires.marks.0 in
    let left = with_operators c.args.shown.now leaves in
    let valid = c.is_valid.ensures in
    let choice = c.requires.marks.2 in
    let old = c.into_operators.ensures in
    let operators = c.in_ok-operators.ensures leaves (c.requires.marks.1 ∙ ap (map leaves) (sym old)) ∙ ap (λ os. arranged c.args.once.operators operator_cmp (map (new_operator c.args.once left) (filter (operator_stays left) os))) old in
    subst IsValid (sym (joined c.args.once left c.args.task c.in_ok-beside.beside c.in_ok-operators.operators c.in_ok-beside.ensures operators))
    (restriction_valid left c.args.task (restriction c.args.once left c.args.task) valid choice (restricts c.args.once left c.args.task valid choice))

pub returns : goal.returns
returns c leaves marks =
    let left = with_operators c.args.shown.now leaves in
    let old = c.into_operators.ensures in
    let operators = c.in_ok-operators.ensures leaves (marks ∙ ap (map leaves) (sym old)) ∙ ap (λ os. arranged c.args.once.operators operator_cmp (map (new_operator c.args.once left) (filter (operator_stays left) os))) old in
    c.with.ensures ∙ joined c.args.once left c.args.task c.in_ok-beside.beside c.in_ok-operators.operators c.in_ok-beside.ensures operators
