use Rattle.std.proofs.Common.{[], List, sym, ap, ◌∙◌}
use Rattle.std.specs.List.{list_all}
use Rattle.normal_task.specs.declared.task.GroundAtom.{GroundAtom}
use Rattle.normal_task.specs.declared.task.Literal.{Literal}
use Rattle.ground_task.specs.declared.types.Cond.{Cond}
use Rattle.ground_task.specs.declared.types.GoalRow.TheVariants.{All}
use Rattle.ground_task.specs.Instances.{condition_of, static_settling}
use Rattle.ground_task.specs.Settled.{kept_condition}
use Rattle.ground_task.specs.Rows.{literal_can_hold}
use Rattle.static_matcher.proofs.Conditions.{goal_holds, goal_fails}
use Rattle.static_matcher.proofs.task.goal.Goals as goal

pub returns-then-not-can : goal.returns-then-not-can
returns-then-not-can c =
    let task = c.args.tables.now in
    let is = c.goal-literals.ensures in
    goal_fails task [] task.goal (ap (list_all (literal_can_hold task [])) (sym is) ∙ sym c.in_ok-can.ensures ∙ c.if-not-can.true)

pub returns : goal.returns
returns c =
    let task = c.args.tables.now in
    let is = c.goal-literals.ensures in
    ap (λ (k : Cond GroundAtom). All k) (c.in_ok-condition.ensures ∙ ap (λ (l : List Literal). kept_condition (static_settling task) (condition_of [] l)) is)
    ∙ goal_holds task [] task.goal (ap (list_all (literal_can_hold task [])) (sym is) ∙ sym c.in_ok-can.ensures ∙ c.if-not-can.false)
