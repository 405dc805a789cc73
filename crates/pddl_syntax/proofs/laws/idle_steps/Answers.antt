use Rattle.planning.proofs.IdleSteps.{busy_plan, leaves_plan}
use Rattle.pddl_syntax.specs.Plan.{pddl_task}
use Rattle.pddl_syntax.proofs.IdleSteps.{is_told}
use Rattle.pddl_syntax.proofs.laws.idle_steps.Goals as goal

pub returns : goal.returns
returns c = record {
  told = is_told;
  busy_plan = λ domain problem. busy_plan (pddl_task domain problem);
  left_out = λ domain problem. leaves_plan (pddl_task domain problem) (is_told domain problem);
}
