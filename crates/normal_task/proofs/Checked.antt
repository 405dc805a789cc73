-- The law, for a pair without check faults.
use Rattle.std.proofs.Common.{◌≡◌, []}
use Rattle.pddl_syntax.specs.declared.types.Domain.{Domain}
use Rattle.pddl_syntax.specs.declared.types.Problem.{Problem}
use Rattle.type_checker.specs.Faults.{check_faults}
use Rattle.planning.specs.Same.{MeansTheSame}
use Rattle.pddl_syntax.specs.Plan.{pddl_task}
use Rattle.normal_task.specs.Meaning.{normal_task}
use Rattle.normal_task.specs.Normalised.{normal}
use Rattle.normal_task.specs.Same.{Shows}
use Rattle.normal_task.proofs.Steps.{Sound}
use Rattle.normal_task.proofs.Faultless.{rules_sound, goal_sound, all_fit, action_mentioned, action_bound, action_basic, init_known}
use Rattle.normal_task.proofs.Costs.{same-cost}
use Rattle.normal_task.proofs.Busy.{same-task}

sound : (domain : Domain) (problem : Problem) → check_faults domain problem ≡ [] → Sound domain problem
sound domain problem none =
    record {
      rules = rules_sound domain problem none;
      actions = λ action among.
          record {
            mentioned = action_mentioned domain problem none action among;
            bound = action_bound domain problem none action among;
            cost = same-cost domain problem none action among;
          };
      goal = goal_sound domain problem none;
      fit = all_fit domain problem none;
    }

-- the normal task of a checked pair has its plans, and reaches its states
pub same_task : (domain : Domain) (problem : Problem) → check_faults domain problem ≡ [] → MeansTheSame (pddl_task domain problem) (normal_task (normal domain problem)) (Shows domain problem)
same_task domain problem none = same-task domain problem (sound domain problem none) (action_basic domain problem none) (init_known domain problem none)
