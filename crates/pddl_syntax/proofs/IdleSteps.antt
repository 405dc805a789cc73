-- A step of a domain and a problem writes atoms of a finite list alone, so whether it is idle can be told.
use Rattle.std.proofs.Common.{◌≡◌, true, false, ◌||◌, inl, inr}
use Rattle.std.proofs.lemmas.Bool.{or_cases}
use Rattle.lists.proofs.Items.{Among}
use Rattle.planning.proofs.IdleSteps.{WritesFew, IsTold, told}
use Rattle.pddl_syntax.specs.declared.types.Domain.{Domain}
use Rattle.pddl_syntax.specs.declared.types.Problem.{Problem}
use Rattle.pddl_syntax.specs.Holds.{GroundAtom}
use Rattle.pddl_syntax.specs.Step.{writes, binding_of}
use Rattle.pddl_syntax.specs.Plan.{pddl_task}
use Rattle.pddl_syntax.proofs.Written.{written, written_has}

writes_few : (domain : Domain) (problem : Problem) → WritesFew (pddl_task domain problem)
writes_few domain problem full step of_task = (written domain problem step.action.effect (binding_of step), listed)
  where
    listed : (atom : GroundAtom) → (writes domain problem full true step.action.effect (binding_of step) atom || writes domain problem full false step.action.effect (binding_of step) atom) ≡ true →
        Among atom (written domain problem step.action.effect (binding_of step))
    listed atom either =
        elim (or_cases (writes domain problem full true step.action.effect (binding_of step) atom) (writes domain problem full false step.action.effect (binding_of step) atom) either) [
          | inl added ↦ written_has domain problem full true atom step.action.effect (binding_of step) added
          | inr deleted ↦ written_has domain problem full false atom step.action.effect (binding_of step) deleted
        ]

-- a step is idle or it isn't
pub is_told : (domain : Domain) (problem : Problem) → IsTold (pddl_task domain problem)
is_told domain problem = told (pddl_task domain problem) (writes_few domain problem)
