-- What a plan file comes to: its text, whatever the task is, and then its lines by the task of a run.
use Rattle.std.specs.Prelude.{ℕ, List, [], ◌∷◌}
use Rattle.std.specs.declared.option.Option.{Option}
use Rattle.std.specs.declared.option.Option.TheVariants.{Some, None}
use Rattle.tl_device.specs.Contents.{Contents}
use Rattle.plan_backmap.specs.Lines.{plan_lines}
use Rattle.plan_backmap.specs.declared.fault.PlanFault.{PlanFault}
use Rattle.plan_backmap.specs.declared.fault.PlanFault.TheVariants.{BadLine, UnknownStep}
use Rattle.plan_backmap.specs.Plans.{faults, mapped}
use Rattle.plan_backmap.specs.PlanText.{plan_text}
use Rattle.sas_task.specs.Task.{Task}
use Rattle.messages.specs.declared.outcome.Message.TheVariants as messages
use Rattle.translator.specs.Ending.{Ending, Gives, Refused, ◌>>=◌}
use Rattle.translator.specs.Texts.{Text, read}

-- the lines, or the first of the faults of the plan file of this name
abbrev pub unless_faulty : List ℕ → List PlanFault → List ℕ → Ending (List ℕ)
unless_faulty name [] lines = Gives lines
unless_faulty name (BadLine line ∷ more) lines = Refused name (messages.BadPlanLine line)
unless_faulty name (UnknownStep line ∷ more) lines = Refused name (messages.UnknownStep line)

-- the lines on a plan's steps and on what they cost, mapped back to the task's operators
abbrev pub mapped_lines : Task → Text → Ending (List ℕ)
mapped_lines task plan =
    unless_faulty plan.name (faults task.operators (plan_lines plan.bytes)) (plan_text task.metric (mapped task.operators (plan_lines plan.bytes)))

-- the same of a plan file's text, and no lines where no plan file is named
abbrev pub lines_on : Task → Option Text → Ending (List ℕ)
lines_on task None = Gives []
lines_on task (Some plan) = mapped_lines task plan

-- the text of the plan file of this name, and none where none is named
unfoldable pub text_of_plan : Contents → Option (List ℕ) → Ending (Option Text)
text_of_plan files None = Gives None
text_of_plan files (Some name) = read files name >>= λ plan. Gives (Some plan)

-- the name of the plan file, if one is named
abbrev pub plan_names : Option (List ℕ) → List (List ℕ)
plan_names None = []
plan_names (Some name) = name ∷ []
