-- What the plan file comes to, by its text.
use Rattle.std.proofs.Common.{◌≡◌, ℕ, List, [], ◌∷◌, Err, refl, sym, ap, ◌∙◌, subst}
use Rattle.std.specs.Prelude.{Contains}
use Rattle.std.specs.declared.option.Option.{Option}
use Rattle.std.specs.declared.option.Option.TheVariants.{Some, None}
use Rattle.tl_device.specs.Contents.{Contents}
use Rattle.plan_backmap.specs.Lines.{plan_lines}
use Rattle.plan_backmap.specs.declared.fault.PlanFault.{PlanFault}
use Rattle.plan_backmap.specs.declared.fault.PlanFault.TheVariants.{BadLine, UnknownStep}
use Rattle.plan_backmap.specs.Plans.{faults, mapped}
use Rattle.lists.specs.Stops.{IfFault, IsFirst}
use Rattle.plan_backmap.specs.PlanText.{plan_text}
use Rattle.lists.specs.declared.stop.Stop.{Stop}
use Rattle.lists.specs.declared.stop.Stop.TheVariants as stops
use Rattle.sas_task.specs.Task.{Task}
use Rattle.messages.specs.declared.outcome.Message.TheVariants as messages
use Rattle.translator.specs.Ending.{Gives, Refused, ◌>>=◌}
use Rattle.translator.specs.Texts.{Text, read}
use Rattle.translator.specs.Plan.{unless_faulty, mapped_lines}
use Rattle.translator.specs.Store.{Store}
use Rattle.translator.specs.Stages.{IsRead, of_plan}
use Rattle.translator.proofs.Stages.{IsToldOf}
use Rattle.translator.proofs.Sources.{always}

-- ---- a text

-- the plan file's first faulty line
told_first : (name : List ℕ) (faults : List PlanFault) (lines : List ℕ) (stop : Stop PlanFault) (fault : PlanFault) → stop ≡ stops.Fault fault → IfFault {A = List ℕ} (Err stop) (IsFirst faults) → (more : List PlanFault) × (unless_faulty name faults lines ≡ unless_faulty name (fault ∷ more) lines)
told_first name faults lines stop fault is given =
    let first = subst (λ (s : Stop PlanFault). IfFault {A = List ℕ} (Err s) (IsFirst faults)) is given in
    (first.0, ap (λ (fs : List PlanFault). unless_faulty name fs lines) first.1)

pub bad_line : (name : List ℕ) (faults : List PlanFault) (lines : List ℕ) (stop : Stop PlanFault) (line : ℕ) → stop ≡ stops.Fault (BadLine line) → IfFault {A = List ℕ} (Err stop) (IsFirst faults) → unless_faulty name faults lines ≡ Refused name (messages.BadPlanLine line)
bad_line name faults lines stop line is given = (told_first name faults lines stop (BadLine line) is given).1

pub unknown_step : (name : List ℕ) (faults : List PlanFault) (lines : List ℕ) (stop : Stop PlanFault) (line : ℕ) → stop ≡ stops.Fault (UnknownStep line) → IfFault {A = List ℕ} (Err stop) (IsFirst faults) → unless_faulty name faults lines ≡ Refused name (messages.UnknownStep line)
unknown_step name faults lines stop line is given = (told_first name faults lines stop (UnknownStep line) is given).1

pub lines_given : (task : Task) (plan : Text) (lines : List ℕ) → faults task.operators (plan_lines plan.bytes) ≡ [] → lines ≡ plan_text task.metric (mapped task.operators (plan_lines plan.bytes)) → mapped_lines task plan ≡ Gives lines
lines_given task plan lines none is =
    ap (λ (fs : List PlanFault). unless_faulty plan.name fs (plan_text task.metric (mapped task.operators (plan_lines plan.bytes)))) none ∙ ap Gives (sym is)

-- a fault is told of the text's name
told_unless : (names : List (List ℕ)) (name : List ℕ) (faults : List PlanFault) (lines : List ℕ) → Contains names name → IsToldOf names (unless_faulty name faults lines)
told_unless names name [] lines in' = tt
told_unless names name (BadLine line ∷ more) lines in' = in'
told_unless names name (UnknownStep line ∷ more) lines in' = in'

pub plan_told : (names : List (List ℕ)) (task : Task) (plan : Text) → Contains names plan.name → IsToldOf names (mapped_lines task plan)
plan_told names task plan = told_unless names plan.name (faults task.operators (plan_lines plan.bytes)) (plan_text task.metric (mapped task.operators (plan_lines plan.bytes)))

-- ---- a file

pub plan_begins : (name : List ℕ) (task : Task) (held : Contents) → of_plan held (Some name) task ≡ (read held name >>= mapped_lines task)
unfolding of_plan
plan_begins name task held = refl

-- no plan file is named
pub no_plan : (before : Store) (plan : Option (List ℕ)) (task : Task) (lines : List ℕ) → plan ≡ None → lines ≡ [] → IsRead before before (λ held. of_plan held plan task ≡ Gives lines)
unfolding of_plan
no_plan before plan task lines none empty = (refl, always _ before.files (λ held. ap (λ (p : Option (List ℕ)). of_plan held p task) none ∙ ap Gives (sym empty)))
