-- What the code holds of the relevant variables is the choice of the reduction.
use Rattle.std.proofs.Common.{◌≡◌, ℕ, Bool, List, map, ap, ◌∙◌}
use Rattle.sas_task.specs.declared.parts.Operator.{Operator}
use Rattle.sas_task.specs.Task.{Task}
use Rattle.sas_restriction.specs.Choice.{is_busy, busy_alone}
use Rattle.sas_restriction.specs.Listed.{Listed, chosen, with_operators}
use Rattle.sas_restriction.specs.Everything.{everything_of, everything}
use Rattle.sas_restriction.proofs.AllValues.{chosen_is}

-- the operators with an effect on one of the variables
abbrev pub leaves : Task → List ℕ → Operator → Bool
leaves T vars = is_busy (everything T vars)

module _ (T : Task) (vars : List ℕ) (shown : Listed) (shown-is : shown ≡ everything_of T vars) where
  chosen_all : chosen shown ≡ everything T vars
  chosen_all = ap (λ (l : Listed). chosen l) shown-is ∙ chosen_is T vars

  pub choice_is : with_operators shown (leaves T vars) ≡ busy_alone (everything T vars)
  choice_is i = record { vars = (chosen_all i).vars; values = (chosen_all i).values; operators = leaves T vars; holder = (chosen_all i).holder }

  pub busy_are : map (is_busy (chosen shown)) T.operators ≡ map (leaves T vars) T.operators
  busy_are = ap (λ choice. map (is_busy choice) T.operators) chosen_all
