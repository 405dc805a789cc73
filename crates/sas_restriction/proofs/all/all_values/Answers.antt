-- The values are those of the task's variables, and rise.
use Rattle.std.proofs.Common.{◌<◌, ℕ, List, length, sym, subst}
use Rattle.std.specs.List.{All}
use Rattle.std.specs.List.Sorted.{IsStrictlyIncreasing}
use Rattle.sas_restriction.proofs.AllValues.{all_within, all_rise}
use Rattle.sas_restriction.proofs.all.all_values.Goals as goal

pub new-requires : goal.new-requires
new-requires c =
    record {
      inside = subst (λ (vs : List (List ℕ)). All (λ v. v < length vs) c.args.vars.items) (sym c.in_ok-values.ensures) (all_within c.args.task.now c.args.vars.items c.requires);
      rising = subst (All IsStrictlyIncreasing) (sym c.in_ok-values.ensures) (all_rise c.args.task.now);
    }
