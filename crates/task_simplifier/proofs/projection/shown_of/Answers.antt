-- The variables that stay have kept values.
use Rattle.std.proofs.Common.{ℕ, ◌<◌, List, length, sym, ap, subst, ◌∙◌}
use Rattle.std.specs.List.{All}
use Rattle.task_simplifier.specs.Left.{staying}
use Rattle.task_simplifier.proofs.Staying.{staying_below, each_rises, left_is}
use Rattle.task_simplifier.proofs.projection.shown_of.Goals as goal

pub new-requires : goal.new-requires
new-requires c =
    record {
      inside = subst (All (λ v. v < length c.args.kept.items)) (sym (c.in_ok-vars.ensures ∙ ap (λ (k : List (List ℕ)). staying k (length k)) c.as_slice.ensures.value)) (staying_below c.args.kept.items);
      rising = each_rises c.args.task.now c.args.kept.items c.requires.count c.requires.are;
    }

pub returns : goal.returns
returns c =
    left_is c.args.task.now c.args.kept.items c.in_ok-vars.vars.items c.in_ok-shown.shown c.with_holder.result c.holder-holder.result c.requires.count
    (c.in_ok-vars.ensures ∙ ap (λ (k : List (List ℕ)). staying k (length k)) c.as_slice.ensures.value) c.in_ok-shown.ensures c.holder-holder.ensures c.with_holder.ensures
