-- The marks on a variable are on values of it.
use Rattle.std.proofs.Common.{◌+◌, ◌<◌, sym, subst}
use Rattle.std.specs.List.{All}
use Rattle.sas_task.specs.declared.parts.Pair.{Pair}
use Rattle.fdr_effects.specs.Places.{last_value}
use Rattle.fdr_effects.proofs.Marked.{on_fit}
use Rattle.fdr_effects.proofs.splits.pool_at.Goals as goal

pub pool-requires-clause-wanted : goal.pool-requires-clause-wanted
pool-requires-clause-wanted c =
    subst (λ n. All (λ (p : Pair). p.val < n) c.on.result.now) (sym c.values.ensures)
    (subst (All (λ (p : Pair). p.val < last_value c.args.index.now c.args.var + 1)) (sym c.on.ensures) (on_fit c.args.index.now c.args.var c.args.wanted.now c.requires.wanted_fit))

pub pool-requires-clause-barred : goal.pool-requires-clause-barred
pool-requires-clause-barred c =
    subst (λ n. All (λ (p : Pair). p.val < n) c.on-2.result.now) (sym c.values.ensures)
    (subst (All (λ (p : Pair). p.val < last_value c.args.index.now c.args.var + 1)) (sym c.on-2.ensures) (on_fit c.args.index.now c.args.var c.args.barred.now c.requires.barred_fit))
