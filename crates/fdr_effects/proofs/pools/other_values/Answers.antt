-- The values without a flag.
use Rattle.std.proofs.Common.{◌≡◌, ◌==◌, ◌<◌, [], Bool, ℕ, List, false, get_or, map, sym, ap, ◌∙◌, subst}
use Rattle.std.specs.List.{All, filter, list_any, range_with_len}
use Rattle.std.proofs.lemmas.Result.{IfOk-weaker}
use Rattle.sas_task.specs.Pairs.{pair}
use Rattle.fdr_effects.specs.Marks.{pool}
use Rattle.fdr_effects.proofs.Marked.{values_below, unbarred}
use Rattle.fdr_effects.proofs.pools.other_values.Goals as goal

pub flags-requires : goal.flags-requires
flags-requires c =
    subst (All (λ v. v < c.args.values)) (sym (c.as_slice.ensures.value ∙ c.in_ok-barred.ensures)) (values_below c.args.values c.args.barred.now c.requires)

pub returns : goal.returns
returns c =
    let flags = c.as_slice-2.result.now in
    let same = λ (val : ℕ). ap (λ (l : List Bool). get_or l val false) c.as_slice-2.ensures.value ∙ c.in_ok-is_barred.ensures val ∙ ap (list_any (λ v. v == val)) (c.as_slice.ensures.value ∙ c.in_ok-barred.ensures) in
    IfOk-weaker c.unset_pairs.result _ (λ made. made.items ≡ pool c.args.var c.args.values [] c.args.barred.now) (λ made is.
    is ∙ ap (λ (test : ℕ → Bool). map (pair c.args.var) (filter test (range_with_len 0 c.args.values))) (λ i val. unbarred c.args.barred.now (λ v. get_or flags v false) same val i)) c.unset_pairs.ensures
