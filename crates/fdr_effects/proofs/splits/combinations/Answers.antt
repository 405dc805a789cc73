-- One way where there is one pair in each pool.
use Rattle.std.proofs.Common.{◌≡◌, ◌∷◌, [], ◌==◌, true, List, map, length, sym, ap, ◌∙◌}
use Rattle.std.specs.List.{list_all, flat_map}
use Rattle.std.proofs.lemmas.List.Folds.{list_all-map, flat_map-map}
use Rattle.sas_task.specs.declared.parts.Pair.{Pair}
use Rattle.sas_task.specs.Pairs.{pair}
use Rattle.fdr_effects.proofs.Combined.{single_ways}
use Rattle.fdr_effects.proofs.splits.combinations.Goals as goal

pub returns : goal.returns
returns c values vars same =
    let pools = c.args.pools.items in
    let single = λ (pool : List Pair). length pool == 1 in
    let all_single : list_all single (map (λ var. map (pair var) (values var)) vars) ≡ true =
    ap (list_all single) (sym same) ∙ list_all-map single (λ pool. pool.items) pools ∙ ap (list_all (λ pool. length pool.items == 1)) (sym c.as_slice.ensures.value) ∙ sym c.are_single.ensures ∙ c.if-not-are_single.false in
    c.in_ok-all.ensures.items
    ∙ ap (λ (one : List Pair). one ∷ []) (c.in_ok-one.ensures ∙ ap (flat_map (λ pool. pool.items)) c.as_slice-2.ensures.value ∙ sym (flat_map-map (λ (pool : List Pair). pool) (λ pool. pool.items) pools) ∙ ap (flat_map (λ (pool : List Pair). pool)) same)
    ∙ sym (single_ways values vars all_single)
