use Rattle.std.proofs.Common.{cond, Some, None, map, sym, ap, ◌∙◌}
use Rattle.std.specs.Prelude.{filter}
use Rattle.std.specs.List.{list_all}
use Rattle.reached_task.specs.Reachable.{is_among, number_of}
use Rattle.relaxed_reach.proofs.Keeping.{kept_is}
use Rattle.relaxed_reach.proofs.numbered.condition.Goals as goal

pub returns : goal.returns
returns c =
    let facts = c.args.facts.now in
    kept_is facts c.args.condition.now c.in-Some.positive c.in_ok-negative.negative
    (sym c.in-Some.is ∙ c.in_ok-positive.ensures
    ∙ ap (λ atoms. cond (list_all (is_among facts) atoms) (Some (map (number_of facts) (filter (is_among facts) atoms))) None) c.as_slice.ensures)
    (c.in_ok-negative.ensures ∙ ap (λ atoms. map (number_of facts) (filter (is_among facts) atoms)) c.as_slice-2.ensures)
