use Rattle.std.proofs.Common.{List, map, ap, Bor}
use Rattle.pddl_syntax.specs.declared.types.Named.{Named}
use Rattle.numbering.proofs.AskedTypes.{heads_within, all_asked}
use Rattle.numbering.proofs.asked.asked_types.Goals as goal

pub slice_bounds-ask-count : goal.slice_bounds-ask-count
slice_bounds-ask-count c =
    heads_within c.args.domain.now c.as_slice.result.now c.as_slice-2.result.now c.as_slice.ensures c.as_slice-2.ensures
    c.deref.result.now c.in_ok-in_domain.in_domain.items c.deref.ensures.value c.in_ok-in_domain.ensures

pub slice_bounds-ask-start : goal.slice_bounds-ask-start
slice_bounds-ask-start c =
    heads_within c.args.domain.now c.as_slice.result.now c.as_slice-2.result.now c.as_slice.ensures c.as_slice-2.ensures
    c.deref.result.now c.in_ok-in_domain.in_domain.items c.deref.ensures.value c.in_ok-in_domain.ensures

pub returns : goal.returns
returns c =
    all_asked c.args.domain.now c.as_slice.result.now c.as_slice-2.result.now c.as_slice.ensures c.as_slice-2.ensures
    c.deref.result.now c.in_ok-in_domain.in_domain.items c.deref.ensures.value c.in_ok-in_domain.ensures
    c.args.problem.now c.deref-2.result.now c.in_ok-in_problem.in_problem.items c.deref-2.ensures.value c.in_ok-in_problem.ensures
    _ _ _ (ap (λ (items : List (Bor (List Named))). map (λ listed. listed.now) items) c.new-asked.ensures.items) c.in_ok-ask.ensures c.in_ok-ask-2.ensures
