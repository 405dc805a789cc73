use Rattle.std.proofs.Common.{List, subst}
use Rattle.contradictions.specs.declared.types.Candidate.{Candidate}
use Rattle.mutex_groups.specs.Groups.{AreGroups}
use Rattle.group_cover.specs.Cover.{IsCover}
use Rattle.run_task.proofs.Translated.{sorted_groups, encoding_of_run}
use Rattle.run_task.proofs.pair.encoded.Goals as goal

pub into_encoding-requires-clause-cover : goal.into_encoding-requires-clause-cover
into_encoding-requires-clause-cover c = (c.args.full, subst (λ n. IsCover c.args.full n c.in_ok-groups.groups.groups c.in_ok-cover.cover.sets) c.facts_of.ensures c.in_ok-cover.ensures)

pub into_encoding-requires-clause-groups : goal.into_encoding-requires-clause-groups
into_encoding-requires-clause-groups c =
    let made = c.args.normal.now in
    let reached = c.args.reached in
    sorted_groups made c.args.found.now.accepted reached c.in_ok-groups.groups.groups c.groups_of_facts.ensures.sorted c.groups_of_facts.ensures.facts c.groups_of_facts.ensures.basic
    c.requires.reached c.requires.well_formed (subst (λ (candidates : List Candidate). AreGroups made candidates reached c.in_ok-groups.groups.groups) c.as_slice.ensures c.in_ok-groups.ensures.groups)

pub returns : goal.returns
returns c =
    let reached = c.args.reached in
    let are : AreGroups c.args.normal.now c.args.found.now.accepted reached c.in_ok-groups.groups.groups =
    subst (λ (candidates : List Candidate). AreGroups c.args.normal.now candidates reached c.in_ok-groups.groups.groups) c.as_slice.ensures c.in_ok-groups.ensures.groups in
    encoding_of_run c.args.full c.args.normal.now c.args.found.now reached c.in_ok-layers.layers.items c.deref.result.now c.in_ok-groups.groups.groups c.in_ok-cover.cover.sets c.facts_of.result c.into_encoding.result
    c.requires.reached c.in_ok-layers.ensures.layers c.deref.ensures.value are c.facts_of.ensures c.facts_of.type_inv c.in_ok-cover.ensures c.into_encoding.ensures.encoding
