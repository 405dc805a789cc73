-- What the encoding asks of the cover comes from the groups.
use Rattle.std.proofs.Common.{◌<◌, length, sym, ◌∙◌, subst}
use Rattle.std.specs.List.{All}
use Rattle.std.specs.List.Sorted.{IsStrictlyIncreasing}
use Rattle.fdr_encoder.specs.Covers.{MakesVariables, IsBasicGroup}
use Rattle.fdr_encoder.proofs.Covers.{covered_by_groups, sets_apart, sets_of_facts}
use Rattle.fdr_encoder.proofs.encoding.framed.Goals as goal

pub new-requires-clause-facts : goal.new-requires-clause-facts
new-requires-clause-facts c =
    subst (λ n. All (λ set. All (λ fact. fact < n) set) c.as_slice.result.now) (sym c.len-facts.ensures)
    (subst (All (λ set. All (λ fact. fact < length c.args.reached.now.facts) set)) (sym c.as_slice.ensures) (sets_of_facts c.requires.cover.0 c.args.reached.now c.args.groups.now.groups c.args.cover.now.sets c.requires.groups c.requires.cover.1))

pub new-requires-clause-apart : goal.new-requires-clause-apart
new-requires-clause-apart c =
    subst (All IsStrictlyIncreasing) (sym c.as_slice.ensures) (sets_apart c.requires.cover.0 c.args.reached.now c.args.groups.now.groups c.args.cover.now.sets c.requires.groups c.requires.cover.1)

pub frame_over-requires-clause-cover : goal.frame_over-requires-clause-cover
frame_over-requires-clause-cover c =
    subst (MakesVariables c.args.reached.now) (sym (c.in_ok-index.ensures ∙ c.as_slice.ensures)) (covered_by_groups c.requires.cover.0 c.args.reached.now c.args.groups.now.groups c.args.cover.now.sets c.requires.groups c.requires.cover.1)

pub frame_over-requires-clause-apart : goal.frame_over-requires-clause-apart
frame_over-requires-clause-apart c =
    subst (All IsStrictlyIncreasing) (sym (c.in_ok-index.ensures ∙ c.as_slice.ensures)) (sets_apart c.requires.cover.0 c.args.reached.now c.args.groups.now.groups c.args.cover.now.sets c.requires.groups c.requires.cover.1)

pub frame_over-requires-clause-groups : goal.frame_over-requires-clause-groups
frame_over-requires-clause-groups c = subst (All (IsBasicGroup c.args.reached.now)) (sym c.as_slice-2.ensures) c.requires.groups
