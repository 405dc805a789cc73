use Rattle.std.proofs.Common.{◌≡◌, subst, sym, ap, ◌∙◌, ◌++◌, [], map, List, All}
use Rattle.std.specs.Prelude.{filter}
use Rattle.std.specs.List.{flat_map}
use Rattle.normal_task.specs.Meaning.{choices}
use Rattle.ground_task.specs.Instances.{actions_of, static_settling}
use Rattle.ground_task.specs.Settled.{kept_actions}
use Rattle.static_matcher.specs.declared.chosen.Candidate.{Candidate}
use Rattle.static_matcher.specs.Candidates.{rows_of, IsCandidate}
use Rattle.static_matcher.specs.Matching.{may_match}
use Rattle.static_matcher.proofs.MadeCandidates.{candidates_rows, candidates_each}
use Rattle.static_matcher.proofs.chosen.candidates_of.Goals as goal

pub returns-clause-rows : goal.returns-clause-rows
returns-clause-rows c =
    let task = c.args.tables.now in
    let schema = c.args.schema.now in
    subst (λ (l : List Candidate). flat_map (rows_of task) l ≡ kept_actions (static_settling task) (actions_of task schema)) (sym c.in_ok-candidates.ensures)
    (candidates_rows task c.args.schema c.in_ok-choices.choices.items
    (c.in_ok-choices.ensures
    ∙ ap (λ literals. filter (may_match task literals) (map (λ objects. [] ++ objects) (choices c.as_slice-2.result.now))) c.as_slice.ensures
    ∙ ap (λ ranges. filter (may_match task schema.condition) (map (λ objects. [] ++ objects) (choices ranges))) c.as_slice-2.ensures))

pub returns-clause-each : goal.returns-clause-each
returns-clause-each c =
    let task = c.args.tables.now in
    let schema = c.args.schema.now in
    subst (All (IsCandidate task)) (sym c.in_ok-candidates.ensures)
    (candidates_each task c.args.schema c.requires c.in_ok-choices.choices.items
    (c.in_ok-choices.ensures
    ∙ ap (λ literals. filter (may_match task literals) (map (λ objects. [] ++ objects) (choices c.as_slice-2.result.now))) c.as_slice.ensures
    ∙ ap (λ ranges. filter (may_match task schema.condition) (map (λ objects. [] ++ objects) (choices ranges))) c.as_slice-2.ensures))
