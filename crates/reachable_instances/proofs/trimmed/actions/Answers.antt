use Rattle.std.proofs.Common.{map, ap, sym, ◌∙◌, ◌++◌, append-nil, length, subst}
use Rattle.std.specs.List.{flat_map}
use Rattle.std.specs.Option.{option_to_list}
use Rattle.std.proofs.lemmas.Iterator.Adapters.{YieldsList-from_vec}
use Rattle.std.proofs.lemmas.Iterator.Consumers.{YieldsList-end, YieldsList-turn}
use Rattle.lists.proofs.Items.{map_itself}
use Rattle.ground_task.specs.GroundTask.{action_row}
use Rattle.static_matcher.specs.Candidates.{IsCandidate}
use Rattle.static_matcher.proofs.MadeCandidates.{next_action}
use Rattle.reachable_instances.specs.Trimmed.{rows_left}
use Rattle.reachable_instances.proofs.trimmed.actions.Goals.{in-Some-2+in_ok-push, in_default}
use Rattle.reachable_instances.proofs.trimmed.actions.Goals as goal

pub action-requires : goal.action-requires
action-requires c =
    let given = c.into_iter-candidate-iterator.ensures.into_iter_gives in
    let turn = YieldsList-turn (YieldsList-from_vec {s = c.into_iter-candidate-iterator.result} c.args.candidates.items given.0 (given.1 ∙ c.args.candidates.ok.0)) c.loop-candidate.yielded c.loop-candidate.candidate-iterator c.loop-candidate.yielded_by c.next.result c.next.new.self c.in-Some.candidate c.in-Some.is c.next.ensures.steps in
    subst (IsCandidate c.args.tables.now) (sym turn.1) (c.requires (length c.loop-candidate.yielded) c.in-Some.candidate turn.0)

pub loop-candidate-preserved : goal.loop-candidate-preserved
loop-candidate-preserved c =
    let old = c.loop-candidate.actions.items in
    let made = c.in_ok-action.field-0 in
    next_action (rows_left c.args.tables.now c.args.facts.now) c.loop-candidate.yielded c.in-Some.candidate old c.match-branch-3.actions.items made c.loop-candidate.invariant c.in_ok-action.ensures
    (elim c.match-branch-3.branch [
      | in-Some-2+in_ok-push w ↦ ap (λ a. a.items) w.actions-is ∙ w.in_ok-push.ensures.items ∙ ap (λ o. old ++ option_to_list o) (sym w.in-Some-2.is)
      | in_default w ↦ ap (λ a. a.items) w.actions-is ∙ sym (append-nil old) ∙ ap (λ o. old ++ option_to_list o) (sym w.in_default.is)
    ])

pub returns : goal.returns
returns c =
    let given = c.into_iter-candidate-iterator.ensures.into_iter_gives in
    let end = YieldsList-end (YieldsList-from_vec {s = c.into_iter-candidate-iterator.result} c.args.candidates.items given.0 (given.1 ∙ c.args.candidates.ok.0)) c.loop-candidate.yielded c.loop-candidate.candidate-iterator c.loop-candidate.yielded_by c.next.result c.next.new.self c.in-None.is c.next.ensures.steps in
    ap (map action_row) c.from_vec.ensures ∙ c.loop-candidate.invariant ∙ ap (flat_map (rows_left c.args.tables.now c.args.facts.now)) (sym (map_itself c.loop-candidate.yielded) ∙ end.0)
