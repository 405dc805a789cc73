-- The sets, place by place, by the table of the facts that are true at the start.
use Rattle.std.proofs.Common.{◌≡◌, [], ◌++◌, ◌==◌, ◌<◌, Bool, false, List, ℕ, map, length, get_or, sym, ap, ◌∙◌, subst}
use Rattle.std.specs.List.{list_any, position_or_len}
use Rattle.std.proofs.lemmas.List.{get_or-map, length-map}
use Rattle.std.proofs.lemmas.List.FromFn.{fill_by_all}
use Rattle.ground_task.specs.Literals.{initial}
use Rattle.reached_task.specs.ReachedTask.{reached_task}
use Rattle.fdr_effects.specs.Places.{value_in}
use Rattle.fdr_encoder.specs.GoalForms.{goal_part_in}
use Rattle.fdr_encoder.proofs.encoding.state.Goals as goal

pub flags-requires : goal.flags-requires
flags-requires c k d below =
    let init = c.as_slice.ensures in
    let facts = c.len.ensures in
    subst (λ n. get_or c.as_slice.result.now k d < n) (sym facts) (subst (λ (l : List ℕ). get_or l k d < length c.args.reached.now.facts) (sym init) (c.requires.init k d (subst (λ (l : List ℕ). k < length l) init below)).0)

pub returns : goal.returns
returns c var layer =
    let test = initial (reached_task c.args.reached.now) in
    let sets = c.sets.result.now in
    let cover = c.args.index.now in
    let same : (λ (fact : ℕ). get_or c.in_ok-truths.truths.items fact false) ≡ test = λ i fact. (c.in_ok-truths.ensures fact ∙ ap (list_any (λ f. f == fact)) c.as_slice.ensures) i in
    let values = c.in_ok-all.ensures
    ∙ ap (λ (truths : List Bool). map (position_or_len (λ fact. get_or truths fact false)) sets) c.as_slice-2.ensures.value
    ∙ ap (λ (t : ℕ → Bool). map (position_or_len t) sets) same
    ∙ ap (map (position_or_len test)) c.sets.ensures
    ∙ fill_by_all (λ var. value_in cover test var) (map (position_or_len test) cover) (length cover) (position_or_len test []) (length-map cover (position_or_len test))
    (λ var below. get_or-map (position_or_len test) cover var [] (position_or_len test []) below) in
    c.from_vec.ensures ∙ c.in_ok-push_value.ensures var layer ∙ ap (λ l. l ++ (goal_part_in var layer c.args.goal.now).values) values
