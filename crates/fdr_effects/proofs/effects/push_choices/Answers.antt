-- The choices that can stand set all that is set.
use Rattle.std.proofs.Common.{◌≡◌, ◌++◌, ◌||◌, List, ℕ, append-nil, take_all, inl, inr, sym, ap, ◌∙◌, subst}
use Rattle.std.specs.List.{flat_map, list_any}
use Rattle.std.proofs.lemmas.Bool.{or_cases}
use Rattle.lists.proofs.Items.{any_map}
use Rattle.ground_task.specs.declared.types.Cond.{Cond}
use Rattle.sas_task.specs.Pairs.{pair}
use Rattle.fdr_effects.specs.declared.rivals.Rival.{Rival}
use Rattle.fdr_effects.specs.Places.{last_value}
use Rattle.fdr_effects.specs.Effects.{both, sets_where, negated_choices}
use Rattle.fdr_effects.specs.Rivals.{conditions}
use Rattle.fdr_effects.specs.Standing.{Over, standing, shows, is_contradicted}
use Rattle.fdr_effects.proofs.StandingChoices.{none_chosen, chosen_are, contradicted, none_beside, none_beside_shown}
use Rattle.fdr_effects.proofs.effects.push_choices.Goals as goal

pub returns-then-never_fires : goal.returns-then-never_fires
returns-then-never_fires c =
    let cover = c.args.index.now in
    let cause = c.args.cause.now in
    let rivals = c.args.rivals.now in
    let over : Over = record { cover = cover; literals = cause } in
    let out = c.args.out.now.items in
    let some = ap (λ (o : Over). is_contradicted o || list_any (λ (r : Rival). shows o r.condition.now) rivals) (sym c.in_ok-marked.ensures) ∙ sym c.never_fires.ensures ∙ c.if-never_fires.true in
    let none = none_chosen cover cause c.args.var (conditions rivals) (
    elim (or_cases (is_contradicted over) (list_any (λ (r : Rival). shows over r.condition.now) rivals) some) [
      | inl is ↦ none_beside cover cause (contradicted cover cause is) (negated_choices (conditions rivals))
      | inr is ↦ none_beside_shown cover cause (conditions rivals) (any_map (shows over) (λ (r : Rival). r.condition.now) rivals ∙ is)
    ]) in
    sym (ap (λ l. out ++ l) none ∙ append-nil out)

pub returns : goal.returns
returns c =
    let cover = c.args.index.now in
    let cause = c.args.cause.now in
    let conds = conditions c.args.rivals.now in
    let all = c.in_ok-all.all.items in
    let f = λ (choice : Cond ℕ). sets_where cover (pair c.args.var (last_value cover c.args.var)) (both cause choice) in
    let same = subst (λ (o : Over). standing o.cover o.literals all ≡ standing o.cover o.literals (negated_choices conds)) c.in_ok-marked.ensures c.in_ok-all.ensures in
    c.loop-choice.invariant
    ∙ ap (λ (cs : List (Cond ℕ)). c.args.out.now.items ++ flat_map f cs) (take_all c.loop-choice.choice-index c.as_slice-choice-items.result.now c.loop-choice-test.false ∙ c.as_slice-choice-items.ensures.value)
    ∙ ap (λ l. c.args.out.now.items ++ l) (chosen_are cover cause c.args.var conds all same)
