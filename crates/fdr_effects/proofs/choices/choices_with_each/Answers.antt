-- The choices that the loop went over are all of them.
use Rattle.std.proofs.Common.{◌≡◌, [], ◌∷◌, ◌++◌, List, ℕ, append-nil, map, sym, ap, ◌∙◌, subst}
use Rattle.std.specs.List.{flat_map}
use Rattle.std.proofs.lemmas.Iterator.Adapters.{YieldsList-from_vec}
use Rattle.std.proofs.lemmas.Iterator.Consumers.{YieldsList-end}
use Rattle.std.proofs.lemmas.List.Concat.{flat_map-append}
use Rattle.std.proofs.lemmas.List.Elements.{filter-append}
use Rattle.lists.proofs.Items.{map_itself}
use Rattle.ground_task.specs.declared.types.Cond.{Cond}
use Rattle.fdr_effects.specs.declared.literals.Literal.{Literal}
use Rattle.fdr_effects.specs.Effects.{both, negations}
use Rattle.fdr_effects.specs.Standing.{alone, can_stand, standing}
use Rattle.fdr_effects.proofs.StandingChoices.{with_each}
use Rattle.fdr_effects.proofs.choices.choices_with_each.Goals as goal

pub loop-choice-preserved : goal.loop-choice-preserved
loop-choice-preserved c =
    let cover = c.args.cause.now.cover in
    let cause = c.args.cause.now.literals in
    let literals = c.args.literals.now in
    let so-far = c.loop-choice.yielded in
    let choice = c.in-Some.choice in
    let grown = λ (x : Cond ℕ). map (λ one. both x one) (negations literals) in
    let added = subst (λ cv. standing cv cause c.push_both.new.all.items ≡ standing cv cause c.loop-choice.all.items ++ standing cv cause (map (λ one. both choice (alone one)) c.as_slice.result.now)) c.index.ensures (c.in_ok-push_both.ensures cause) in
    added
    ∙ ap (λ (os : List Literal). standing cover cause c.loop-choice.all.items ++ standing cover cause (map (λ one. both choice (alone one)) os)) (c.as_slice.ensures.value ∙ c.in_ok-ones.ensures)
    ∙ ap (λ l. standing cover cause c.loop-choice.all.items ++ l) (with_each cover cause choice literals)
    ∙ ap (λ l. l ++ standing cover cause (grown choice)) c.loop-choice.invariant
    ∙ sym (ap (standing cover cause) (flat_map-append grown so-far (choice ∷ []) ∙ ap (λ l. flat_map grown so-far ++ l) (append-nil (grown choice))) ∙ filter-append (λ x. can_stand cover (both cause x)) (flat_map grown so-far) (grown choice))

pub returns : goal.returns
returns c =
    let given = c.into_iter-choice-iterator.ensures.into_iter_gives in
    let end = YieldsList-end (YieldsList-from_vec {s = c.into_iter-choice-iterator.result} c.args.choices.items given.0 (given.1 ∙ c.args.choices.ok.0)) c.loop-choice.yielded c.loop-choice.choice-iterator c.loop-choice.yielded_by c.next.result c.next.new.self c.in-None.is c.next.ensures.steps in
    c.loop-choice.invariant ∙ ap (λ xs. standing c.args.cause.now.cover c.args.cause.now.literals (flat_map (λ x. map (λ one. both x one) (negations c.args.literals.now)) xs)) (sym (map_itself c.loop-choice.yielded) ∙ end.0)
