-- The choices are those from the rivals on the variable.
use Rattle.std.proofs.Common.{◌≡◌, ◌++◌, List, ℕ, append-nil, sym, ap, ◌∙◌, subst}
use Rattle.std.specs.List.{flat_map}
use Rattle.std.specs.Result.{OnOk}
use Rattle.ground_task.specs.declared.types.Cond.{Cond}
use Rattle.sas_task.specs.Pairs.{pair}
use Rattle.fdr_effects.specs.Places.{last_value}
use Rattle.fdr_effects.specs.Effects.{both, is_true, sets_where, negated_choices, rivals}
use Rattle.fdr_effects.specs.Rivals.{conditions, conditions_on}
use Rattle.fdr_effects.specs.Standing.{chosen}
use Rattle.fdr_effects.proofs.NegatedChoices.{both_assoc, no_choices}
use Rattle.fdr_effects.proofs.effects.push_deletes.Goals as goal

pub returns-then-is_always_set : goal.returns-then-is_always_set
returns-then-is_always_set c effects are =
    let e = c.args.effect.now in
    let var = c.args.var in
    let out = c.args.out.now.items in
    let f = λ (choice : Cond ℕ). sets_where c.args.index.now (pair var (last_value c.args.index.now var)) (both e.condition (both (is_true e.fact) choice)) in
    let none = ap negated_choices (sym (are var)) ∙ no_choices (conditions_on var c.args.rivals.now) (sym c.is_always_set.ensures ∙ c.if-is_always_set.true) in
    sym (ap (λ (cs : List (Cond ℕ)). out ++ flat_map f cs) none ∙ append-nil out)

pub returns : goal.returns
returns c effects are =
    let cover = c.args.index.now in
    let e = c.args.effect.now in
    let var = c.args.var in
    let p = pair var (last_value cover var) in
    let others = rivals cover effects var in
    let same = ap (λ cs. chosen cover c.in_ok-cause.cause var cs) (ap conditions c.on.ensures ∙ are var)
    ∙ ap (λ (cause : Cond ℕ). chosen cover cause var others) c.in_ok-cause.ensures
    ∙ ap (λ (f : Cond ℕ → Cond ℕ). flat_map (λ choice. sets_where cover p (f choice)) (negated_choices others)) (λ i choice. sym (both_assoc e.condition (is_true e.fact) choice) i) in
    subst (λ l. OnOk c.push_caused.result (c.push_caused.new.out.items ≡ c.args.out.now.items ++ l)) same c.push_caused.ensures
