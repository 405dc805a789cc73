-- Without rivals there is one choice, of no literal.
use Rattle.std.proofs.Common.{◌≡◌, ◌++◌, List, length, sym, ap, ◌∙◌, subst}
use Rattle.std.specs.Result.{OnOk}
use Rattle.std.proofs.lemmas.Bool.{eqb-true}
use Rattle.std.proofs.lemmas.List.{nil_from_length}
use Rattle.sas_task.specs.Pairs.{pair}
use Rattle.fdr_effects.specs.declared.rivals.Rival.{Rival}
use Rattle.fdr_effects.specs.Effects.{sets_where}
use Rattle.fdr_effects.specs.Rivals.{conditions}
use Rattle.fdr_effects.specs.Standing.{chosen}
use Rattle.fdr_effects.proofs.StandingChoices.{chosen_alike, chosen_alone}
use Rattle.fdr_effects.proofs.effects.push_caused.Goals as goal

pub returns-then-is_empty : goal.returns-then-is_empty
returns-then-is_empty c =
    let cover = c.args.index.now in
    let cause = c.args.cause in
    let var = c.args.var in
    let out = c.args.out.now.items in
    let none = nil_from_length c.args.rivals.now (eqb-true (length c.args.rivals.now) 0 (sym c.is_empty.ensures ∙ c.if-is_empty.true)) in
    c.in_ok-push_where.ensures
    ∙ ap (λ val. out ++ sets_where cover (pair var val) cause) c.last_value.ensures
    ∙ ap (λ l. out ++ l) (sym (chosen_alone cover cause var))
    ∙ ap (λ (rs : List Rival). out ++ chosen cover cause var (conditions rs)) (sym none)

pub returns : goal.returns
returns c =
    let conds = conditions c.args.rivals.now in
    subst (λ l. OnOk c.push_choices.result (c.push_choices.new.out.items ≡ c.args.out.now.items ++ l)) (chosen_alike c.args.index.now c.args.cause conds c.in_ok-all.all c.args.var c.in_ok-all.ensures) c.push_choices.ensures
