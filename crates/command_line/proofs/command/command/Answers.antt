use Rattle.std.proofs.Common.{◌≡◌, ◌∷◌, [], List, false, fold, map, refl, sym, ap, ap₂, subst, ◌∙◌}
use Rattle.std.proofs.lemmas.Result.{IfOk-weaker}
use Rattle.clap.specs.Words.{AddsArg, AddsInTurn, app_of, rule_of, with_rule}
use Rattle.clap.specs.declared.builder.arg.Arg.{Arg}
use Rattle.clap.specs.declared.builder.command.Command.{Command}
use Rattle.command_line.proofs.command.command.Goals as goal

-- each argument stands for itself alone
abbrev AreOwn : List Arg → Type 0
AreOwn [] = false ≡ false
AreOwn (arg ∷ args) = (arg.global ≡ false) × AreOwn args

added : (old new : Command) (args : List Arg) → AreOwn args → AddsInTurn AddsArg old args new → app_of new ≡ fold with_rule (app_of old) (map rule_of args)
added old new [] own adds = ap app_of (sym adds)
added old new (arg ∷ args) own adds = added adds.0 new args own.1 adds.2 ∙ ap (λ app. fold with_rule app (map rule_of args)) (adds.1.shape own.0)

pub returns : goal.returns
returns c =
    let args : List Arg = c.new.result ∷ c.new-2.result ∷ c.option.result ∷ c.option-2.result ∷ c.option-3.result ∷ c.option-4.result ∷ c.option-5.result ∷ c.option-6.result ∷ c.flag.result ∷ c.flag-2.result ∷ c.flag-3.result ∷ [] in
    let own : AreOwn args =
    (c.new.ensures.optional.1, (c.new-2.ensures.optional.1, (c.option.ensures.own, (c.option-2.ensures.own, (c.option-3.ensures.own, (c.option-4.ensures.own, (c.option-5.ensures.own, (c.option-6.ensures.own, (c.flag.ensures.own, (c.flag-2.ensures.own, (c.flag-3.ensures.own, refl))))))))))) in
    let rules = ap₂ ◌∷◌ c.new.ensures.rule (ap₂ ◌∷◌ c.new-2.ensures.rule (ap₂ ◌∷◌ c.option.ensures.rule (ap₂ ◌∷◌ c.option-2.ensures.rule (ap₂ ◌∷◌ c.option-3.ensures.rule (ap₂ ◌∷◌ c.option-4.ensures.rule (ap₂ ◌∷◌ c.option-5.ensures.rule (ap₂ ◌∷◌ c.option-6.ensures.rule (ap₂ ◌∷◌ c.flag.ensures.rule (ap₂ ◌∷◌ c.flag-2.ensures.rule (ap (λ rule. rule ∷ []) c.flag-3.ensures.rule)))))))))) in
    IfOk-weaker c.args-2.result _ _
    (λ new adds. added c.new-3.result new args own (subst (λ args. AddsInTurn AddsArg c.new-3.result args new) c.in_ok-args.ensures.items adds) ∙ ap₂ (fold with_rule) c.new-3.ensures.app rules)
    c.args-2.ensures
