-- One more effect.
use Rattle.std.proofs.Common.{◌==◌, ◌&&◌, true, cond, [], ◌∷◌, take, sym, ap, ◌∙◌, subst, take_all}
use Rattle.std.specs.List.{list_any}
use Rattle.std.proofs.lemmas.List.Folds.{list_any-append}
use Rattle.lists.proofs.LoopSteps.{take_next}
use Rattle.sas_task.specs.declared.parts.Effect.{Effect}
use Rattle.fdr_encoder.specs.Operators.{is_given}
use Rattle.fdr_encoder.specs.GivenValues.{Know, is_same}
use Rattle.fdr_encoder.proofs.simplify.table_of.Goals as goal
use Rattle.lists.proofs.Items.{last_of}

pub loop-effect-init : goal.loop-effect-init
loop-effect-init c p = ap (list_any (is_same (p.var, p.val))) c.new-table.ensures.empty

pub loop-effect-preserved : goal.loop-effect-preserved
loop-effect-preserved c p =
    let effects = c.args.effects.now in
    let i = c.loop-effect.effect-index in
    let e = c.effect-item.result in
    let here = e.var == p.var && e.after == p.val in
    c.in_ok-insert.ensures.updates.0 (p.var, p.val)
    ∙ ap (cond here true) (c.loop-effect.invariant p)
    ∙ last_of here (is_given (take i effects) p)
    ∙ sym (list_any-append (λ (o : Effect). o.var == p.var && o.after == p.val) (take i effects) (e ∷ []))
    ∙ ap (λ es. is_given es p) (sym (take_next effects i e c.loop-effect-test.true c.effect-item.is))

pub returns : goal.returns
returns c = subst (λ effects. Know effects c.loop-effect.table.keys) (take_all c.loop-effect.effect-index c.args.effects.now c.loop-effect-test.false) c.loop-effect.invariant
