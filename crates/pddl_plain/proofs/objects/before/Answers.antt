use Rattle.std.proofs.Common.{[], ◌∷◌, ◌++◌, List, sym, ap, ◌∙◌, arith}
use Rattle.lists.proofs.LoopSteps.{take_next}
use Rattle.pddl_syntax.specs.Words.{Name}
use Rattle.pddl_plain.proofs.objects.before.Goals as goal

pub loop-name-preserved : goal.loop-name-preserved
loop-name-preserved c =
    c.in_ok-push-2.ensures.items
    ∙ ap (λ (last : Name). c.loop-name.names.items ++ last ∷ []) c.in_ok-copied-2.ensures
    ∙ ap (λ (names : List Name). names ++ c.name-item.result ∷ []) c.loop-name.invariant
    ∙ ap (λ (names : List Name). c.args.object.now ∷ names) (sym (take_next _ c.loop-name.name-index c.name-item.result (omega arith) c.name-item.is))
