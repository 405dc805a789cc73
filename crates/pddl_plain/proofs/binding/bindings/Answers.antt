use Rattle.std.proofs.Common.{[], ◌∷◌, ◌++◌, List, ap, ◌∙◌, arith}
use Rattle.lists.proofs.LoopSteps.{map_turn}
use Rattle.pddl_syntax.specs.Objects.{Binding, bound}
use Rattle.pddl_syntax.specs.Words.{Name}
use Rattle.pddl_plain.proofs.binding.bindings.Goals as goal

pub loop-names-preserved : goal.loop-names-preserved
loop-names-preserved c =
    map_turn _ c.loop-names.names-index c.names-item.result (omega arith) c.names-item.is
    (λ names. bound c.args.variables.now names c.args.outer.now) [] c.loop-names.all.items c.push.new.self.items c.loop-names.invariant
    (c.in_ok-push.ensures.items ∙ ap (λ (binding : Binding). c.loop-names.all.items ++ binding ∷ []) (c.from_vec.ensures ∙ c.in_ok-inner.ensures ∙ ap (λ (names : List Name). bound c.args.variables.now names c.args.outer.now) c.as_slice.ensures))
