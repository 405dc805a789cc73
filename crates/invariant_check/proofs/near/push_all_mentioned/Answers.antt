use Rattle.std.proofs.Common.{[], ◌∷◌, ◌++◌, filter, take, sym, ap, ◌∙◌, append_assoc}
use Rattle.std.proofs.lemmas.List.Elements.{filter-append}
use Rattle.lists.proofs.LoopSteps.{take_next}
use Rattle.contradictions.specs.declared.types.Part.{Part}
use Rattle.invariant_check.specs.Beside.{mentions}
use Rattle.invariant_check.proofs.near.push_all_mentioned.Goals as goal

pub loop-part-preserved : goal.loop-part-preserved
loop-part-preserved c =
    let keeps = λ (part : Part). mentions c.args.schema.now part.predicate in
    let start = c.args.near.now.items in
    let parts = c.args.parts.now in
    let i = c.loop-part.part-index in
    let part = c.part-item.result in
    c.in_ok-push_mentioned.ensures ∙ ap (λ l. l ++ filter keeps (part ∷ [])) c.loop-part.invariant
    ∙ append_assoc start (filter keeps (take i parts)) (filter keeps (part ∷ []))
    ∙ ap (λ l. start ++ l) (sym (filter-append keeps (take i parts) (part ∷ [])) ∙ ap (filter keeps) (sym (take_next parts i part c.loop-part-test.true c.part-item.is)))
