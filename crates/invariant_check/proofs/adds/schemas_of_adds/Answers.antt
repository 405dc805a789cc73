use Rattle.std.proofs.Common.{◌+◌, List, ◌++◌, map, filter, take, sym, ap, ◌∙◌}
use Rattle.std.specs.Prelude.{nat_eq}
use Rattle.std.specs.List.{flat_map}
use Rattle.lists.proofs.LoopSteps.{flat_map_next}
use Rattle.contradictions.specs.declared.types.Part.{Part}
use Rattle.invariant_check.specs.declared.types.AddOf.{AddOf}
use Rattle.invariant_check.proofs.adds.schemas_of_adds.Goals as goal

pub loop-part-preserved : goal.loop-part-preserved
loop-part-preserved c =
    let items = c.as_slice-part-items.result.now in
    let i = c.loop-part.part-index in
    let part = c.part-item.result in
    let on_part = λ (part : Part). filter (λ (add : AddOf). nat_eq add.predicate part.predicate) c.args.table.now.adds.items in
    let schemas = λ (part : Part). map (λ (add : AddOf). add.schema) (on_part part) in
    c.in_ok-push_schemas.ensures
    ∙ ap (λ (found : List AddOf). c.loop-part.numbers.items ++ map (λ (add : AddOf). add.schema) found) (c.adds_on.ensures ∙ ap (filter (λ (add : AddOf). nat_eq add.predicate part.predicate)) c.as_slice.ensures.value)
    ∙ ap (λ l. l ++ schemas part) (c.loop-part.invariant ∙ ap (λ (parts : List Part). flat_map schemas (take i parts)) (sym c.as_slice-part-items.ensures))
    ∙ sym (flat_map_next items i part c.loop-part-test.true c.part-item.is schemas)
    ∙ ap (λ (parts : List Part). flat_map schemas (take (i + 1) parts)) c.as_slice-part-items.ensures
