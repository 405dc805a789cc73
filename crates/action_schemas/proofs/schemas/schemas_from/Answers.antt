use Rattle.std.proofs.Common.{List, ℕ, map, ap, ◌∙◌}
use Rattle.normal_task.specs.declared.task.EffectRow.{EffectRow}
use Rattle.normal_task.specs.Numbers.{ranges_of}
use Rattle.action_schemas.specs.SchemaRows.{schema_from}
use Rattle.action_schemas.proofs.schemas.schemas_from.Goals as goal

pub returns : goal.returns
returns c =
    let domain = c.args.numbering.now.domain in
    let problem = c.args.numbering.now.problem in
    let action = c.args.action.now in (
      c.in_ok-items.ensures
          ∙ ap (λ (r : List (List ℕ)). map (schema_from domain problem action c.args.scope.now r c.as_slice-3.result.now) c.args.parts.items) (c.as_slice-2.ensures ∙ c.in_ok-ranges.ensures ∙ ap (ranges_of domain problem) c.as_slice.ensures)
          ∙ ap (λ (l : List EffectRow). map (schema_from domain problem action c.args.scope.now (ranges_of domain problem action.parameters) l) c.args.parts.items) c.as_slice-3.ensures,
      c.in_ok-fresh.ensures,
    )
