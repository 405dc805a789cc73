use Rattle.std.proofs.Common.{◌≡◌, ℕ, List, [], ◌∷◌, ◌++◌, map, codes, refl, sym, ap, ◌∙◌, if◌then◌else◌}
use Rattle.std.proofs.lemmas.Result.{on_ok_weaker}
use Rattle.pddl_syntax.specs.Holds as pddl
use Rattle.pddl_syntax.specs.Words.{is_same}
use Rattle.normal_task.specs.Meaning.{is_same_value}
use Rattle.normal_task.specs.declared.task.ValueRow.{ValueRow}
use Rattle.normal_task.specs.Keys.{value_key}
use Rattle.normal_task.specs.Normalised.{once_after, value_row}
use Rattle.normal_task.specs.Numbers.{function_number, object_number}
use Rattle.normaliser.proofs.OnceSteps.{once-step}
use Rattle.normaliser.proofs.initial.push_value.Goals as goal

pub returns-in_ok-key-in-Value : goal.returns-in_ok-key-in-Value
returns-in_ok-key-in-Value c = λ so_far keys_are items_are.
    let domain = c.args.numbering.now.domain in
    let problem = c.args.numbering.now.problem in
    let wanted : ValueRow = record {
      function = function_number domain c.in-Value.term.predicate.name;
      objects = map (object_number domain problem) (map (pddl.object_of []) c.in-Value.term.terms);
      value = c.in-Value.value;
    } in
    let counts = ap (λ (name : List ℕ). is_same name (codes "total-cost")) (sym c.as_slice.ensures) ∙ sym c.is_total_cost.ensures ∙ c.if-is_total_cost.false in
    let kept : value_row domain problem c.args.entry.now ≡ wanted ∷ [] =
    ap (value_row domain problem) c.in-Value.is ∙ ap (λ b. if b then [] else wanted ∷ []) counts in
    let added : so_far ++ c.in_ok-row-in-Value.row ∷ [] ≡ so_far ++ value_row domain problem c.args.entry.now =
    ap (λ (row : ValueRow). so_far ++ row ∷ []) c.in_ok-row-in-Value.ensures ∙ sym (ap (λ (l : List ValueRow). so_far ++ l) kept) in
    on_ok_weaker c.push_new.result
    (λ made.
    let step = once-step domain problem is_same_value value_key (λ a b. refl) c.args.keys.now c.args.rows.now.items so_far keys_are items_are c.in_ok-row-in-Value.row c.in_ok-key-in-Value.key.items
    (c.in_ok-key-in-Value.ensures ∙ ap (λ l. c.in_ok-row-in-Value.row.function ∷ l) c.as_slice-in-Value.ensures) c.push_new.new.keys c.push_new.new.rows.items made in
    (step.0, step.1 ∙ ap (once_after domain problem is_same_value []) added))
    c.push_new.ensures
