use Rattle.std.proofs.Common.{◌||◌, List, sym, ap, ◌∙◌}
use Rattle.std.specs.List.{list_any}
use Rattle.std.proofs.lemmas.List.Folds.{list_any-append}
use Rattle.pddl_syntax.specs.declared.types.Typed.{Typed}
use Rattle.pddl_syntax.specs.Words.{Name, is_same}
use Rattle.fault_positions.specs.Arguments.{is_listed}
use Rattle.fault_positions.proofs.arguments.Objects.of.Goals as goal

pub invariant_of-result : goal.invariant_of-result
invariant_of-result c = λ name.
    let constants = c.args.domain.now.constants in
    let objects = c.args.problem.now.objects in
    c.in_ok-add_names-2.ensures {u = tt} name
    ∙ ap (λ b. b || is_listed c.as_slice-2.result.now name)
    (c.in_ok-add_names.ensures {u = tt} name
    ∙ ap (λ (names : List Name). list_any (is_same name) names || is_listed c.as_slice.result.now name) c.new-names.ensures
    ∙ ap (λ (list : List Typed). is_listed list name) c.as_slice.ensures)
    ∙ ap (λ (list : List Typed). is_listed constants name || is_listed list name) c.as_slice-2.ensures
    ∙ sym (list_any-append (λ (typed : Typed). is_same typed.name.name name) constants objects)
