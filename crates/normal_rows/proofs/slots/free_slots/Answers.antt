use Rattle.std.proofs.Common.{◌≡◌, List, [], ◌∙◌, subst}
use Rattle.std.specs.Prelude.{IfOk}
use Rattle.std.proofs.Math.Bool.{and-true}
use Rattle.std.specs.List.{list_any}
use Rattle.pddl_syntax.specs.Words.{is_same}
use Rattle.normal_rows.specs.Asked.{asks}
use Rattle.normal_rows.specs.Free.{is_wanted}
use Rattle.normal_task.specs.Parts.{Slot}
use Rattle.normal_rows.proofs.FreeVariables.{slots-same}
use Rattle.normal_rows.proofs.slots.free_slots.Goals as goal

pub returns : goal.returns
returns c =
    let wanted = is_wanted c.args.numbering.now.domain c.args.numbering.now.problem c.args.variables.now c.args.inside.now in
    subst (λ (wanted : List Slot). IfOk c.named_slots.result (λ slots. slots.items ≡ wanted))
    (slots-same (asks c.in_ok-free.free []) wanted (λ name. and-true (list_any (is_same name) c.in_ok-free.free) ∙ c.in_ok-free.ensures name) c.args.scope.now)
    c.named_slots.ensures
