use Rattle.std.proofs.Common.{◌≡◌, List, length, Some, refl, sym, ◌∙◌, ap}
use Rattle.std.specs.List.{slice_get}
use Rattle.std.proofs.lemmas.Option.{slice_get_read}
use Rattle.std.proofs.lemmas.Result.{IfOk-weaker}
use Rattle.normal_task.specs.declared.task.Schema.{Schema}
use Rattle.invariant_check.specs.Beside.{repairs_among}
use Rattle.invariant_check.specs.Repairs.{repairs_at}
use Rattle.invariant_check.proofs.BesideParts.{among_deleted}
use Rattle.invariant_check.proofs.check.predicates_beside.Goals as goal

pub returns-then-may_be_balanced : goal.returns-then-may_be_balanced
returns-then-may_be_balanced c =
    IfOk-weaker c.others.result _ _ (λ predicates are. ap (repairs_among c.args.normal.now c.args.candidate.now c.args.place.now) are) c.others.ensures

pub returns-in-Some : goal.returns-in-Some
returns-in-Some c =
    let task = c.args.normal.now in
    let place = c.args.place.now in
    let candidate = c.args.candidate.now in
    let at : slice_get task.schemas place.schema ≡ Some c.in-Some.schema.now =
    ap (λ (schemas : List Schema). slice_get schemas place.schema) (sym c.as_slice.ensures)
    ∙ slice_get_read c.as_slice.result.now (length c.as_slice.result.now) place.schema c.in-Some.schema.now refl c.in-Some.ensures.lookup.3.0 c.in-Some.ensures.lookup.1 in
    IfOk-weaker c.deleted.result _ (λ predicates. repairs_among task candidate place predicates.items ≡ repairs_at task candidate place)
    (λ predicates are. ap (repairs_among task candidate place) are ∙ among_deleted task candidate place (sym c.may_be_balanced.ensures ∙ c.if-may_be_balanced.false) c.in-Some.schema.now at) c.deleted.ensures
