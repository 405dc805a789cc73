use Rattle.std.proofs.Common.{◌≡◌, List, length, Some, refl, sym, ap, ◌∙◌, subst}
use Rattle.std.specs.List.{slice_get}
use Rattle.std.proofs.lemmas.Option.{slice_get_read}
use Rattle.std.proofs.lemmas.Result.{IfOk-weaker}
use Rattle.normal_task.specs.declared.task.Schema.{Schema}
use Rattle.invariant_check.specs.Beside.{StandsFor}
use Rattle.invariant_check.proofs.NearParts.{near_stands}
use Rattle.invariant_check.proofs.near.near.Goals as goal

pub returns-in-Some : goal.returns-in-Some
returns-in-Some c =
    let task = c.args.normal.now in
    let place = c.args.place.now in
    let candidate = c.args.candidate.now in
    let at : slice_get task.schemas place.schema ≡ Some c.in-Some.schema.now =
    ap (λ (schemas : List Schema). slice_get schemas place.schema) (sym c.as_slice.ensures)
    ∙ slice_get_read c.as_slice.result.now (length c.as_slice.result.now) place.schema c.in-Some.schema.now refl c.in-Some.ensures.lookup.3.0 c.in-Some.ensures.lookup.1 in
    IfOk-weaker c.near_schema.result _ (λ near. StandsFor task place near candidate) (λ near is. subst (λ n. StandsFor task place n candidate) (sym is) (near_stands task place candidate c.in-Some.schema.now at)) c.near_schema.ensures
