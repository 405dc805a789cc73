-- What a pass keeps of its function has at most one proof, as a ghost field asks.
use Rattle.std.specs.Prelude.{Result, Ok, Err, IfOk}
use Rattle.std.proofs.Props.{props}
use Rattle.sas_task.specs.Task.{Task}
use Rattle.sas_restriction.proofs.OneProof.{reduced_prop}
use Rattle.pass_possible.proofs.OneProof.{pruned_prop}
use Rattle.pass_book.specs.declared.kind.PassKind.{PassKind}
use Rattle.pass_book.specs.declared.kind.PassKind.TheVariants.{Order, Relevance, H2}
use Rattle.pass_book.specs.Passes.{Meets}

meets_prop : (kind : PassKind) (old new : Task) → IsProp (Meets kind old new)
meets_prop Order old new = hlevel props
meets_prop Relevance old new = reduced_prop old new
meets_prop H2 old new = pruned_prop old new

pub ok_meets_prop : {E : Type 0} (kind : PassKind) (old : Task) (answer : Result Task E) → IsProp (IfOk answer (λ new. Meets kind old new))
ok_meets_prop kind old (Ok new) = meets_prop kind old new
ok_meets_prop kind old (Err end) = hlevel props
