use Rattle.std.proofs.Common.{◌≡◌, sym, subst}
use Rattle.std.specs.Prelude.{IfOk}
use Rattle.std.proofs.lemmas.Result.{IfOk-weaker}
use Rattle.type_checker.specs.Checked.{FilePair}
use Rattle.normal_task.specs.Lawful.{IsLawful}
use Rattle.normal_task.specs.Normalised as spec
use Rattle.normaliser.proofs.normal.normalise.Goals as goal

pub returns : goal.returns
returns c =
    let normal = subst (λ (p : FilePair). IfOk c.numbered.result (λ normal. normal ≡ spec.normal p.domain p.problem)) c.in_ok-numbering.ensures c.numbered.ensures in
    record { normal = normal; lawful = IfOk-weaker c.numbered.result _ IsLawful (λ made same. subst IsLawful (sym same) c.lawful_task.ensures) normal }
