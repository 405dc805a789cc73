-- Things made are equal where their halves are.
use Rattle.std.proofs.Common.{◌≡◌, List, ap, ◌∙◌}
use Rattle.normal_task.specs.declared.parts.Fresh.{Fresh}
use Rattle.normal_task.specs.Parts.{Made}

pub made-same : {A : Type 0} (made : Made A) (items : List A) (fresh : List Fresh) → (items ≡ made.items) × (fresh ≡ made.fresh) → record { items = items; fresh = fresh } ≡ made
made-same {A} made items fresh same =
    ap (λ (l : List A). record { items = l; fresh = fresh }) same.0 ∙ ap (λ (l : List Fresh). record { items = made.items; fresh = l }) same.1
