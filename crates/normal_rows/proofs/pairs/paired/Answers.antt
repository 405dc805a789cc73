use Rattle.std.proofs.Common.{◌≡◌, List, subst}
use Rattle.std.specs.Prelude.{IfOk}
use Rattle.normal_task.specs.declared.parts.Part.{Part}
use Rattle.normal_rows.proofs.LeftToRight.{only_second}
use Rattle.normal_rows.proofs.pairs.paired.Goals as goal

pub returns-in-len1 : goal.returns-in-len1
returns-in-len1 c =
    subst (λ (wanted : List Part). IfOk c.all_extended.result (λ all. all ≡ wanted))
    (only_second c.args.around c.args.firsts c.args.seconds.now c.second-item.result c.in-len1.len_at_least c.in-len1.len_below c.second-item.is) c.all_extended.ensures
