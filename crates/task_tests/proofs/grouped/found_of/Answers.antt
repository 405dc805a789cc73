use Rattle.std.proofs.Common.{◌≡◌, true}
use Rattle.std.specs.List.{list_all}
use Rattle.std.proofs.lemmas.Result.{IfOk-weaker}
use Rattle.invariant_check.specs.WellFormed.{is_well_formed}
use Rattle.invariant_guess.specs.Trial.{IsFound}
use Rattle.task_tests.proofs.grouped.found_of.Goals as goal

pub returns : goal.returns
returns c =
    IfOk-weaker c.find.result (IsFound c.args.normal.now 100000) (λ found. list_all (is_well_formed c.args.normal.now) found.accepted ≡ true)
    (c.finds.ensures.well_formed c.args.normal.now 100000) c.find.ensures
