use Rattle.std.proofs.Common.{◌≡◌, ◌||◌, take}
use Rattle.std.specs.List.{list_any}
use Rattle.pddl_syntax.specs.Words.{Name, is_same}
use Rattle.normal_task.specs.Parts.{is_listed}
use Rattle.normal_rows.proofs.FreeNames.{GoesOn}
use Rattle.normal_rows.proofs.free.bind.Given as goal

abbrev pub invariant-loop-variable : goal.invariant-loop-variable
invariant-loop-variable l = record {
  on : GoesOn l.initial.bound l.bound;
  binds : (name : Name) → list_any (is_same name) l.bound ≡ (is_listed (take l.variable-index l.variables) name || list_any (is_same name) l.initial.bound);
}
