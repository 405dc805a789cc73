use Rattle.std.proofs.Common.{arith}
use Rattle.pddl_syntax.proofs.OwnFaults.{typed_none, typed_dash, typed_item, dash_none, dash_type}
use Rattle.pddl_syntax.proofs.Rows.{fewer}
use Rattle.pddl_syntax.proofs.checks.check_typed.Goals as goal

pub loop-cursor-preserved : goal.loop-cursor-preserved
loop-cursor-preserved c = grind (arith, typed_none, typed_dash, typed_item, dash_none, dash_type, fewer)

pub loop-cursor-smaller : goal.loop-cursor-smaller
loop-cursor-smaller c = grind (arith, typed_none, typed_dash, typed_item, dash_none, dash_type, fewer)

pub returns : goal.returns
returns c = grind (arith, typed_none, typed_dash, typed_item, dash_none, dash_type, fewer)

pub returns-in_err-check_member : goal.returns-in_err-check_member
returns-in_err-check_member c = grind (arith, typed_none, typed_dash, typed_item, dash_none, dash_type, fewer)

pub returns-in_err-check_type : goal.returns-in_err-check_type
returns-in_err-check_type c = grind (arith, typed_none, typed_dash, typed_item, dash_none, dash_type, fewer)

pub returns-then-is_empty : goal.returns-then-is_empty
returns-then-is_empty c = grind (arith, typed_none, typed_dash, typed_item, dash_none, dash_type, fewer)
