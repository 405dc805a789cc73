use Rattle.std.proofs.Common.{sym, ◌∙◌, subst}
use Rattle.std.specs.Prelude.{nat_eq}
use Rattle.std.specs.List.{IsDistinct}
use Rattle.invariant_check.proofs.Orders.{left_by-distinct}
use Rattle.invariant_check.proofs.extensions.push_parts_counting.Goals as goal

pub push_orders-requires : goal.push_orders-requires
push_orders-requires c =
    subst (IsDistinct nat_eq) (sym (c.as_slice.ensures.value ∙ c.in_ok-positions.ensures)) (left_by-distinct c.args.arity c.args.counted)
