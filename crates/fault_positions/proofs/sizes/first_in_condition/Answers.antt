use Rattle.std.proofs.Common.{◌*◌, true, sym, ap, ◌∙◌}
use Rattle.std.specs.Prelude.{min}
use Rattle.fault_positions.specs.CappedSizes.{cap, capped, first_at}
use Rattle.fault_positions.specs.Positions.{earliest}
use Rattle.fault_positions.specs.Sizes.{size_of, position_of, too_large}
use Rattle.fault_positions.specs.declared.sizes.CappedSize.{CappedSize}
use Rattle.fault_positions.proofs.Capping.{size_with, first_of_cut, one_times}
use Rattle.fault_positions.proofs.sizes.first_in_condition.Goals as goal

pub returns : goal.returns
returns c =
    let condition = c.args.condition.now in
    let size = size_of condition true in
    c.first_at.ensures
    ∙ ap (λ (s : CappedSize). first_at s c.position_of.result) c.size_of.ensures
    ∙ ap (first_at (capped size)) c.position_of.ensures
    ∙ ap (λ n. first_at (size_with (min n cap) (earliest (too_large size.replaced))) (position_of condition)) (sym (one_times size.parts))
    ∙ sym (first_of_cut (1 * size.parts) (position_of condition) size.replaced)
