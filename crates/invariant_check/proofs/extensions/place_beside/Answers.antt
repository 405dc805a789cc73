use Rattle.std.proofs.Common.{ℕ, get_or, ap, ◌∙◌}
use Rattle.std.specs.Prelude.{nat_eq}
use Rattle.std.specs.List.{position}
use Rattle.std.specs.Option.{unwrap_or}
use Rattle.invariant_check.proofs.Orders.{or_len}
use Rattle.invariant_check.proofs.extensions.place_beside.Goals as goal

pub returns : goal.returns
returns c =
    let test = nat_eq c.args.place in
    let parameter =
    c.unwrap_or-parameter.ensures
    ∙ ap (λ found. unwrap_or found c.len.result) c.parameter_at.ensures
    ∙ ap (λ (n : ℕ). unwrap_or (position test c.args.first.now.places) n) c.len.ensures
    ∙ or_len test c.args.first.now.places in
    c.place_of.ensures ∙ ap (λ k. get_or c.args.part.now.places k 0) parameter
