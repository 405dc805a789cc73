use Rattle.std.proofs.Common.{length, sym, ap, ◌∙◌}
use Rattle.std.specs.Prelude.{nat_lt}
use Rattle.std.specs.List.{insert}
use Rattle.std.specs.Option.{unwrap_or}
use Rattle.contradictions.specs.declared.types.Part.{Part}
use Rattle.invariant_check.proofs.Orders.{or_len, put_in-is}
use Rattle.invariant_check.proofs.extensions.put_in.Goals as goal

pub returns : goal.returns
returns c =
    let part = c.args.part.now in
    let others = c.args.others.now in
    let place =
    c.unwrap_or-place.ensures
    ∙ ap (λ found. unwrap_or found (length others)) c.first_above.ensures
    ∙ or_len (λ (other : Part). nat_lt part.predicate other.predicate) others in
    c.in_ok-insert.ensures.items
    ∙ ap (λ parts. insert parts c.unwrap_or-place.result c.in_ok-copy.field-0) c.in_ok-parts.ensures
    ∙ ap (λ k. insert others k c.in_ok-copy.field-0) place
    ∙ ap (insert others _) c.in_ok-copy.ensures
    ∙ sym (put_in-is part others)
