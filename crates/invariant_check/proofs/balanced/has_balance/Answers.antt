use Rattle.std.proofs.Common.{◌∙◌, ◌++◌, ap, eqb, length, sym, append-nil}
use Rattle.std.proofs.lemmas.Bool.{eqb-true}
use Rattle.std.proofs.lemmas.List.{nil_from_length}
use Rattle.invariant_check.proofs.balanced.has_balance.Goals as goal

pub has_balance_with-requires : goal.has_balance_with-requires
has_balance_with-requires c =
    let schema = c.args.schema.now in
    let row = c.args.row.now in
    let none = nil_from_length row.condition (ap length (sym c.as_slice.ensures) ∙ eqb-true (length c.as_slice.result.now) 0 (sym c.is_empty.ensures ∙ c.if-is_empty.true)) in
    c.as_slice-required.ensures ∙ sym (append-nil schema.condition) ∙ ap (λ l. schema.condition ++ l) (sym none)
