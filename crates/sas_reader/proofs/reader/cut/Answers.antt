use Rattle.std.proofs.Common.{◌≡◌, ◌==◌, ◌+◌, ◌-◌, length, take, drop, arith}
use Rattle.std.proofs.lemmas.List.{take_all, length-drop}
use Rattle.sas_reader.proofs.Cuts.{cut_nowhere, cut_at}
use Rattle.sas_reader.proofs.reader.cut.Goals as goal

pub returns-in_err-place-clause-cut : goal.returns-in_err-place-clause-cut
returns-in_err-place-clause-cut c = rw c.from_residual.ensures (cut_nowhere (λ b. b == c.args.byte) c.args.bytes.now c.in_err-place.ensures)

pub returns-clause-cut : goal.returns-clause-cut
returns-clause-cut c =
    let whole : take (length c.args.bytes.now - (c.in_ok-place.place + 1)) (drop (c.in_ok-place.place + 1) c.args.bytes.now) ≡ drop (c.in_ok-place.place + 1) c.args.bytes.now = take_all _ _ (omega (arith, length-drop (c.in_ok-place.place + 1) c.args.bytes.now)) in
    rw whole (cut_at (λ b. b == c.args.byte) c.args.bytes.now c.in_ok-place.place c.in_ok-place.ensures)
