use Rattle.std.proofs.Common.{◌==◌, refl}
use Rattle.sas_reader.proofs.Cuts.{not_last}
use Rattle.sas_reader.proofs.reader.Reader.end_words.Goals as goal

pub returns-in-Some : goal.returns-in-Some
returns-in-Some c = rw (c.into.ensures, c.fault.ensures, ← c.self.view_is, c.in-Some.is) (not_last (λ b. b == 32) _ c.in-Some.field-0.now refl)
