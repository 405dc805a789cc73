use Rattle.sas_restriction.proofs.Valid.{restriction_valid}
use Rattle.sas_restriction.proofs.Stands.{keeps, keeps_changing}
use Rattle.sas_restriction.proofs.laws.restriction_keeps.Goals as goal

pub returns : goal.returns
returns c =
    record {
      valid = λ task new choice valid is restricts. restriction_valid choice task new valid is restricts;
      stands = λ task new choice valid is restricts may. keeps choice task new valid is restricts may;
      changing = λ task new choice valid is restricts may. keeps_changing choice task new valid is restricts may;
    }
