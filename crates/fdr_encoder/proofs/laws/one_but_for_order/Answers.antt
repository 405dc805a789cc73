use Rattle.fdr_encoder.proofs.AlikeEncodings.{one_encoding, agreeing_rules}
use Rattle.fdr_encoder.proofs.laws.one_but_for_order.Goals as goal

pub returns : goal.returns
returns c = record { one = one_encoding; agree = agreeing_rules }
