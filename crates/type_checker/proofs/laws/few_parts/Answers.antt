use Rattle.type_checker.proofs.FewParts.{few_parts}
use Rattle.type_checker.proofs.laws.few_parts.Goals as goal

pub returns : goal.returns
returns c = few_parts
