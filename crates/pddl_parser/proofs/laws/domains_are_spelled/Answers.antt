use Rattle.pddl_parser.proofs.WellSpelledDomains.{domain_spelled}
use Rattle.pddl_parser.proofs.laws.domains_are_spelled.Goals as goal

pub returns : goal.returns
returns c = domain_spelled
