use Rattle.pddl_parser.proofs.WellSpelledProblems.{problem_spelled}
use Rattle.pddl_parser.proofs.laws.problems_are_spelled.Goals as goal

pub returns : goal.returns
returns c = problem_spelled
