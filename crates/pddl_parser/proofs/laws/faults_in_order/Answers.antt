use Rattle.std.proofs.Common.{refl}
use Rattle.pddl_lexer.specs.Text.{mark}
use Rattle.pddl_lexer.specs.Tokens.{spelled_from}
use Rattle.pddl_lexer.specs.Nested.{tree}
use Rattle.pddl_syntax.specs.Shapes.{check_all, check_exact, check_typed, check_after_dash}
use Rattle.pddl_syntax.specs.Conditions.{by_head, conditions, condition}
use Rattle.pddl_syntax.specs.Reading.{sections}
use Rattle.pddl_parser.specs.ProblemReading.{init, problem_section_of, problem_section, has_section, problem_reading}
use Rattle.pddl_parser.proofs.laws.faults_in_order.Goals as goal

-- They compute.
pub returns : goal.returns
unfolding mark spelled_from tree check_all check_exact check_typed check_after_dash by_head conditions condition sections init problem_section_of problem_section has_section problem_reading
returns c = record { in_order = refl; inside = refl; nothing = refl }
