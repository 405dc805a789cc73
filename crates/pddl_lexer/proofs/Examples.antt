-- The worked examples compute.
use Rattle.std.proofs.Common.{refl}
use Rattle.pddl_lexer.specs.Text.{mark}
use Rattle.pddl_lexer.specs.Tokens.{spelled_from}
use Rattle.pddl_lexer.specs.Nested.{tree}
use Rattle.pddl_lexer.specs.Faults.{opened, closed, begun, kind_at, kind_at_end, faults_from}
use Rattle.pddl_lexer.specs.Examples.{TokenExamples, FaultExamples}

pub tokens : TokenExamples
unfolding mark spelled_from tree
tokens = record { as_written = refl; lowered = refl; as_nested = refl; tree_is = record { one_list = refl; spells = refl } }

pub faults : FaultExamples
unfolding mark opened closed begun kind_at kind_at_end faults_from
faults = record { no_fault = refl; no_token = refl; word_first = refl; byte = refl; byte_in_comment = refl; second_list = refl; not_closed = refl; closed_before = refl; closed_first = refl; deep = refl }
