use Rattle.std.proofs.Common.{List, ◌∷◌, ◌++◌, ap}
use Rattle.std.specs.List.{flat_map}
use Rattle.pddl_lexer.specs.declared.fault.Kind.TheVariants.{UnknownType}
use Rattle.pddl_lexer.specs.Examples.{place, fault}
use Rattle.pddl_syntax.proofs.ConditionCases.{fold-True}
use Rattle.fault_positions.specs.Mentions.{Mention, condition_step, listed_variables}
use Rattle.fault_positions.specs.Names.{types_of}
use Rattle.fault_positions.specs.Names as names
use Rattle.type_checker.specs.declared.side.Side.TheVariants as sides
use Rattle.type_checker.specs.Examples.{stray, astray}
use Rattle.type_checker.specs.Faults.{check_faults, faults_at}
use Rattle.type_checker.proofs.laws.faults_in_order.Goals as goal

-- It computes, but for what the goal mentions.
pub returns : goal.returns
unfolding check_faults
returns c =
    ap
    (λ (mentions : List Mention).
    (sides.Domain, fault UnknownType 2 22) ∷ (sides.Domain, fault UnknownType 3 17)
    ∷ faults_at sides.Problem UnknownType (names.unknown_types stray (types_of astray.objects ++ flat_map (λ mention. types_of (listed_variables mention)) mentions)))
    (fold-True (List Mention) condition_step (place 2 33))
