use Rattle.std.proofs.Common.{rules, [], ◌∷◌, ap, ◌∙◌}
use Rattle.std.specs.List.{list_any}
use Rattle.pddl_syntax.specs.declared.types.Derived.{Derived}
use Rattle.pddl_syntax.specs.Words.{is_same}
use Rattle.fault_positions.specs.Positions.{earliest}
use Rattle.fault_positions.proofs.MentionPositions.{first_where, where_each, where_passes}
use Rattle.fault_positions.proofs.recursion.first_derived.Goals as goal

pub returns : goal.returns
returns c =
    let test = λ (rule : Derived). list_any (is_same rule.head.name.name) c.args.names.now in
    let at_of = λ (rule : Derived). rule.at in
    c.first_of.ensures (λ (rule : Derived). where_passes test at_of (rule ∷ [])) (λ rule at called. let one = first_where test at_of rule in search (rules, one))
    ∙ ap earliest (where_each test at_of c.args.axioms.now)
