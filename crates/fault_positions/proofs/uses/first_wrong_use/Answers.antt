use Rattle.std.proofs.Common.{◌∙◌}
use Rattle.std.specs.List.{flat_map}
use Rattle.fault_positions.specs.Mentions.{predicate_uses, function_uses}
use Rattle.fault_positions.specs.Seen.{all_seen}
use Rattle.fault_positions.specs.Uses.{wrong_predicates, wrong_functions}
use Rattle.fault_positions.proofs.Joined.{earliest_of_both}
use Rattle.fault_positions.proofs.uses.first_wrong_use.Goals as goal

pub returns : goal.returns
returns c =
    let mentions = all_seen c.args.mentions.now in
    c.earlier.ensures
    ∙ earliest_of_both (wrong_predicates c.args.signature.now (flat_map predicate_uses mentions)) (wrong_functions c.args.signature.now (flat_map function_uses mentions)) _ _
    c.first_wrong_predicate.ensures c.first_wrong_function.ensures
