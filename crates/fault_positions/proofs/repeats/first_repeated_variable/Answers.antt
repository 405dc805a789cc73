use Rattle.std.proofs.Common.{◌≡◌, rules, IfOk, sym, subst}
use Rattle.std.proofs.lemmas.List.Folds.{flat_map-map}
use Rattle.fault_positions.specs.declared.mentions.Mention as code
use Rattle.fault_positions.specs.Positions.{earliest}
use Rattle.fault_positions.specs.Mentions.{Mention, listed_variables}
use Rattle.fault_positions.specs.Names.{repeats, names_of}
use Rattle.fault_positions.specs.Seen.{seen}
use Rattle.fault_positions.proofs.repeats.first_repeated_variable.Goals as goal

pub returns : goal.returns
returns c =
    let positions = λ (mention : Mention). repeats (names_of (listed_variables mention)) in
    let found = c.try_first_of.ensures (λ (mention : code.Mention). positions (seen mention)) (λ mention at called. search rules) in
    subst (λ ls. IfOk c.try_first_of.result (λ at. at ≡ earliest ls)) (sym (flat_map-map positions seen c.args.mentions.now)) found
