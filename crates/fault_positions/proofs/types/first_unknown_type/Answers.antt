use Rattle.std.proofs.Common.{◌++◌, not, sym, ap, ◌∙◌, List}
use Rattle.std.specs.List.{list_any, flat_map}
use Rattle.std.proofs.lemmas.List.Folds.{flat_map-map}
use Rattle.pddl_syntax.specs.declared.types.Named.{Named}
use Rattle.pddl_syntax.specs.Words.{is_same}
use Rattle.fault_positions.specs.declared.mentions.Mention as code
use Rattle.fault_positions.specs.Positions.{positions_where, earliest}
use Rattle.fault_positions.specs.Mentions.{Mention, listed_variables}
use Rattle.fault_positions.specs.Names.{types_of}
use Rattle.fault_positions.specs.Seen.{seen}
use Rattle.fault_positions.proofs.Joined.{earliest_of_both}
use Rattle.fault_positions.proofs.MentionPositions.{positions_where_join}
use Rattle.fault_positions.proofs.types.first_unknown_type.Goals as goal

pub returns : goal.returns
returns c =
    let unknown = λ (types : List Named). positions_where (λ type. not (list_any (is_same type.name) c.args.known.now)) types in
    let types_in = λ (mention : Mention). types_of (listed_variables mention) in
    let listed = types_of c.args.objects.now in
    let mentioned = flat_map (λ (mention : code.Mention). types_in (seen mention)) c.args.mentions.now in
    c.earlier.ensures
    ∙ earliest_of_both (unknown listed) (unknown mentioned) _ _ c.first_in_list.ensures c.first_in_mentions.ensures
    ∙ ap earliest (sym (positions_where_join _ listed mentioned))
    ∙ ap (λ (types : List Named). earliest (unknown (listed ++ types))) (sym (flat_map-map types_in seen c.args.mentions.now))
