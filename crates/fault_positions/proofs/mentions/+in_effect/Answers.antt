use Rattle.std.proofs.Common.{List, [], ◌∷◌, ◌++◌, sym, ap, ◌∙◌}
use Rattle.pddl_syntax.specs.declared.types.Typed.{Typed}
use Rattle.pddl_syntax.proofs.EffectCases.{fold-When, fold-Forall, fold-Increase}
use Rattle.fault_positions.specs.Mentions.{Mention, Variables, Function, in_condition, in_cost, effect_step, in_effect}
use Rattle.fault_positions.specs.Seen.{all_seen}
use Rattle.fault_positions.proofs.Pieces.{made_turn, two_pieces}
use Rattle.fault_positions.proofs.mentions.+in_effect.Goals as goal

pub add_in_effect-returns-in_ok-add_in_condition-in-When : goal.add_in_effect-returns-in_ok-add_in_condition-in-When
add_in_effect-returns-in_ok-add_in_condition-in-When t c =
    let first = in_condition c.in-When.condition in
    two_pieces c.add_in_effect.result (all_seen c.args.mentions.now.items) (all_seen c.add_in_condition.new.mentions.items) (all_seen c.add_in_effect.new.mentions.items)
    first (in_effect c.get.result.now) (in_effect c.args.effect.now)
    (c.in_ok-add_in_condition-in-When.ensures {u = tt})
    (ap in_effect c.in-When.is
    ∙ fold-When (List Mention) effect_step c.in-When.condition c.in-When.inside c.in-When.field-2
    ∙ sym (ap (λ part. first ++ in_effect part) c.get.ensures))
    c.add_in_effect.ensures

pub add_in_effect-returns-in_ok-add-in-Forall : goal.add_in_effect-returns-in_ok-add-in-Forall
add_in_effect-returns-in_ok-add-in-Forall t c =
    let variables = c.as_slice-in-Forall.result.now in
    two_pieces c.add_in_effect-in-Forall.result (all_seen c.args.mentions.now.items) (all_seen c.add.new.mentions.items) (all_seen c.add_in_effect-in-Forall.new.mentions.items)
    (Variables variables ∷ []) (in_effect c.get-in-Forall.result.now) (in_effect c.args.effect.now)
    (c.in_ok-add-in-Forall.ensures {u = tt})
    (ap in_effect c.in-Forall.is
    ∙ fold-Forall (List Mention) effect_step c.in-Forall.variables c.in-Forall.inside c.in-Forall.field-2
    ∙ sym (ap (λ (list : List Typed). Variables list ∷ in_effect c.in-Forall.inside) c.as_slice-in-Forall.ensures)
    ∙ sym (ap (λ part. Variables variables ∷ in_effect part) c.get-in-Forall.ensures))
    c.add_in_effect-in-Forall.ensures

pub add_in_effect-returns-in_ok-add-in-Increase : goal.add_in_effect-returns-in_ok-add-in-Increase
add_in_effect-returns-in_ok-add-in-Increase t c =
    two_pieces c.add_in_cost.result (all_seen c.args.mentions.now.items) (all_seen c.add-in-Increase.new.mentions.items) (all_seen c.add_in_cost.new.mentions.items)
    (Function c.in-Increase.term ∷ []) (in_cost c.in-Increase.cost) (in_effect c.args.effect.now)
    (c.in_ok-add-in-Increase.ensures {u = tt})
    (ap in_effect c.in-Increase.is ∙ fold-Increase (List Mention) effect_step c.in-Increase.term c.in-Increase.cost c.in-Increase.field-2)
    c.add_in_cost.ensures

pub add_in_effects-loop-member-preserved : goal.add_in_effects-loop-member-preserved
add_in_effects-loop-member-preserved t c =
    made_turn in_effect c.args.members.now c.loop-member.member-index c.member-item.result c.loop-member-test.true c.member-item.is
    (all_seen c.args.mentions.now.items) (all_seen c.loop-member.mentions.items) (all_seen c.add_in_effect.new.mentions.items) c.loop-member.invariant (c.in_ok-add_in_effect.ensures {u = tt})
