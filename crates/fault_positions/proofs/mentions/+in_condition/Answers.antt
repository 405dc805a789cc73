use Rattle.std.proofs.Common.{◌≡◌, List, [], ◌∷◌, ◌++◌, ◌⊎◌, inl, inr, sym, ap, ◌∙◌}
use Rattle.pddl_lexer.specs.declared.position.At.{At}
use Rattle.pddl_syntax.specs.declared.types.Condition.{Condition}
use Rattle.pddl_syntax.specs.declared.types.Condition.TheVariants.{Forall, Exists}
use Rattle.pddl_syntax.specs.declared.types.Typed.{Typed}
use Rattle.pddl_syntax.proofs.ConditionCases.{fold-Imply, fold-Forall, fold-Exists}
use Rattle.fault_positions.specs.Mentions.{Mention, Variables, condition_step, in_condition}
use Rattle.fault_positions.specs.Seen.{all_seen}
use Rattle.fault_positions.proofs.Pieces.{made_turn, two_pieces}
use Rattle.fault_positions.proofs.mentions.+in_condition.Goals as goal

in_quantified : (condition : Condition) (variables : List Typed) (inside : Condition) → ((at : At) × (condition ≡ Forall variables inside at)) ⊎ ((at : At) × (condition ≡ Exists variables inside at)) →
    in_condition condition ≡ Variables variables ∷ in_condition inside
in_quantified condition variables inside (inl is) = ap in_condition is.1 ∙ fold-Forall (List Mention) condition_step variables inside is.0
in_quantified condition variables inside (inr is) = ap in_condition is.1 ∙ fold-Exists (List Mention) condition_step variables inside is.0

pub add_in_condition-returns-in_ok-add_in_condition-in-Imply : goal.add_in_condition-returns-in_ok-add_in_condition-in-Imply
add_in_condition-returns-in_ok-add_in_condition-in-Imply t c =
    let first = in_condition c.get-in-Imply.result.now in
    two_pieces c.add_in_condition-in-Imply-2.result (all_seen c.args.mentions.now.items) (all_seen c.add_in_condition-in-Imply.new.mentions.items) (all_seen c.add_in_condition-in-Imply-2.new.mentions.items)
    first (in_condition c.get-in-Imply-2.result.now) (in_condition c.args.condition.now)
    (c.in_ok-add_in_condition-in-Imply.ensures {u = tt})
    (ap in_condition c.in-Imply.is
    ∙ fold-Imply (List Mention) condition_step c.in-Imply.premise c.in-Imply.conclusion c.in-Imply.field-2
    ∙ sym (ap (λ part. in_condition part ++ in_condition c.in-Imply.conclusion) c.get-in-Imply.ensures)
    ∙ sym (ap (λ part. first ++ in_condition part) c.get-in-Imply-2.ensures))
    c.add_in_condition-in-Imply-2.ensures

pub add_in_condition-returns-in_ok-add-in-Forall : goal.add_in_condition-returns-in_ok-add-in-Forall
add_in_condition-returns-in_ok-add-in-Forall t c =
    let variables = c.as_slice.result.now in
    two_pieces c.add_in_condition-in-Forall.result (all_seen c.args.mentions.now.items) (all_seen c.add-in-Forall.new.mentions.items) (all_seen c.add_in_condition-in-Forall.new.mentions.items)
    (Variables variables ∷ []) (in_condition c.get-in-Forall.result.now) (in_condition c.args.condition.now)
    (c.in_ok-add-in-Forall.ensures {u = tt})
    (in_quantified c.args.condition.now c.in-Forall.variables c.in-Forall.inside c.in-Forall.is
    ∙ sym (ap (λ (list : List Typed). Variables list ∷ in_condition c.in-Forall.inside) c.as_slice.ensures)
    ∙ sym (ap (λ part. Variables variables ∷ in_condition part) c.get-in-Forall.ensures))
    c.add_in_condition-in-Forall.ensures

pub add_in_conditions-loop-member-preserved : goal.add_in_conditions-loop-member-preserved
add_in_conditions-loop-member-preserved t c =
    made_turn in_condition c.args.members.now c.loop-member.member-index c.member-item.result c.loop-member-test.true c.member-item.is
    (all_seen c.args.mentions.now.items) (all_seen c.loop-member.mentions.items) (all_seen c.add_in_condition.new.mentions.items) c.loop-member.invariant (c.in_ok-add_in_condition.ensures {u = tt})
