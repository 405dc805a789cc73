use Rattle.std.proofs.Common.{rules, refl, sym, ap, ◌∙◌}
use Rattle.std.specs.List.{flat_map}
use Rattle.pddl_syntax.specs.declared.types.Action.{Action}
use Rattle.pddl_syntax.specs.declared.types.Derived.{Derived}
use Rattle.fault_positions.specs.Positions.{earlier, earliest}
use Rattle.fault_positions.specs.Sizes.{action_cuts, axiom_cuts, too_large}
use Rattle.fault_positions.proofs.Capping.{first_append, too_large_append}
use Rattle.fault_positions.proofs.MentionPositions.{of_pieces}
use Rattle.fault_positions.proofs.sizes.first_too_large_in_domain.Goals as goal

pub returns : goal.returns
returns c =
    let domain = c.args.domain.now in
    c.earlier.ensures
    ∙ ap (λ first. earlier first c.first_of-2.result)
    (c.first_of.ensures (λ (action : Action). too_large (action_cuts action)) (λ action at called. search rules)
    ∙ ap earliest (of_pieces too_large refl too_large_append action_cuts c.as_slice.result.now)
    ∙ ap (λ actions. earliest (too_large (flat_map action_cuts actions))) c.as_slice.ensures)
    ∙ ap (earlier (earliest (too_large (flat_map action_cuts domain.actions))))
    (c.first_of-2.ensures (λ (rule : Derived). too_large (axiom_cuts rule)) (λ rule at called. search rules)
    ∙ ap earliest (of_pieces too_large refl too_large_append axiom_cuts c.as_slice-2.result.now)
    ∙ ap (λ axioms. earliest (too_large (flat_map axiom_cuts axioms))) c.as_slice-2.ensures)
    ∙ sym (first_append (flat_map action_cuts domain.actions) (flat_map axiom_cuts domain.axioms))
