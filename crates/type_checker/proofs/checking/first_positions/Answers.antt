use Rattle.std.proofs.Common.{◌∷◌, [], None}
use Rattle.pddl_lexer.specs.declared.fault.Kind.TheVariants as kinds
use Rattle.type_checker.proofs.checking.first_positions.Goals as goal

pub returns : goal.returns
returns c = λ i.
    (kinds.UnknownType, c.in_ok-first_unknown_types.ensures {u = tt} i)
    ∷ (kinds.TypeCycle, (c.in_ok-first_type_on_cycle.ensures {u = tt} i, None))
    ∷ (kinds.DuplicateName, c.in_ok-first_repeats.ensures {u = tt} i)
    ∷ (kinds.UnknownPredicate, c.first_unknown_predicates.ensures i)
    ∷ (kinds.UnknownFunction, c.first_unknown_functions.ensures i)
    ∷ (kinds.WrongArity, c.first_wrong_arities.ensures i)
    ∷ (kinds.UnknownObject, c.in_ok-first_unknown_objects.ensures {u = tt} i)
    ∷ (kinds.UnboundVariable, c.in_ok-first_unbound.ensures {u = tt} i)
    ∷ (kinds.DerivedWritten, c.in_ok-first_written_derived.ensures {u = tt} i)
    ∷ (kinds.RecursiveDerived, (c.in_ok-first_recursive_axiom.ensures {u = tt} i, None))
    ∷ (kinds.InitConflict, (None, c.in_ok-first_denied.ensures {u = tt} i))
    ∷ (kinds.ValueConflict, (None, c.in_ok-first_revalued.ensures {u = tt} i))
    ∷ (kinds.CostForm, (c.first_ill_formed_increase.ensures i, None))
    ∷ (kinds.TooManyParts, c.first_too_large.ensures i)
    ∷ []
