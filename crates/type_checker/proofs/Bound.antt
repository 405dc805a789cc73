-- In a pair without check faults no variable is unbound.
use Rattle.std.proofs.Common.{◌≡◌, [], inl, inr, refl}
use Rattle.std.specs.List.{flat_map}
use Rattle.pddl_syntax.specs.declared.types.Action.{Action}
use Rattle.pddl_syntax.specs.declared.types.Derived.{Derived}
use Rattle.pddl_syntax.specs.declared.types.Domain.{Domain}
use Rattle.pddl_syntax.specs.declared.types.Init.{Init}
use Rattle.pddl_syntax.specs.declared.types.Problem.{Problem}
use Rattle.lists.proofs.Items.{Among}
use Rattle.fault_positions.specs.Scopes.{in_condition, in_action, in_axiom, in_domain, in_init, in_problem}
use Rattle.type_checker.specs.Faults.{check_faults}
use Rattle.type_checker.proofs.NoFaults.{left_empty, right_empty, piece_empty, row_empty}

module _ (domain : Domain) (problem : Problem) (none : check_faults domain problem ≡ []) where
  pub all_bound : (in_domain domain ≡ []) × (in_problem problem ≡ [])
  all_bound = row_empty domain problem none _ (inr (inr (inr (inr (inr (inr (inr (inl refl))))))))

  pub action_bound : (action : Action) → Among action domain.actions → in_action action ≡ []
  action_bound = piece_empty in_action domain.actions (left_empty (flat_map in_action domain.actions) (flat_map in_axiom domain.axioms) all_bound.0)

  pub axiom_bound : (rule : Derived) → Among rule domain.axioms → in_axiom rule ≡ []
  axiom_bound = piece_empty in_axiom domain.axioms (right_empty (flat_map in_action domain.actions) (flat_map in_axiom domain.axioms) all_bound.0)

  pub initial_bound : flat_map in_init problem.init ≡ []
  initial_bound = left_empty (flat_map in_init problem.init) (in_condition problem.goal []) all_bound.1

  pub entry_bound : (entry : Init) → Among entry problem.init → in_init entry ≡ []
  entry_bound = piece_empty in_init problem.init initial_bound
