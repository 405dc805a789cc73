-- What all mentions of the two files are, the mentions of each part are.
use Rattle.std.proofs.Common.{◌≡◌, Bool, true, List, ◌++◌}
use Rattle.std.specs.List.{list_all, flat_map}
use Rattle.pddl_syntax.specs.declared.types.Action.{Action}
use Rattle.pddl_syntax.specs.declared.types.Derived.{Derived}
use Rattle.pddl_syntax.specs.declared.types.Domain.{Domain}
use Rattle.pddl_syntax.specs.declared.types.Init.{Init}
use Rattle.pddl_syntax.specs.declared.types.Problem.{Problem}
use Rattle.lists.proofs.Items.{Among, all_passes, each_passes, among_left, among_right, among_flat_map}
use Rattle.fault_positions.specs.Mentions.{Mention, in_head, in_condition, in_action, in_axiom, in_domain, in_init, in_problem}
use Rattle.type_checker.specs.Faultless.{mentions}

module _ (domain : Domain) (problem : Problem) (test : Mention → Bool) (all : list_all test (mentions domain problem) ≡ true) where
  in_some : (part : List Mention) → ((mention : Mention) → Among mention part → Among mention (mentions domain problem)) → list_all test part ≡ true
  in_some part within = each_passes test part (λ mention there. all_passes test mention (mentions domain problem) (within mention there) all)

  -- the actions and the axioms stand behind the declarations
  behind_heads : (mention : Mention) → Among mention (flat_map in_action domain.actions ++ flat_map in_axiom domain.axioms) → Among mention (mentions domain problem)
  behind_heads mention there =
      let rest = flat_map in_action domain.actions ++ flat_map in_axiom domain.axioms in
      among_left mention (in_domain domain) (in_problem problem)
      (among_right mention (flat_map in_head domain.predicates) (flat_map in_head domain.functions ++ rest) (among_right mention (flat_map in_head domain.functions) rest there))

  pub in_each_action : (action : Action) → Among action domain.actions → list_all test (in_action action) ≡ true
  in_each_action action among =
      in_some (in_action action)
      (λ mention there. behind_heads mention (among_left mention (flat_map in_action domain.actions) (flat_map in_axiom domain.axioms) (among_flat_map in_action action mention domain.actions among there)))

  pub in_each_axiom : (rule : Derived) → Among rule domain.axioms → list_all test (in_axiom rule) ≡ true
  in_each_axiom rule among =
      in_some (in_axiom rule)
      (λ mention there. behind_heads mention (among_right mention (flat_map in_action domain.actions) (flat_map in_axiom domain.axioms) (among_flat_map in_axiom rule mention domain.axioms among there)))

  pub in_each_entry : (entry : Init) → Among entry problem.init → list_all test (in_init entry) ≡ true
  in_each_entry entry among =
      in_some (in_init entry)
      (λ mention there. among_right mention (in_domain domain) (in_problem problem)
      (among_left mention (flat_map in_init problem.init) (in_condition problem.goal) (among_flat_map in_init entry mention problem.init among there)))

  pub in_goal : list_all test (in_condition problem.goal) ≡ true
  in_goal =
      in_some (in_condition problem.goal)
      (λ mention there. among_right mention (in_domain domain) (in_problem problem) (among_right mention (flat_map in_init problem.init) (in_condition problem.goal) there))
