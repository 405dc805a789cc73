-- In a pair without check faults no derived predicate is written, neither by an effect nor by `:init`.
use Rattle.std.proofs.Common.{◌≡◌, true, not, List, [], inl, inr, refl}
use Rattle.std.specs.List.{list_all, flat_map}
use Rattle.pddl_syntax.specs.declared.types.Domain.{Domain}
use Rattle.pddl_syntax.specs.declared.types.Problem.{Problem}
use Rattle.pddl_syntax.specs.Holds.{is_derived}
use Rattle.fault_positions.specs.Mentions.{Mention, written_predicates, in_domain, in_problem}
use Rattle.fault_positions.specs.Names.{written_derived}
use Rattle.type_checker.specs.Faultless.{mentions, is_basic}
use Rattle.type_checker.specs.Faults.{check_faults}
use Rattle.lists.proofs.Items.{all_both}
use Rattle.type_checker.proofs.NoFaults.{row_empty, none_pass, all_pieces}

module _ (domain : Domain) (problem : Problem) where
  basic : (list : List Mention) → written_derived domain list ≡ [] → list_all (is_basic domain) list ≡ true
  basic list none =
      all_pieces (λ name. not (is_derived domain name.name)) written_predicates list (none_pass (λ name. is_derived domain name.name) (λ name. name.at) (flat_map written_predicates list) none)

  pub written_basic : check_faults domain problem ≡ [] → list_all (is_basic domain) (mentions domain problem) ≡ true
  written_basic none =
      let positions = row_empty domain problem none _ (inr (inr (inr (inr (inr (inr (inr (inr (inl refl))))))))) in
      all_both (is_basic domain) (in_domain domain) (in_problem problem) (basic (in_domain domain) positions.0) (basic (in_problem problem) positions.1)
