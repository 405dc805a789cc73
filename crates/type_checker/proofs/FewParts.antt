-- In a pair without check faults no condition is cut into too many parts.
use Rattle.std.proofs.Common.{◌≡◌, true, [], ◌++◌, inl, inr, refl}
use Rattle.std.specs.List.{list_all}
use Rattle.pddl_syntax.specs.declared.types.Domain.{Domain}
use Rattle.pddl_syntax.specs.declared.types.Problem.{Problem}
use Rattle.lists.proofs.Items.{all_both}
use Rattle.fault_positions.specs.Sizes.{domain_cuts, problem_cuts}
use Rattle.type_checker.specs.Faultless.{has_few_parts}
use Rattle.type_checker.specs.Faults.{check_faults}
use Rattle.type_checker.proofs.NoFaults.{row_empty, all_pass}

module _ (domain : Domain) (problem : Problem) (none : check_faults domain problem ≡ []) where
  pub few_parts : list_all has_few_parts (domain_cuts domain ++ problem_cuts problem) ≡ true
  few_parts =
      let positions = row_empty domain problem none _ (inr (inr (inr (inr (inr (inr (inr (inr (inr (inr (inr (inr (inr (inl refl)))))))))))))) in
      all_both has_few_parts (domain_cuts domain) (problem_cuts problem)
      (all_pass has_few_parts (λ cut. cut.at) (domain_cuts domain) positions.0) (all_pass has_few_parts (λ cut. cut.at) (problem_cuts problem) positions.1)
