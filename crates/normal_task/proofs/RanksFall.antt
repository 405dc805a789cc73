-- Ranks fall along the axioms of a checked pair's normal task, as a test.
use Rattle.std.proofs.Common.{◌≡◌, true, not, [], refl}
use Rattle.std.specs.Prelude.{nat_lt}
use Rattle.std.specs.List.{list_all}
use Rattle.std.proofs.lemmas.Bool.{or_right, lt-ltb}
use Rattle.pddl_syntax.specs.declared.types.Domain.{Domain}
use Rattle.pddl_syntax.specs.declared.types.Problem.{Problem}
use Rattle.type_checker.specs.Faults.{check_faults}
use Rattle.lists.proofs.Items.{Among, each_passes}
use Rattle.normal_task.specs.declared.task.AxiomRow.{AxiomRow}
use Rattle.normal_task.specs.declared.task.Literal.{Literal}
use Rattle.normal_task.specs.declared.task.Literal.TheVariants.{Holds, Equal}
use Rattle.normal_task.specs.Lawful.{is_below}
use Rattle.normal_task.specs.Meaning.{is_derived}
use Rattle.normal_task.specs.Normalised.{normal}
use Rattle.normal_task.proofs.Ranks.{rank, rank-falls}

module _ (domain : Domain) (problem : Problem) (none : check_faults domain problem ≡ []) where
  literal-below : (row : AxiomRow) → Among row (normal domain problem).axioms → (literal : Literal) → Among literal row.condition → is_below (normal domain problem) (rank domain problem none) row.predicate literal ≡ true
  literal-below row among (Holds positive asked places) inside =
      or_right (not (is_derived (normal domain problem) asked)) (nat_lt (rank domain problem none asked) (rank domain problem none row.predicate))
      (lt-ltb (rank domain problem none asked) (rank domain problem none row.predicate) (rank-falls domain problem none row among positive asked places inside))
  literal-below row among (Equal positive left right) inside = refl

  pub ranks-fall : list_all (λ rule. list_all (is_below (normal domain problem) (rank domain problem none) rule.predicate) rule.condition) (normal domain problem).axioms ≡ true
  ranks-fall =
      each_passes (λ (rule : AxiomRow). list_all (is_below (normal domain problem) (rank domain problem none) rule.predicate) rule.condition) (normal domain problem).axioms
      (λ row among. each_passes (is_below (normal domain problem) (rank domain problem none) row.predicate) row.condition (literal-below row among))
