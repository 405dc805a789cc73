-- What is left of a ground task over its reachable facts.
use Rattle.std.proofs.Common.{◌≡◌, ℕ, ◌+◌, List, map, refl, sym, ap, ◌∙◌}
use Rattle.std.specs.Prelude.{Result, IfOk}
use Rattle.std.proofs.lemmas.Result.{IfOk-weaker}
use Rattle.normal_task.specs.declared.task.GroundAtom.{GroundAtom}
use Rattle.ground_task.specs.declared.types.Ground.{Ground}
use Rattle.ground_task.specs.Lawful.{IsLawful as IsLawfulGround}
use Rattle.reached_task.specs.declared.types.Fact.{Fact}
use Rattle.reached_task.specs.declared.types.Reached.{Reached}
use Rattle.reached_task.specs.Lawful.{IsLawful}
use Rattle.reached_task.specs.Reachable.{fact_of, AreReachable, IsReachedBy, IsReachedTask}
use Rattle.reached_task.specs.ReachedTask.{atoms_of}
use Rattle.reached_task.specs.Steps.{step_count}
use Rattle.reached_task.proofs.LawfulReached.{lawful_reached}
use Rattle.lists.proofs.Items.{map_back}

module _ {E : Type 0} (task : Ground) (atoms : List GroundAtom) (result : Result Reached E) (is : IfOk result (IsReachedBy task atoms)) where
  pub is_reached : AreReachable task atoms → IfOk result (IsReachedTask task)
  is_reached reachable = IfOk-weaker result (IsReachedBy task atoms) (IsReachedTask task) (λ reached by. record { atoms = atoms; reachable = reachable; is = by }) is

  pub is_lawful : AreReachable task atoms → IsLawfulGround task → IfOk result IsLawful
  is_lawful reachable lawful = IfOk-weaker result (IsReachedTask task) IsLawful (lawful_reached task lawful) (is_reached reachable)

  -- the facts are counted as the atoms are
  pub is_counted : (start steps : ℕ) → steps ≡ start + step_count task atoms → IfOk result (λ reached. steps ≡ start + step_count task (atoms_of reached))
  is_counted start steps counted =
      IfOk-weaker result (IsReachedBy task atoms) (λ reached. steps ≡ start + step_count task (atoms_of reached))
      (λ reached by. counted
      ∙ ap (λ l. start + step_count task l) (sym (ap (map (λ (fact : Fact). fact.atom)) by.facts ∙ map_back (fact_of task) (λ (fact : Fact). fact.atom) (λ (atom : GroundAtom). refl) atoms)))
      is
