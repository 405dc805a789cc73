use Rattle.std.proofs.Common.{map, subst}
use Rattle.std.specs.List.Sorted.{IsPermutation}
use Rattle.std.proofs.lemmas.List.Sorted.{IsPermutation-map}
use Rattle.std.proofs.lemmas.Result.{on_ok_weaker}
use Rattle.reached_task.specs.AtomKeys.{atom_of}
use Rattle.reached_task.proofs.KeyedAtoms.{sorted_keys}
use Rattle.reached_task.proofs.atoms.Atoms.sort.Goals as goal

pub returns-clause-same : goal.returns-clause-same
returns-clause-same c =
    on_ok_weaker c.sort.result (λ _. subst (λ l. IsPermutation l (map atom_of c.sort.new.self.keys)) c.self.view_is (IsPermutation-map atom_of c.self.inside.table.keys c.sort.new.self.keys c.sort.ensures.reordered.0)) c.sort.ensures.sorted

pub returns-clause-in_order : goal.returns-clause-in_order
returns-clause-in_order c = on_ok_weaker c.sort.result (sorted_keys c.sort.new.self.keys) c.sort.ensures.sorted
