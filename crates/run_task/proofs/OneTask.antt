-- A pair has one task.
use Rattle.std.proofs.Common.{◌≡◌, ℕ, Bool, List, length, ap, subst}
use Rattle.lists.specs.SameMembers.{SameMembers}
use Rattle.normal_task.specs.declared.task.Normal.{Normal}
use Rattle.normal_task.specs.Normalised.{normal}
use Rattle.invariant_guess.specs.declared.types.Found.{Found}
use Rattle.invariant_guess.specs.Trial.{IsFound}
use Rattle.ground_task.specs.declared.types.Ground.{Ground}
use Rattle.ground_task.specs.Alike.{AreAlike as AreAlikeGround}
use Rattle.ground_task.specs.Instances.{IsGroundTask}
use Rattle.reached_task.specs.declared.types.Fact.{Fact}
use Rattle.reached_task.specs.declared.types.Reached.{Reached}
use Rattle.reached_task.specs.Reachable.{IsReachedTask}
use Rattle.reached_task.specs.Layers.{AreLayers}
use Rattle.reached_task.specs.Alike.{AreAlike as AreAlikeReached}
use Rattle.mutex_groups.specs.Laws.{OneSetOfGroups}
use Rattle.group_cover.specs.Cover.{IsCover}
use Rattle.group_cover.specs.Laws.{OneCoverOfSame}
use Rattle.fdr_effects.specs.Places.{Cover}
use Rattle.fdr_encoder.specs.Encoding.{IsEncoding}
use Rattle.sas_task.specs.Task.{Task}
use Rattle.sas_task.specs.Alike.{AreAlike, RulesAgree}
use Rattle.task_simplifier.specs.Projection.{IsProjection}
use Rattle.pass_book.specs.declared.kind.PassKind.{PassKind}
use Rattle.pass_book.specs.Passes.{IsChain}
use Rattle.run_task.specs.RunTask.{IsRunEncoding, IsRunTask}
use Rattle.run_task.specs.OneTask.{OneRunTask, OneTaskOfPair}

-- ---- the stages, one after another

module _ (one_ground : (task : Normal) (a b : Ground) → IsGroundTask task a → IsGroundTask task b → AreAlikeGround a b)
    (one_reached : (a b : Ground) → AreAlikeGround a b → (one other : Reached) → IsReachedTask a one → IsReachedTask b other → AreAlikeReached one other)
    (one_layers : (a b : Reached) → AreAlikeReached a b → (layers others : List ℕ) → AreLayers a layers → AreLayers b others → layers ≡ others)
    (one_set : OneSetOfGroups) (one_cover : OneCoverOfSame)
    (one_encoding : (cover : Cover) (mutexes others : List (List ℕ)) (layers : List ℕ) (a b : Reached) (one other : Task) → AreAlikeReached a b → SameMembers mutexes others →
    IsEncoding cover mutexes layers a one → IsEncoding cover others layers b other → AreAlike one other) where
  encodings : (full : Bool) (task : Normal) (found : Found) (one other : Task) → IsRunEncoding full task found one → IsRunEncoding full task found other → AreAlike one other
  encodings full task found one other p q =
      let grounds = one_ground task p.is_reached.ground_of q.is_reached.ground_of p.is_reached.is_ground q.is_reached.is_ground in
      let reached = one_reached p.is_reached.ground_of q.is_reached.ground_of grounds p.reached q.reached p.is_reached.is_reached q.is_reached.is_reached in
      let layers = one_layers p.reached q.reached reached p.layers q.layers p.are_layers q.are_layers in
      let groups = one_set task found.accepted p.reached q.reached p.groups q.groups reached.facts p.are_groups q.are_groups in
      let count = ap (λ (facts : List Fact). length facts) reached.facts in
      let sets = one_cover full (length q.reached.facts) p.groups q.groups p.sets q.sets groups (subst (λ n. IsCover full n p.groups p.sets) count p.is_cover) q.is_cover in
      one_encoding q.sets p.groups q.groups q.layers p.reached q.reached one other reached groups
      (subst (λ sets. IsEncoding sets p.groups q.layers p.reached one) sets (subst (λ layers. IsEncoding p.sets p.groups layers p.reached one) layers p.encodes))
      q.encodes

  module _ (agree : (cover : Cover) (mutexes : List (List ℕ)) (layers : List ℕ) (reached : Reached) (task : Task) → IsEncoding cover mutexes layers reached task → RulesAgree task)
      (one_projection : (a b one other : Task) → RulesAgree a → AreAlike a b → IsProjection a one → IsProjection b other → one ≡ other) where
    pub one_run_task : OneRunTask
    one_run_task full task found one other p q =
        let e = p.encoding in
        one_projection p.encoded q.encoded one other (agree e.sets e.groups e.layers e.reached p.encoded e.encodes) (encodings full task found p.encoded q.encoded p.encoding q.encoding) p.projection q.projection

-- ---- with what is found before, and the passes behind

module _ (one_run_task : OneRunTask) (one_found : (task : Normal) (max : ℕ) (found other : Found) → IsFound task max found → IsFound task max other → found ≡ other)
    (one_chain : (kinds : List PassKind) (old new other : Task) → IsChain kinds old new → IsChain kinds old other → new ≡ other) where
  pub one_task_of_pair : OneTaskOfPair
  one_task_of_pair pair settings settings' passes found found' one other same whole p q =
      let task = normal pair.domain pair.problem in
      let finds = one_found task settings'.max_candidates found found' (subst (λ (most : ℕ). IsFound task most found) same p.is_found) q.is_found in
      let full = settings'.full_encoding in
      let run = subst (λ (f : Found). IsRunTask full task f p.first) finds (subst (λ (b : Bool). IsRunTask b task found p.first) whole p.is_run_task) in
      let first = one_run_task full task found' p.first q.first run q.is_run_task in
      (finds, one_chain passes q.first one other (subst (λ (t : Task). IsChain passes t one) first p.chain) q.chain)
