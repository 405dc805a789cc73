-- A task has at most one projection, since the kept values are known.
use Rattle.std.proofs.Common.{◌≡◌, ℕ, ◌<◌, [], length, sym, ap, ◌∙◌, subst, arith}
use Rattle.std.proofs.lemmas.List.{ext_get_or}
use Rattle.std.proofs.lemmas.List.Kept.{AllPairs-from_increasing}
use Rattle.sas_task.specs.Task.{Task}
use Rattle.task_simplifier.specs.Projection.{project_to, kept_in, IsProjection}
use Rattle.lists.proofs.Ordered.{same_ordered}

-- there is one projection
pub one_projection : (T a b : Task) → IsProjection T a → IsProjection T b → a ≡ b
one_projection T a b p q = p.same ∙ ap (λ kept. project_to (kept_in kept) T) same-kept ∙ sym q.same
  where
    same_values : (var : ℕ) → var < length T.variables → kept_in p.kept var ≡ kept_in q.kept var
    same_values var below =
        same_ordered (λ x y. x < y) (λ x y less more. absurd (omega arith)) (kept_in p.kept var) (kept_in q.kept var)
        (AllPairs-from_increasing (kept_in p.kept var) (p.are.sorted var below)) (AllPairs-from_increasing (kept_in q.kept var) (q.are.sorted var below))
        (λ z in'. q.are.each var z below (p.are.only var z below in'))
        (λ z in'. p.are.each var z below (q.are.only var z below in'))

    same-kept : p.kept ≡ q.kept
    same-kept = ext_get_or [] p.kept q.kept (p.count ∙ sym q.count) (λ var below. same_values var (subst (λ n. var < n) p.count below))
