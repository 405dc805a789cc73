-- The variables that stay, and what the projection leaves, as the code holds it.
use Rattle.std.proofs.Common.{◌≡◌, ℕ, ◌<◌, List, [], length, Option, None, ap, ◌∙◌, subst}
use Rattle.std.specs.List.{All, range_with_len}
use Rattle.std.specs.List.Sorted.{IsStrictlyIncreasing}
use Rattle.std.proofs.lemmas.List.Elements.{All-from_get_or}
use Rattle.sas_task.specs.Task.{Task}
use Rattle.lists.proofs.Members.{range_member, all_from_members, filter_member}
use Rattle.sas_restriction.specs.Listed.{Listed, chosen}
use Rattle.task_simplifier.specs.Kept.{AreKept}
use Rattle.task_simplifier.specs.Projection.{stays, holder, kept_in}
use Rattle.task_simplifier.specs.Left.{staying, listed, left}

pub staying_below : (kept : List (List ℕ)) → All (λ v. v < length kept) (staying kept (length kept))
staying_below kept =
    all_from_members (λ v. v < length kept) (staying kept (length kept)) (λ v in'. range_member (length kept) v (filter_member (stays (kept_in kept)) (range_with_len 0 (length kept)) v in').0)

-- the kept values rise
pub each_rises : (T : Task) (kept : List (List ℕ)) → length kept ≡ length T.variables → AreKept T (kept_in kept) → All IsStrictlyIncreasing kept
each_rises T kept count are = All-from_get_or IsStrictlyIncreasing kept [] (λ var below. are.sorted var (subst (λ n. var < n) count below))

pub left_is : (T : Task) (kept : List (List ℕ)) (vars : List ℕ) (shown new : Listed) (start : Option ℕ) →
    length kept ≡ length T.variables → vars ≡ staying kept (length kept) → shown ≡ listed vars kept None → start ≡ holder (chosen shown) T → new ≡ listed shown.vars shown.values start →
    new ≡ left kept T
left_is T kept vars shown new start count vars-are shown-is start-is new-is =
    new-is ∙ ap (listed shown.vars shown.values) start-is
    ∙ ap (λ (l : Listed). listed l.vars l.values (holder (chosen l) T)) (shown-is ∙ ap (λ vs. listed vs kept None) (vars-are ∙ ap (staying kept) count))
