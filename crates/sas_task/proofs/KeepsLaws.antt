-- A task stands for itself, and what stands for one that stands for a third stands for the third.
use Rattle.std.proofs.Common.{ℕ, ◌≤◌, Bool, List, [], ◌∷◌, map, filter, sum, subst, arith}
use Rattle.runs.specs.Runs.{IsSubsequence, Done, Keep, Skip}
use Rattle.runs.specs.Systems.{IsFollowed, IsFollowedWhere}
use Rattle.runs.proofs.Systems.{run_follows, part_follows, part_names, part_cost}
use Rattle.sas_task.specs.declared.parts.Operator.{Operator}
use Rattle.sas_task.specs.Task.{Task}
use Rattle.sas_task.specs.Solution.{cost_in, system}
use Rattle.sas_task.specs.Keeps.{IsSound, HasShorterSolution, Keeps}

whole : (xs : List (List ℕ)) → IsSubsequence xs xs
whole [] = Done
whole (x ∷ xs) = Keep x xs xs (whole xs)

of_subsequence : (xs ys zs : List (List ℕ)) → IsSubsequence xs ys → IsSubsequence ys zs → IsSubsequence xs zs
of_subsequence xs ys zs first Done = first
of_subsequence xs ys zs (Keep x xs' ys' first) (Keep y ys'' zs' second) = Keep x xs' zs' (of_subsequence xs' ys' zs' first second)
of_subsequence xs ys zs (Skip y xs' ys' first) (Keep y' ys'' zs' second) = Skip y xs' zs' (of_subsequence xs' ys' zs' first second)
of_subsequence xs ys zs first (Skip z ys' zs' second) = Skip z xs zs' (of_subsequence xs ys' zs' first second)

pub keeps_itself : (task : Task) → Keeps task task
keeps_itself task =
    record {
      no_more = λ names cost has. has;
      no_less = λ names cost has. record { names' = names; cost' = cost; shorter = whole names; no_dearer = omega arith; solution = has };
      sound = λ is. is;
    }

-- what has a shorter solution in a task has one in each task that may stand for it
pub shorter_through : (old new : Task) → Keeps old new → (names : List (List ℕ)) (cost : ℕ) → HasShorterSolution old names cost → HasShorterSolution new names cost
shorter_through old new kept names cost one =
    let two = kept.no_less one.names' one.cost' one.solution in
    record {
      names' = two.names';
      cost' = two.cost';
      shorter = of_subsequence two.names' one.names' names two.shorter one.shorter;
      no_dearer = let le-a : two.cost' ≤ one.cost' = two.no_dearer in let le-b : one.cost' ≤ cost = one.no_dearer in omega arith;
      solution = two.solution;
    }

pub keeps_through : (a b c : Task) → Keeps a b → Keeps b c → Keeps a c
keeps_through a b c first second =
    record {
      no_more = λ names cost has. first.no_more names cost (second.no_more names cost has);
      no_less = λ names cost has. shorter_through b c second names cost (first.no_less names cost has);
      sound = λ is. second.sound (first.sound is);
    }

-- a task may stand for one whose steps it follows, but for those that are left out, and whose steps follow its own
pub keeps_by_steps : (old new : Task) (passes : Operator → Bool) (Related : List ℕ → List ℕ → Type 0) → IsFollowedWhere (system old) (system new) passes Related → IsFollowed (system new) (system old) (λ t s. Related s t) → (IsSound old → IsSound new) → Keeps old new
keeps_by_steps old new passes Related forth back sound =
    record {
      no_more = run_follows (system new) (system old) (λ t s. Related s t) back;
      no_less = λ names cost has. record {
        names' = map (λ (o : Operator). o.name) (filter passes has.steps);
        cost' = sum (map (cost_in old) (filter passes has.steps));
        shorter = subst (IsSubsequence (map (λ (o : Operator). o.name) (filter passes has.steps))) has.same_names (part_names passes (λ (o : Operator). o.name) has.steps);
        no_dearer = subst (λ c. sum (map (cost_in old) (filter passes has.steps)) ≤ c) has.same_cost (part_cost passes (cost_in old) has.steps);
        solution = part_follows (system old) (system new) passes Related forth has.steps has.end has.leads has.meets;
      };
      sound = sound;
    }
