-- One candidate more is tried.
use Rattle.std.proofs.Common.{◌≡◌, ◌≢◌, ℕ, suc, ◌+◌, ◌<◌, ◌≤◌, Bool, true, false, not, ◌||◌, cond, List, [], ◌∷◌, ◌++◌, length, take, filter, refl, sym, ap, ◌∙◌, subst, arith, append-nil, append_assoc, ◌⊎◌, inl, inr}
use Rattle.std.specs.Prelude.{Option, Some, None, Result, Ok, Err, OnOk, slice_get, nat_eq, if◌then◌else◌}
use Rattle.std.proofs.lemmas.Bool.{eqb-true, cases_eq, cases_Bool, not_from_true, not_from_false, false_from_ne_true}
use Rattle.std.proofs.lemmas.List.{take-append-le}
use Rattle.std.proofs.lemmas.List.Elements.{filter-append}
use Rattle.std.proofs.lemmas.List.Folds.{list_any-append}
use Rattle.lists.specs.Members.{is_among}
use Rattle.std.proofs.Math.Bool.{or-false}
use Rattle.lists.proofs.Members.{filter_every}
use Rattle.lists.proofs.NoRepeats.{Once}
use Rattle.lists.proofs.Items.{Among, filter_yes, filter_no, same_filter, slice_among}
use Rattle.lists.proofs.LoopSteps.{take_got}
use Rattle.normal_task.specs.declared.task.Normal.{Normal}
use Rattle.indexmap.specs.IndexSet.{insert_all}
use Rattle.contradictions.specs.declared.types.Candidate.{Candidate}
use Rattle.invariant_check.specs.declared.types.AddPlace.{AddPlace}
use Rattle.invariant_check.specs.declared.types.Verdict.{Verdict}
use Rattle.invariant_check.specs.declared.types.Verdict.TheVariants.{Accepted, Dropped, Unbalanced}
use Rattle.invariant_check.specs.Accepted.{is_light, is_accepted}
use Rattle.invariant_check.specs.Repairs.{first_unbalanced, repairs_at, verdict_by, verdict, is_accepted_verdict}
use Rattle.invariant_check.specs.Extensions.{one_predicate}
use Rattle.invariant_check.proofs.OnePredicate.{once_one_predicate}
use Rattle.invariant_check.proofs.Verdicts.{accepted_exactly}
use Rattle.invariant_guess.specs.Trial.{repairs_of, repairs, is_same, after_trial, turn, IsFound}
use Rattle.invariant_guess.proofs.SameCandidates.{same_candidate}
use Rattle.invariant_guess.proofs.Repairs.{once_repairs}
use Rattle.invariant_guess.proofs.Queue.{new_to, turn_queue, there}

-- ---- what the verdict says

-- the repairs that a verdict tells
pub told_repairs : Normal → Candidate → Verdict → List Candidate
told_repairs task candidate Accepted = []
told_repairs task candidate Dropped = []
told_repairs task candidate (Unbalanced place) = repairs_at task candidate place

pub repairs_by_verdict : (task : Normal) (candidate : Candidate) → told_repairs task candidate (verdict task candidate) ≡ repairs task candidate
unfolding told_repairs
repairs_by_verdict task candidate = by (is_light task candidate)
  where
    none_left : (xs : List Candidate) → length xs ≡ 0 → [] ≡ xs
    none_left [] none = refl
    none_left (x ∷ xs) none = absurd (omega (arith, none))

    at : (first : Option AddPlace) → told_repairs task candidate (verdict_by task candidate first) ≡ repairs_of task candidate first
    at None = refl
    at (Some place) = decide (nat_eq (length (repairs_at task candidate place)) 0) refl
      where
        decide : (b : Bool) → nat_eq (length (repairs_at task candidate place)) 0 ≡ b → told_repairs task candidate (if b then Dropped else Unbalanced place) ≡ repairs_at task candidate place
        decide true is = none_left (repairs_at task candidate place) (eqb-true (length (repairs_at task candidate place)) 0 is)
        decide false is = refl

    by : (b : Bool) → told_repairs task candidate (if b then verdict_by task candidate (first_unbalanced task candidate 0 task.schemas) else Dropped) ≡ (if b then repairs_of task candidate (first_unbalanced task candidate 0 task.schemas) else [])
    by true = at (first_unbalanced task candidate 0 task.schemas)
    by false = refl

pub kept_by_verdict : (task : Normal) (candidate : Candidate) (said : Verdict) → said ≡ verdict task candidate →
    filter (is_accepted task) (candidate ∷ []) ≡ (if is_accepted_verdict said then candidate ∷ [] else [])
kept_by_verdict task candidate said is = ap (λ b. cond b (candidate ∷ []) []) (sym (accepted_exactly task candidate) ∙ sym (ap is_accepted_verdict is))

pub one_kept : (task : Normal) (candidate copy : Candidate) → Accepted ≡ verdict task candidate → (before after : List Candidate) → after ≡ before ++ copy ∷ [] → copy ≡ candidate →
    after ≡ before ++ filter (is_accepted task) (candidate ∷ [])
one_kept task candidate copy is before after pushed same = pushed ∙ ap (λ c. before ++ c ∷ []) same ∙ ap (λ l. before ++ l) (sym (kept_by_verdict task candidate Accepted is))

pub nothing_kept : (task : Normal) (candidate : Candidate) (said : Verdict) → said ≡ verdict task candidate → is_accepted_verdict said ≡ false → (before : List Candidate) →
    before ≡ before ++ filter (is_accepted task) (candidate ∷ [])
nothing_kept task candidate said is refused before =
    sym (append-nil before) ∙ ap (λ l. before ++ l) (sym (kept_by_verdict task candidate said is ∙ ap (λ b. if b then candidate ∷ [] else []) refused))

pub whatever : {T E P : Type 0} (result : Result T E) → P → OnOk result P
whatever (Ok value) holds = holds
whatever (Err error) holds = tt

take_one : {X : Type 0} (xs : List X) (i : ℕ) (x : X) → slice_get xs i ≡ Some x → take (suc i) xs ≡ take i xs ++ x ∷ []
take_one xs i x at = let one : suc i ≡ i + 1 = omega arith in ap (λ n. take n xs) one ∙ take_got xs i x at

-- ---- a set that grows

-- candidates that are added one after the other, where each stands once among them
pub added_once : (queue candidates : List Candidate) → Once candidates → insert_all is_same queue candidates ≡ queue ++ new_to queue candidates
added_once queue [] once = sym (append-nil queue)
added_once queue (first ∷ more) once = by (cases_Bool (is_among is_same queue first)) (λ (q : List Candidate). added_once q more once.1)
  where
    by : (is_among is_same queue first ≡ true) ⊎ (is_among is_same queue first ≡ false) → ((q : List Candidate) → insert_all is_same q more ≡ q ++ new_to q more) → insert_all is_same queue (first ∷ more) ≡ queue ++ new_to queue (first ∷ more)
    by (inl old) added =
        ap (λ b. insert_all is_same (if b then queue else queue ++ first ∷ []) more) old
        ∙ added queue
        ∙ ap (λ l. queue ++ l) (sym (filter_no (λ (c : Candidate). not (is_among is_same queue c)) first more (not_from_true (is_among is_same queue first) old)))
    by (inr new) added =
        ap (λ b. insert_all is_same (if b then queue else queue ++ first ∷ []) more) new
        ∙ added (queue ++ first ∷ [])
        ∙ ap (λ l. (queue ++ first ∷ []) ++ l) rest
        ∙ append_assoc queue (first ∷ []) (new_to queue more)
        ∙ ap (λ l. queue ++ l) (sym (filter_yes (λ (c : Candidate). not (is_among is_same queue c)) first more (not_from_false (is_among is_same queue first) new)))
      where
        rest : new_to (queue ++ first ∷ []) more ≡ new_to queue more
        rest = same_filter (λ (c : Candidate). not (is_among is_same (queue ++ first ∷ []) c)) (λ (c : Candidate). not (is_among is_same queue c)) more (λ c there. ap not (known c there))
          where
            known : (c : Candidate) → Among c more → is_among is_same (queue ++ first ∷ []) c ≡ is_among is_same queue c
            known c there = list_any-append (is_same c) queue (first ∷ []) ∙ ap (λ b. is_among is_same queue c || (b || false)) (other c there) ∙ or-false (is_among is_same queue c)
              where
                other : (c : Candidate) → Among c more → is_same c first ≡ false
                other c there = false_from_ne_true (is_same c first) (λ is. once.0 (subst (λ x. Among x more) (same_candidate c first is) there))

-- ---- the loop

-- the queue, the number of those tried, and the accepted ones of them
pub record IsTrying (task : Normal) (max : ℕ) (queue : List Candidate) (number : ℕ) (accepted : List Candidate) : Type 0 where
  pub queue_is : queue ≡ turn task number
  pub within : number ≤ max
  pub open_before : (earlier : ℕ) → earlier < number → earlier < length (turn task earlier)
  pub accepted_are : accepted ≡ filter (is_accepted task) (take number (turn task number))

pub at_first : (task : Normal) (max : ℕ) (queue accepted : List Candidate) → queue ≡ insert_all is_same [] (one_predicate task) → accepted ≡ [] → IsTrying task max queue 0 accepted
at_first task max queue accepted is none = record {
  queue_is = is ∙ added_once [] (one_predicate task) (once_one_predicate task) ∙ filter_every (λ (c : Candidate). not (is_among is_same [] c)) (one_predicate task) (λ c in'. refl);
  within = omega arith;
  open_before = λ earlier before. absurd (omega (arith, before));
  accepted_are = none;
}

module _ (task : Normal) (max : ℕ) (queue : List Candidate) (number : ℕ) (accepted : List Candidate) (trying : IsTrying task max queue number accepted) (more : number < max) (within : number < length queue)
    (tried : Candidate) (at : slice_get queue number ≡ Some tried) (queue' accepted' : List Candidate)
    (joined : queue' ≡ insert_all is_same queue (repairs task tried)) (kept : accepted' ≡ accepted ++ filter (is_accepted task) (tried ∷ [])) where
  now : turn task (suc number) ≡ queue ++ new_to queue (repairs task tried)
  now =
      ap (λ q. after_trial task q (slice_get q number)) (sym trying.queue_is)
      ∙ ap (after_trial task queue) at

  next-queue : queue' ≡ turn task (suc number)
  next-queue =
      joined
      ∙ added_once queue (repairs task tried) (once_repairs task tried ((turn_queue task number).formed tried (subst (Among tried) trying.queue_is (slice_among queue number tried at))))
      ∙ sym now

  tried-next : take (suc number) (turn task (suc number)) ≡ take number (turn task number) ++ tried ∷ []
  tried-next =
      ap (take (suc number)) now
      ∙ take-append-le (suc number) queue (new_to queue (repairs task tried)) (omega (arith, within))
      ∙ take_one queue number tried at
      ∙ ap (λ q. take number q ++ tried ∷ []) trying.queue_is

  pub tries_next : IsTrying task max queue' (number + 1) accepted'
  tries_next =
      let one : suc number ≡ number + 1 = omega arith in
      subst (λ n. IsTrying task max queue' n accepted') one (record {
        queue_is = next-queue;
        within = omega (arith, more);
        open_before = λ earlier before. place earlier (cases_eq earlier number) before;
        accepted_are =
            kept ∙ ap (λ a. a ++ filter (is_accepted task) (tried ∷ [])) trying.accepted_are
            ∙ sym (filter-append (is_accepted task) (take number (turn task number)) (tried ∷ []))
            ∙ ap (filter (is_accepted task)) (sym tried-next);
      })
    where
      place : (earlier : ℕ) → (earlier ≡ number) ⊎ (earlier ≡ number → ⊥) → earlier < suc number → earlier < length (turn task earlier)
      place earlier (inl same) before = subst (λ e. e < length (turn task e)) (sym same) (subst (λ (q : List Candidate). number < length q) trying.queue_is within)
      place earlier (inr apart) before = trying.open_before earlier (omega (arith, before, apart))

-- where no candidate is left, or as many are tried as may be
pub found : (task : Normal) (max : ℕ) (queue : List Candidate) (number : ℕ) (accepted kept : List Candidate) → IsTrying task max queue number accepted →
    (number < max → length queue ≤ number) → kept ≡ accepted → IsFound task max (record { tried = number; accepted = kept })
found task max queue number accepted kept trying ends are = record {
  tried = record { ends = by (cases_eq number max); least = λ earlier before. before_both earlier before };
  accepted = are ∙ trying.accepted_are;
}
  where
    before_both : (earlier : ℕ) → earlier < number → (earlier ≢ max) × (earlier ≢ length (turn task earlier))
    before_both earlier before =
        let low = trying.within in
        let open' = trying.open_before earlier before in
        (λ same. absurd (omega (arith, same, low, before)), λ same. absurd (omega (arith, same, open')))

    by : (number ≡ max) ⊎ (number ≡ max → ⊥) → (number ≡ max) ⊎ (number ≡ length (turn task number))
    by (inl last) = inl last
    by (inr not-last) =
        let low = trying.within in
        let end = ends (omega (arith, low, not-last)) in
        let same = ap length trying.queue_is in
        let high = there task number (λ earlier before. (before_both earlier before).1) in
        inr (omega (arith, end, same, high))
