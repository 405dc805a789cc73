-- The queue after any number of trials: its candidates are well formed and stand once, it only grows, and it has the repairs of all that are tried.
use Rattle.std.proofs.Common.{◌≡◌, ◌≢◌, ℕ, zero, suc, ◌+◌, ◌<◌, ◌≤◌, Bool, true, false, not, ◌⊎◌, inl, inr, List, [], ◌++◌, length, get_or, take, min, refl, sym, ap, ◌∙◌, subst, append-nil, append_assoc, arith}
use Rattle.std.specs.Prelude.{Option, Some, None, slice_get, nat_eq, ◌||◌}
use Rattle.std.specs.List.{list_all, filter, flat_map, range_with_len, Contains}
use Rattle.std.proofs.lemmas.Bool.{true≢false, not-true, not_from_false, cases_Bool, cases_eq, cases_lt, or_cases, or_parts, eqb-true, eq-eqb}
use Rattle.std.proofs.lemmas.List.{length-append, get_or_append_left, take-append-le}
use Rattle.std.proofs.lemmas.Option.{slice_get-get_or, slice_get_past}
use Rattle.std.proofs.Math.Seq.{take-append_seam}
use Rattle.lists.specs.Members.{is_among}
use Rattle.lists.proofs.NoRepeats.{Once, once_append, once_filter, no_longer, range_among}
use Rattle.lists.proofs.Items.{Among, among_contains, contains_among, among_which, among_left, among_right, filter_among, among_filter, among_flat_map, each_passes, all_passes, any_passes, slice_among}
use Rattle.normal_task.specs.declared.task.Normal.{Normal}
use Rattle.normal_task.specs.Lawful.{differ}
use Rattle.contradictions.specs.declared.types.Candidate.{Candidate}
use Rattle.invariant_check.specs.Accepted.{is_accepted}
use Rattle.invariant_check.specs.Extensions.{one_predicate, extensions}
use Rattle.invariant_check.specs.WellFormed.{is_well_formed}
use Rattle.invariant_check.proofs.OnePredicate.{one_predicate_formed, once_one_predicate, one_part}
use Rattle.invariant_check.proofs.Extended.{one_part_more, few_parts}
use Rattle.normal_task.proofs.RisingLists.{differ_once, among_if}
use Rattle.invariant_guess.specs.declared.types.Found.{Found}
use Rattle.invariant_guess.specs.Trial.{repairs, is_same, after_trial, turn, AreTried, IsFound, IsTrialOrder}
use Rattle.invariant_guess.proofs.Fronts.{before_place, among_take}
use Rattle.invariant_guess.proofs.SameCandidates.{same_candidate, candidate-itself}
use Rattle.invariant_guess.proofs.Repairs.{repair_formed, once_repairs, repair_extends}

-- ---- the queue

-- a queue of well-formed candidates, each once
pub record IsQueue (task : Normal) (queue : List Candidate) : Type 0 where
  pub formed : (candidate : Candidate) → Among candidate queue → is_well_formed task candidate ≡ true
  pub once : Once queue

-- those of the candidates that aren't in the queue
abbrev pub new_to : List Candidate → List Candidate → List Candidate
new_to queue candidates = filter (λ (candidate : Candidate). not (is_among is_same queue candidate)) candidates

pub not_in : (queue candidates : List Candidate) (candidate : Candidate) → Among candidate (new_to queue candidates) → Among candidate queue → ⊥
not_in queue candidates candidate new there =
    true≢false (sym (any_passes (is_same candidate) candidate queue there (candidate-itself candidate)) ∙ not-true (is_among is_same queue candidate) (filter_among (λ (c : Candidate). not (is_among is_same queue c)) candidate candidates new).1)

module _ (task : Normal) where
  after_queue : (queue : List Candidate) (candidate : Option Candidate) → ((c : Candidate) → candidate ≡ Some c → Among c queue) → IsQueue task queue → IsQueue task (after_trial task queue candidate)
  after_queue queue None in' is = is
  after_queue queue (Some candidate) in' is =
      let formed = is.formed candidate (in' candidate refl) in
      let new = new_to queue (repairs task candidate) in
      record {
        formed = λ other there. elim (among_which other queue new there) [
          | inl old ↦ is.formed other old
          | inr added ↦ repair_formed task candidate formed other (filter_among (λ (c : Candidate). not (is_among is_same queue c)) other (repairs task candidate) added).0
        ];
        once = once_append queue new is.once (once_filter (λ (c : Candidate). not (is_among is_same queue c)) (repairs task candidate) (once_repairs task candidate formed)) (λ c old added. not_in queue (repairs task candidate) c added old);
      }

  pub turn_queue : (number : ℕ) → IsQueue task (turn task number)
  turn_queue zero = record { formed = one_predicate_formed task; once = once_one_predicate task }
  turn_queue (suc number) = after_queue (turn task number) (slice_get (turn task number) number) (λ c at. slice_among (turn task number) number c at) (turn_queue number)

  pub each_once : (number : ℕ) → differ is_same (turn task number) ≡ true
  each_once number = differ_once is_same same_candidate (turn task number) (turn_queue number).once

  pub all_formed : (number : ℕ) → list_all (is_well_formed task) (turn task number) ≡ true
  all_formed number = each_passes (is_well_formed task) (turn task number) (turn_queue number).formed

  -- ---- it only grows

  -- what a trial adds
  added : List Candidate → Option Candidate → List Candidate
  added queue None = []
  added queue (Some candidate) = new_to queue (repairs task candidate)

  after-is : (queue : List Candidate) (candidate : Option Candidate) → after_trial task queue candidate ≡ queue ++ added queue candidate
  unfolding added
  after-is queue None = sym (append-nil queue)
  after-is queue (Some candidate) = refl

  -- the later queue is the earlier one with more behind it
  pub record GoesOn (number later : ℕ) : Type 0 where
    pub more : List Candidate
    pub is : turn task later ≡ turn task number ++ more

  pub goes_on : (number later : ℕ) → number ≤ later → GoesOn number later
  goes_on number zero low = let same : number ≡ 0 = omega (arith, low) in record { more = []; is = ap (turn task) (sym same) ∙ sym (append-nil (turn task number)) }
  goes_on number (suc later) low = by (cases_lt later number) (goes_on number later)
    where
      by : (later < number) ⊎ (number ≤ later) → (number ≤ later → GoesOn number later) → GoesOn number (suc later)
      by (inl past) earlier = let same : suc later ≡ number = omega (arith, low, past) in record { more = []; is = ap (turn task) same ∙ sym (append-nil (turn task number)) }
      by (inr before) earlier =
          let rest = earlier before in
          let last = added (turn task later) (slice_get (turn task later) later) in
          record { more = rest.more ++ last; is = after-is (turn task later) (slice_get (turn task later) later) ∙ ap (λ q. q ++ last) rest.is ∙ append_assoc (turn task number) rest.more last }

  pub front_of : (number later : ℕ) → number ≤ later → take (length (turn task number)) (turn task later) ≡ turn task number
  front_of number later low = let more = goes_on number later low in ap (take (length (turn task number))) more.is ∙ take-append_seam (turn task number) more.more

  pub stays_among : (number later : ℕ) → number ≤ later → (candidate : Candidate) → Among candidate (turn task number) → Among candidate (turn task later)
  stays_among number later low candidate there = let more = goes_on number later low in subst (Among candidate) (sym more.is) (among_left candidate (turn task number) more.more there)

  pub grows : (number later : ℕ) → number ≤ later → length (turn task number) ≤ length (turn task later)
  grows number later low =
      let more = goes_on number later low in
      let whole = ap length more.is ∙ length-append (turn task number) more.more in
      omega (arith, whole)

  -- at its end it stays as it is
  pub stays : (number later : ℕ) → number ≤ later → length (turn task number) ≤ number → turn task later ≡ turn task number
  stays number zero low past = let same : number ≡ 0 = omega (arith, low) in ap (turn task) (sym same)
  stays number (suc later) low past = by (cases_lt later number) (stays number later)
    where
      by : (later < number) ⊎ (number ≤ later) → (number ≤ later → length (turn task number) ≤ number → turn task later ≡ turn task number) → turn task (suc later) ≡ turn task number
      by (inl before) earlier = let same : suc later ≡ number = omega (arith, low, before) in ap (turn task) same
      by (inr after) earlier =
          let rest = earlier after past in
          let many = ap length rest in
          ap (after_trial task (turn task later)) (slice_get_past (turn task later) later (omega (arith, many, past, after))) ∙ rest

  -- ---- how many are tried

  -- a number that is told to be the least
  abbrev is_end : ℕ → ℕ → Bool
  is_end max number = nat_eq number max || nat_eq number (length (turn task number))

  pub tried_by : (max number : ℕ) → is_end max number ≡ true → list_all (λ (earlier : ℕ). not (is_end max earlier)) (range_with_len 0 number) ≡ true → AreTried task max number
  tried_by max number end before = record {
    ends = elim (or_cases (nat_eq number max) (nat_eq number (length (turn task number))) end) [
      | inl last ↦ inl (eqb-true number max last)
      | inr past ↦ inr (eqb-true number (length (turn task number)) past)
    ];
    least = λ earlier less.
        let none = not-true (is_end max earlier) (all_passes (λ (e : ℕ). not (is_end max e)) earlier (range_with_len 0 number) (range_among 0 number earlier (omega arith) (omega (arith, less))) before) in
        let parts = or_parts (nat_eq earlier max) (nat_eq earlier (length (turn task earlier))) none in
        (λ last. true≢false (sym (eq-eqb earlier max last) ∙ parts.0), λ past. true≢false (sym (eq-eqb earlier (length (turn task earlier)) past) ∙ parts.1));
  }

  pub one_number : (max number other : ℕ) → AreTried task max number → AreTried task max other → number ≡ other
  one_number max number other one two = by (cases_lt number other) (cases_lt other number)
    where
      never : (a b : ℕ) → AreTried task max a → AreTried task max b → a < b → ⊥
      never a b first second less = elim first.ends [ inl last ↦ (second.least a less).0 last | inr end ↦ (second.least a less).1 end ]

      by : (number < other) ⊎ (other ≤ number) → (other < number) ⊎ (number ≤ other) → number ≡ other
      by (inl less) second = absurd (never number other one two less)
      by (inr low) (inl less) = absurd (never other number two one less)
      by (inr low) (inr high) = omega (arith, low, high)

  pub some_number : (max : ℕ) → (number : ℕ) × AreTried task max number
  some_number max = from max 0 (omega arith) (λ earlier before. absurd (omega (arith, before)))
    where
      from : (left number : ℕ) → number + left ≡ max → ((earlier : ℕ) → earlier < number → (earlier ≢ max) × (earlier ≢ length (turn task earlier))) → (n : ℕ) × AreTried task max n
      from zero number is least = let last : number ≡ max = omega (arith, is) in (number, record { ends = inl last; least = least })
      from (suc left) number is least = by (cases_eq number (length (turn task number))) (from left (suc number) (omega (arith, is)))
        where
          before : (number ≡ length (turn task number) → ⊥) → (earlier : ℕ) → earlier < suc number → (earlier ≢ max) × (earlier ≢ length (turn task earlier))
          before not-end earlier less = at (cases_eq earlier number)
            where
              at : (earlier ≡ number) ⊎ (earlier ≡ number → ⊥) → (earlier ≢ max) × (earlier ≢ length (turn task earlier))
              at (inl same) = (λ last. absurd (omega (arith, last, same, is)), λ end. not-end (subst (λ n. n ≡ length (turn task n)) same end))
              at (inr apart) = least earlier (omega (arith, less, apart))

          by : (number ≡ length (turn task number)) ⊎ (number ≡ length (turn task number) → ⊥) →
              (((earlier : ℕ) → earlier < suc number → (earlier ≢ max) × (earlier ≢ length (turn task earlier))) → (n : ℕ) × AreTried task max n) → (n : ℕ) × AreTried task max n
          by (inl end) on = (number, record { ends = inr end; least = least })
          by (inr not-end) on = on (before not-end)

  -- as many are there
  pub there : (number : ℕ) → ((earlier : ℕ) → earlier < number → earlier ≢ length (turn task earlier)) → number ≤ length (turn task number)
  there zero least = omega arith
  there (suc number) least =
      let before = there number (λ earlier less. least earlier (omega (arith, less))) in
      let apart = least number (omega arith) in
      let more = grows number (suc number) (omega arith) in
      omega (arith, before, apart, more)

  -- ---- the trial order whole

  module _ (order : List Candidate) (is : IsTrialOrder task order) where
    whole : length order ≡ length (turn task (length order))
    whole = ap length is.queue

    pub tried_are_smaller : (max number : ℕ) → AreTried task max number → number ≡ min max (length order)
    tried_are_smaller max number tried = by tried.ends
      where
        no_less : number < length order → number ≡ length (turn task number) → ⊥
        no_less less end = is.least number less end

        no_more : length order < number → ⊥
        no_more more = (tried.least (length order) more).1 whole

        no_higher : max < number → ⊥
        no_higher more = (tried.least max more).0 refl

        by : (number ≡ max) ⊎ (number ≡ length (turn task number)) → number ≡ min max (length order)
        by (inl last) = let low = no_more in omega (arith, last, low)
        by (inr end) = let low = no_more in let high = no_higher in let same = λ (less : number < length order). no_less less end in omega (arith, low, high, same)

    pub tried_are_first : (max number : ℕ) → AreTried task max number → take number (turn task number) ≡ take number order
    tried_are_first max number tried =
        let most = tried_are_smaller max number tried in
        let low : number ≤ length order = omega (arith, most) in
        let more = goes_on number (length order) low in
        let many = there number (λ earlier less. (tried.least earlier less).1) in
        sym (ap (take number) (is.queue ∙ more.is) ∙ take-append-le number (turn task number) more.more many)

  -- ---- the trial order ends

  -- the candidates with so many parts more than one
  pub grown : ℕ → List Candidate
  grown zero = one_predicate task
  grown (suc more) = flat_map (extensions task) (grown more)

  pub record IsGrown (candidate : Candidate) : Type 0 where
    pub more : ℕ
    pub many : suc more ≡ length candidate.parts
    pub among : Among candidate (grown more)

  turn_grown : (number : ℕ) (candidate : Candidate) → Among candidate (turn task number) → IsGrown candidate
  unfolding grown
  turn_grown zero candidate there = record { more = 0; many = sym (one_part task candidate there); among = there }
  turn_grown (suc number) candidate there = after (turn_grown number) (slice_get (turn task number) number) refl there
    where
      after : ((c : Candidate) → Among c (turn task number) → IsGrown c) → (c : Option Candidate) → slice_get (turn task number) number ≡ c → Among candidate (after_trial task (turn task number) c) → IsGrown candidate
      after before None at in' = before candidate in'
      after before (Some c) at in' = elim (among_which candidate (turn task number) (new_to (turn task number) (repairs task c)) in') [
        | inl old ↦ before candidate old
        | inr new ↦
            let of = repair_extends task c candidate (filter_among (λ (d : Candidate). not (is_among is_same (turn task number) d)) candidate (repairs task c) new).0 in
            let parent = before c (slice_among (turn task number) number c at) in
            let one_more = one_part_more task c candidate of in
            let many = parent.many in
            record { more = suc parent.more; many = omega (arith, many, one_more); among = among_flat_map (extensions task) c candidate (grown parent.more) parent.among of }
      ]

  -- all candidates that there may be
  all_grown : List Candidate
  all_grown = flat_map grown (range_with_len 0 (length task.predicates))

  no_more : (number : ℕ) → length (turn task number) ≤ length all_grown
  unfolding all_grown
  no_more number =
      no_longer (turn task number) all_grown (turn_queue number).once (λ candidate there.
      let is = turn_grown number candidate there in
      let few = few_parts task candidate ((turn_queue number).formed candidate there) in
      let many = is.many in
      among_flat_map grown is.more candidate (range_with_len 0 (length task.predicates)) (range_among 0 (length task.predicates) is.more (omega arith) (omega (arith, few, many))) is.among)

  pub some_order : (order : List Candidate) × IsTrialOrder task order
  some_order =
      let tried = some_number (suc (length all_grown)) in
      let least = λ (earlier : ℕ) (less : earlier < tried.0). (tried.1.least earlier less).1 in
      let low = there tried.0 least in
      let most = no_more tried.0 in
      let end : tried.0 ≡ length (turn task tried.0) = elim tried.1.ends [ inl last ↦ absurd (omega (arith, last, low, most)) | inr is ↦ is ] in
      (turn task tried.0, record { queue = ap (turn task) end; least = λ earlier less. least earlier (omega (arith, less, end)) })

  -- ---- what stands in it

  pub begun : (number : ℕ) (candidate : Candidate) → Contains (one_predicate task) candidate → Contains (turn task number) candidate
  begun number candidate in' = contains_among (turn task number) candidate (stays_among 0 number (omega arith) candidate (among_contains (one_predicate task) candidate in'))

  -- the repairs of the candidate at this place
  reached : (number place : ℕ) (candidate repair : Candidate) → place < number → place < length (turn task number) → get_or (turn task number) place candidate ≡ candidate → Among repair (repairs task candidate) →
      (place < length (turn task place)) ⊎ (length (turn task place) ≤ place) → Among repair (turn task number)
  reached number place candidate repair before within is of (inr past) =
      let same = ap length (stays place number (omega (arith, before)) past) in absurd (omega (arith, same, past, within))
  reached number place candidate repair before within is of (inl there) =
      let more = goes_on place number (omega (arith, before)) in
      let tried-at : get_or (turn task place) place candidate ≡ candidate = sym (get_or_append_left (turn task place) more.more candidate place there) ∙ sym (ap (λ q. get_or q place candidate) more.is) ∙ is in
      let trial : turn task (suc place) ≡ turn task place ++ new_to (turn task place) (repairs task candidate) = ap (after_trial task (turn task place)) (slice_get-get_or (turn task place) place candidate there ∙ ap (λ (c : Candidate). Some c) tried-at) in
      stays_among (suc place) number (omega (arith, before)) repair (subst (Among repair) (sym trial) (joins (cases_Bool (is_among is_same (turn task place) repair))))
    where
      joins : (is_among is_same (turn task place) repair ≡ true) ⊎ (is_among is_same (turn task place) repair ≡ false) → Among repair (turn task place ++ new_to (turn task place) (repairs task candidate))
      joins (inl old) = among_left repair (turn task place) (new_to (turn task place) (repairs task candidate)) (among_if is_same same_candidate (turn task place) repair old)
      joins (inr new) =
          among_right repair (turn task place) (new_to (turn task place) (repairs task candidate))
          (among_filter (λ (c : Candidate). not (is_among is_same (turn task place) c)) repair (repairs task candidate) of (not_from_false (is_among is_same (turn task place) repair) new))

  pub repaired : (number : ℕ) (candidate repair : Candidate) → Contains (take number (turn task number)) candidate → Contains (repairs task candidate) repair → Contains (turn task number) repair
  repaired number candidate repair tried of =
      let at = before_place (turn task number) number candidate candidate (among_contains (take number (turn task number)) candidate tried) in
      contains_among (turn task number) repair
      (reached number at.0 candidate repair at.1 at.2 at.3 (among_contains (repairs task candidate) repair of) (cases_lt at.0 (length (turn task at.0))))

  -- nothing else does
  pub nothing_else : (test : Candidate → Bool) → list_all test (one_predicate task) ≡ true → ((candidate : Candidate) → test candidate ≡ true → list_all test (repairs task candidate) ≡ true) →
      (number : ℕ) → list_all test (turn task number) ≡ true
  nothing_else test first each zero = first
  nothing_else test first each (suc number) = after (nothing_else test first each number) (slice_get (turn task number) number) refl
    where
      after : list_all test (turn task number) ≡ true → (candidate : Option Candidate) → slice_get (turn task number) number ≡ candidate → list_all test (after_trial task (turn task number) candidate) ≡ true
      after before None at = before
      after before (Some candidate) at =
          let here = all_passes test candidate (turn task number) (slice_among (turn task number) number candidate at) before in
          each_passes test (turn task number ++ new_to (turn task number) (repairs task candidate)) (λ other in'. elim (among_which other (turn task number) (new_to (turn task number) (repairs task candidate)) in') [
            | inl old ↦ all_passes test other (turn task number) old before
            | inr new ↦ all_passes test other (repairs task candidate) (filter_among (λ (c : Candidate). not (is_among is_same (turn task number) c)) other (repairs task candidate) new).0 (each candidate here)
          ])

  -- ---- what is found

  pub found_formed : (max : ℕ) (found : Found) → IsFound task max found → list_all (is_well_formed task) found.accepted ≡ true
  found_formed max found is =
      let tried = turn task found.tried in
      subst (λ (l : List Candidate). list_all (is_well_formed task) l ≡ true) (sym is.accepted)
      (each_passes (is_well_formed task) (filter (is_accepted task) (take found.tried tried)) (λ candidate in'.
      (turn_queue found.tried).formed candidate (among_take found.tried tried candidate (filter_among (is_accepted task) candidate (take found.tried tried) in').0)))

  pub found_accepted : (max : ℕ) (found : Found) → IsFound task max found → list_all (is_accepted task) found.accepted ≡ true
  found_accepted max found is =
      let tried = turn task found.tried in
      subst (λ (l : List Candidate). list_all (is_accepted task) l ≡ true) (sym is.accepted)
      (each_passes (is_accepted task) (filter (is_accepted task) (take found.tried tried)) (λ candidate in'. (filter_among (is_accepted task) candidate (take found.tried tried) in').1))

  -- the number tried and the accepted ones are both fixed
  pub one_found : (max : ℕ) (found other : Found) → IsFound task max found → IsFound task max other → found ≡ other
  one_found max found other is is' =
      let mk = λ (number : ℕ) (accepted : List Candidate). let r : Found = record { tried = number; accepted = accepted } in r in
      let tried : found.tried ≡ other.tried = one_number max found.tried other.tried is.tried is'.tried in
      let accepted : found.accepted ≡ other.accepted = is.accepted ∙ ap (λ (n : ℕ). filter (is_accepted task) (take n (turn task n))) tried ∙ sym is'.accepted in
      let one : mk found.tried found.accepted ≡ mk other.tried other.accepted = ap (λ n. mk n found.accepted) tried ∙ ap (λ l. mk other.tried l) accepted in
      one
