-- The search for the numbers that arcs lead to: what is found is reached, and the numbers that were taken lead to nothing else.
use Rattle.std.proofs.Common.{◌≡◌, ℕ, ◌+◌, ◌<◌, ◌≤◌, Bool, true, false, cond, eqb, List, [], ◌∷◌, ◌++◌, length, get_or, set, fold, replicate, Some, None, refl, sym, ap, ◌∙◌, subst, inl, inr, arith}
use Rattle.std.specs.List.{Contains, All, range_with_len, slice_get, sum_by}
use Rattle.std.specs.List.Sorted.{IsStrictlyIncreasing}
use Rattle.std.proofs.lemmas.Bool.{cases_Bool, cases_eq, cases_lt, eq-eqb, eqb-true, false≢true}
use Rattle.std.proofs.lemmas.List.{length-set, length-append, get_or-set_same, get_or-set_other, get_or_past, length-replicate, get_or-replicate, get_or_default}
use Rattle.std.proofs.lemmas.Option.{none-some, slice_get_within, get_or_from_slice_get, slice_get-get_or}
use Rattle.std.proofs.lemmas.List.Elements.{All-contains, Contains-append_left, Contains-append_right, Contains-append_cases}
use Rattle.std.proofs.lemmas.List.Folds.{sum_by-replicate}
use Rattle.std.proofs.lemmas.List.FromFn.{length-range_with_len, get_or-range_with_len}
use Rattle.std.proofs.lemmas.List.Kept.{IsStrictlyIncreasing-filter}
use Rattle.std.proofs.lemmas.List.Sums.{sum_by-set}
use Rattle.std.proofs.Math.ListN.{get_or-append}
use Rattle.lists.proofs.Members.{no_member, member_first, member_later, member_cases, member_single, member_flat_map, flat_map_member, member_filter, filter_member, member_range, range_member}
use Rattle.names.specs.declared.arcs.Arc.{Arc}
use Rattle.graph_search.specs.Reached.{IsReached, First, Next, AreReached}
use Rattle.graph_search.specs.Search.{leads_to, Finds, has, with_number, marked}

abbrev bit : Bool → ℕ
bit mark = cond mark 0 1

abbrev open_count : Finds → ℕ
open_count found = sum_by bit found.marks

-- a number that isn't there has a place
open_within : (marks : List Bool) (number : ℕ) → get_or marks number true ≡ false → number < length marks
open_within marks number absent =
    elim (cases_lt number (length marks)) [
      | inl low ↦ low
      | inr past ↦ absurd (false≢true (sym absent ∙ get_or_past marks number true past))
    ]

-- one number more
abbrev new : Finds → ℕ → Finds
new found number = record { marks = set found.marks number true; numbers = found.numbers ++ number ∷ [] }

-- where a arc leads from a number
abbrev pub targets : ℕ → Arc → List ℕ
targets number arc = cond (eqb arc.from number) (arc.to ∷ []) []

-- the arcs that lead from a number
module _ (arcs : List Arc) (number : ℕ) where
  record Leading (next : ℕ) : Type 0 where
    arc : Arc
    listed : Contains arcs arc
    from : arc.from ≡ number
    to : arc.to ≡ next

  leading : (next : ℕ) → Contains (leads_to arcs number) next → Leading next
  leading next in' = let from = flat_map_member (targets number) arcs next in' in by_test from.0 from.1 (eqb (from.0.from) number) refl from.2
    where
      by_test : (arc : Arc) → Contains arcs arc → (b : Bool) → eqb arc.from number ≡ b → Contains (cond b (arc.to ∷ []) []) next → Leading next
      by_test arc listed true is here = record { arc = arc; listed = listed; from = eqb-true arc.from number is; to = member_single arc.to next here }
      by_test arc listed false is here = absurd (no_member next here)

  led_to : (arc : Arc) → Contains arcs arc → arc.from ≡ number → Contains (leads_to arcs number) arc.to
  led_to arc listed from =
      member_flat_map (targets number) arcs arc arc.to listed
      (subst (λ b. Contains (cond b (arc.to ∷ []) []) arc.to) (sym (eq-eqb arc.from number from)) (member_first arc.to []))

module _ (count : ℕ) (starts : List ℕ) (arcs : List Arc) where
  -- what is found has a place and is reached
  record Searched (found : Finds) : Type 0 where
    places : length found.marks ≡ count
    total : open_count found + length found.numbers ≡ count
    listed : (number : ℕ) → number < count → has found number ≡ true → Contains found.numbers number
    low : (number : ℕ) → Contains found.numbers number → number < count
    sound : (number : ℕ) → Contains found.numbers number → IsReached starts arcs number

  -- more is found, with some numbers among it
  record Finding (before after : Finds) (numbers : List ℕ) : Type 0 where
    searched : Searched after
    stays : (number : ℕ) → has before number ≡ true → has after number ≡ true
    longer : length before.numbers ≤ length after.numbers
    front : (place : ℕ) → place < length before.numbers → get_or after.numbers place 0 ≡ get_or before.numbers place 0
    among : (number : ℕ) → Contains numbers number → has after number ≡ true

  find_again : (found : Finds) (number : ℕ) → Searched found → has found number ≡ true → Finding found found (number ∷ [])
  find_again found number searched is =
      record {
        searched = searched;
        stays = λ other has. has;
        longer = omega arith;
        front = λ place within. refl;
        among = λ other in'. ap (has found) (sym (member_single number other in')) ∙ is;
      }

  -- a number that isn't there
  module _ (found : Finds) (number : ℕ) (searched : Searched found) (absent : has found number ≡ false) where
    abbrev after : Finds
    after = new found number

    within : number < length found.marks
    within = open_within found.marks number absent

    here : has after number ≡ true
    here = get_or-set_same found.marks number true true within

    other_mark : (other : ℕ) → (other ≡ number → ⊥) → has after other ≡ has found other
    other_mark other apart = get_or-set_other found.marks number other true true apart

    stays : (other : ℕ) → has found other ≡ true → has after other ≡ true
    stays other is =
        elim (cases_eq other number) [
          | inl same ↦ ap (has after) same ∙ here
          | inr apart ↦ other_mark other apart ∙ is
        ]

    listed : (other : ℕ) → other < count → has after other ≡ true → Contains after.numbers other
    listed other low is =
        elim (cases_eq other number) [
          | inl same ↦ Contains-append_right found.numbers (number ∷ []) other (subst (λ n. Contains (n ∷ []) other) same (member_first other []))
          | inr apart ↦ Contains-append_left found.numbers (number ∷ []) other (searched.listed other low (sym (other_mark other apart) ∙ is))
        ]

    each : (P : ℕ → Type 0) → P number → ((other : ℕ) → Contains found.numbers other → P other) → (other : ℕ) → Contains after.numbers other → P other
    each P this those other in' =
        elim (Contains-append_cases found.numbers (number ∷ []) other in') [
          | inl before ↦ those other before
          | inr last ↦ subst P (member_single number other last) this
        ]

    find_new : IsReached starts arcs number → Finding found after (number ∷ [])
    find_new reached =
        let marks = length-set found.marks number true in
        let fewer = sum_by-set bit found.marks number true true within in
        let opened : bit (get_or found.marks number true) ≡ 1 = ap bit absent in
        let more = length-append found.numbers (number ∷ []) in
        record {
          searched = record {
            places = marks ∙ searched.places;
            total = omega (arith, fewer, opened, more, searched.total);
            listed = listed;
            low = each (λ n. n < count) (subst (λ n. number < n) searched.places within) searched.low;
            sound = each (IsReached starts arcs) reached searched.sound;
          };
          stays = stays;
          longer = omega (arith, more);
          front = λ place low. get_or-append found.numbers (number ∷ []) 0 place low;
          among = λ other in'. ap (has after) (sym (member_single number other in')) ∙ here;
        }

  find_one : (found : Finds) (number : ℕ) → Searched found → IsReached starts arcs number → Finding found (with_number found number) (number ∷ [])
  find_one found number searched reached =
      elim (cases_Bool (has found number)) [
        | inl is ↦ subst (λ after. Finding found after (number ∷ [])) (sym (ap (λ b. cond b found (new found number)) is)) (find_again found number searched is)
        | inr absent ↦ subst (λ after. Finding found after (number ∷ [])) (sym (ap (λ b. cond b found (new found number)) absent)) (find_new found number searched absent reached)
      ]

  -- numbers one after another
  find_all : (numbers : List ℕ) (found : Finds) → Searched found → ((number : ℕ) → Contains numbers number → IsReached starts arcs number) → Finding found (fold with_number found numbers) numbers
  find_all [] found searched reached =
      record { searched = searched; stays = λ number is. is; longer = omega arith; front = λ place within. refl; among = λ number in'. absurd (no_member number in') }
  find_all (v ∷ vs) found searched reached =
      let one = find_one found v searched (reached v (member_first v vs)) in
      let rest = find_all vs (with_number found v) one.searched (λ number in'. reached number (member_later v number vs in')) in
      record {
        searched = rest.searched;
        stays = λ number is. rest.stays number (one.stays number is);
        longer = omega (arith, one.longer, rest.longer);
        front = λ place low. rest.front place (omega (arith, low, one.longer)) ∙ one.front place low;
        among = λ number in'. elim (member_cases v number vs in') [
          | inl same ↦ rest.stays number (one.among number (subst (λ n. Contains (v ∷ []) n) same (member_first v [])))
          | inr later ↦ rest.among number later
        ];
      }

  -- a search in which numbers were taken, up to a place
  pub record Taken (place : ℕ) (found : Finds) : Type 0 where
    searched : Searched found
    first : (start : ℕ) → Contains starts start → has found start ≡ true
    closed : (i : ℕ) → i < place → (next : ℕ) → Contains (leads_to arcs (get_or found.numbers i 0)) next → has found next ≡ true

  -- before anything is found
  abbrev empty : Finds
  empty = record { marks = replicate count false; numbers = [] }

  searched_none : Searched empty
  searched_none =
      let sum = sum_by-replicate bit count false in
      record {
        places = length-replicate count false;
        total = omega (arith, sum);
        listed = λ number low is. absurd (false≢true (sym (get_or-replicate count number false true low) ∙ is));
        low = λ number in'. absurd (no_member number in');
        sound = λ number in'. absurd (no_member number in');
      }

  pub begin : (found : Finds) → found ≡ fold with_number (record { marks = replicate count false; numbers = [] }) starts → Taken 0 found
  begin found is =
      let all = find_all starts empty searched_none First in
      subst (Taken 0) (sym is) (record { searched = all.searched; first = all.among; closed = λ i low. absurd (omega (arith, low)) })

  -- the next number is taken
  pub turn : (place : ℕ) (found after : Finds) (number : ℕ) (row : List ℕ) → Taken place found → slice_get found.numbers place ≡ Some number → row ≡ leads_to arcs number → after ≡ fold with_number found row → Taken (place + 1) after
  turn place found after number row taken at row-is after-is =
      subst (Taken (place + 1)) (sym after-is)
      (record {
        searched = all.searched;
        first = λ start in'. all.stays start (taken.first start in');
        closed = closed;
      })
    where
      within : place < length found.numbers
      within = slice_get_within found.numbers place number at

      reached : IsReached starts arcs number
      reached = taken.searched.sound number (place, within, get_or_from_slice_get found.numbers place number number at)

      all : Finding found (fold with_number found row) row
      all =
          find_all row found taken.searched (λ next in'.
          let by = leading arcs number next (subst (λ r. Contains r next) row-is in') in
          subst (IsReached starts arcs) by.to (Next by.arc (subst (IsReached starts arcs) (sym by.from) reached) by.listed))

      closed : (i : ℕ) → i < place + 1 → (next : ℕ) → Contains (leads_to arcs (get_or (fold with_number found row).numbers i 0)) next → has (fold with_number found row) next ≡ true
      closed i low next in' =
          elim (cases_lt i place) [
            | inl before ↦
                let old = all.front i (omega (arith, before, within)) in
                all.stays next (taken.closed i before next (subst (λ v. Contains (leads_to arcs v) next) old in'))
            | inr past ↦
                let this : i ≡ place = omega (arith, low, past) in
                let same = ap (λ n. get_or (fold with_number found row).numbers n 0) this ∙ all.front place within ∙ get_or_from_slice_get found.numbers place number 0 at in
                all.among next (subst (λ r. Contains r next) (sym row-is) (subst (λ v. Contains (leads_to arcs v) next) same in'))
          ]

  module _ (place : ℕ) (found : Finds) (taken : Taken place found) where
    -- a number that is taken has a place, and there are no more numbers than places
    pub number_low : (number : ℕ) → slice_get found.numbers place ≡ Some number → number < count
    number_low number at = taken.searched.low number (place, slice_get_within found.numbers place number at, get_or_from_slice_get found.numbers place number number at)

    pub place_low : (number : ℕ) → slice_get found.numbers place ≡ Some number → place < count
    place_low number at = let within = slice_get_within found.numbers place number at in let total = taken.searched.total in omega (arith, within, total)

    -- where all were taken, what is found is closed
    module _ (none : slice_get found.numbers place ≡ None) where
      past : length found.numbers ≤ place
      past =
          elim (cases_lt place (length found.numbers)) [
            | inl within ↦ absurd (none-some (get_or found.numbers place 0) (sym none ∙ slice_get-get_or found.numbers place 0 within))
            | inr over ↦ over
          ]

      found_reached : All (λ start. start < count) starts → All (λ arc. arc.to < count) arcs → (number : ℕ) → IsReached starts arcs number → (number < count) × (has found number ≡ true)
      found_reached low all number (First start in') = (All-contains (λ n. n < count) starts start low in', taken.first start in')
      found_reached low all number (Next arc from listed) =
          let before = found_reached low all arc.from from in
          let at = taken.searched.listed arc.from before.0 before.1 in (
            All-contains (λ (a : Arc). a.to < count) arcs arc all listed,
            taken.closed at.0 (omega (arith, at.1, past)) arc.to (led_to arcs (get_or found.numbers at.0 0) arc listed (sym at.2 ∙ get_or_default found.numbers at.0 arc.from 0 at.1)),
          )

      pub are_reached : AreReached count starts arcs (marked found.marks)
      are_reached =
          record {
            sorted = rising;
            only = λ number in'.
                let is = filter_member (has found) (range_with_len 0 (length found.marks)) number in' in
                taken.searched.sound number (taken.searched.listed number (subst (λ n. number < n) taken.searched.places (range_member (length found.marks) number is.0)) is.1);
            each = λ low all number reached.
                let is = found_reached low all number reached in
                member_filter (has found) (range_with_len 0 (length found.marks)) number (member_range (length found.marks) number (subst (λ n. number < n) (sym taken.searched.places) is.0)) is.1;
          }
        where
          rising : IsStrictlyIncreasing (marked found.marks)
          rising =
              IsStrictlyIncreasing-filter (has found) (range_with_len 0 (length found.marks)) (λ k below.
              let n = length-range_with_len 0 (length found.marks) in
              let one : get_or (range_with_len 0 (length found.marks)) k 0 ≡ 0 + k = get_or-range_with_len 0 (length found.marks) k 0 (omega (arith, n)) in
              let two : get_or (range_with_len 0 (length found.marks)) (k + 1) 0 ≡ 0 + (k + 1) = get_or-range_with_len 0 (length found.marks) (k + 1) 0 (omega (arith, n)) in
              omega arith)
