-- The turns of the search: in each the operators of a queue are looked at, and where the queue is empty what is found are the possible pairs.
use Rattle.std.proofs.Common.{◌≡◌, ℕ, ◌+◌, ◌<◌, ◌≤◌, Bool, true, false, not, cond, eqb, List, [], ◌∷◌, fold, length, get_or, replicate, Option, Some, None, ◌⊎◌, refl, sym, ap, ◌∙◌, subst, inl, inr, arith}
use Rattle.std.specs.List.{Contains, slice_get, list_all, list_any, range_with_len}
use Rattle.std.specs.Option.{option_map_or}
use Rattle.std.proofs.lemmas.Bool.{cases_Bool, and_parts, and_from, cases_lt, ne_eqb, false≢true}
use Rattle.std.proofs.lemmas.List.{length-replicate, get_or-replicate, get_or_default, get_or_past}
use Rattle.std.proofs.lemmas.Option.{slice_get_within, slice_get-get_or, get_or_from_slice_get, same_Some, none-some}
use Rattle.lists.proofs.Members.{no_member, member_first, member_cases, all_pass, each_passes, any_member, member_any, map_member, member_map, filter_member, member_filter, member_range, range_member}
use Rattle.sas_task.specs.declared.parts.Pair.{Pair}
use Rattle.sas_task.specs.declared.parts.Operator.{Operator}
use Rattle.sas_task.specs.Task.{Task}
use Rattle.sas_task.specs.Pairs.{pair}
use Rattle.sas_task.specs.Valid.{IsValid, IsValue, IsFact}
use Rattle.pass_possible.specs.Possible.{all_pairs, is_possible, is_mixed, IsInitial, ArePossible}
use Rattle.pass_h2.specs.Finds.{Finds, number_in, numbers, marked_or, found, settled, is_touched, is_woken, is_woken_at, nothing}
use Rattle.pass_h2.specs.Search.{looked, looked_at, woken, turned, initial_pairs}
use Rattle.pass_h2.specs.Facts.{all_facts, starts, initial_facts}
use Rattle.pass_h2.proofs.Numbers.{has_number, one_number}
use Rattle.pass_h2.proofs.Adding.{Shaped, Adds, Any, nothing_more, both, chosen_adds, all_found, found_turned, some_touched, open_count}
use Rattle.pass_h2.proofs.Searching.{Searched, Answered, answered_within, looks}

no_mark : (n : ℕ) → list_any (λ mark. mark) (replicate n false) ≡ true → ⊥
no_mark n some =
    let m = any_member (λ mark. mark) (replicate n false) some in
    let i = m.1 in
    let low : i.0 < n = subst (λ k. i.0 < k) (length-replicate n false) i.1 in
    false≢true (sym (get_or-replicate n i.0 false m.0 low) ∙ i.2 ∙ m.2)

mark_some : (marks : List Bool) (i : ℕ) → get_or marks i false ≡ true → list_any (λ mark. mark) marks ≡ true
mark_some marks i is =
    elim (cases_lt i (length marks)) [
      | inl low ↦ member_any (λ mark. mark) marks true (i, low, get_or_default marks i true false low ∙ is) refl
      | inr past ↦ absurd (false≢true (sym (get_or_past marks i false past) ∙ is))
    ]

not_empty : (ps : List Pair) (p : Pair) → Contains ps p → eqb (length ps) 0 ≡ false
not_empty ps p in' = ne_eqb (length ps) 0 (λ none. let low = in'.1 in absurd (omega (arith, low, none)))

-- a woken operator shows that some fact is touched
woken_some : (g : Finds) (o : Operator) → is_woken g o ≡ true → some_touched g ≡ true
woken_some g o is = by_test (eqb (length o.conditions) 0) is
  where
    by_test : (b : Bool) → cond b (some_touched g) (list_any (is_touched g) o.conditions) ≡ true → some_touched g ≡ true
    by_test true is = is
    by_test false is = let p = any_member (is_touched g) o.conditions is in mark_some g.touched (number_in g p.0) p.2

-- how many pairs are open, twice, and one more while the queue isn't empty
abbrev waiting : List ℕ → ℕ
waiting queue = cond (eqb (length queue) 0) 0 1

abbrev pub measure : Finds → List ℕ → ℕ
measure f queue = open_count f + open_count f + waiting queue

module _ (T : Task) (valid : IsValid T) where
  record Turn (f g : Finds) (queue : List ℕ) : Type 0 where
    adds : Adds Any f g
    searched : Searched T valid g
    answered : (i : ℕ) (o : Operator) → Contains queue i → slice_get T.operators i ≡ Some o → Answered T valid f g o

  looks_at : (f : Finds) → Searched T valid f → (i : ℕ) → Adds Any f (looked_at T.operators f i) × Searched T valid (looked_at T.operators f i) × ((o : Operator) → slice_get T.operators i ≡ Some o → Answered T valid f (looked_at T.operators f i) o)
  looks_at f s i = by_option (slice_get T.operators i) refl
    where
      by_option : (found' : Option Operator) → slice_get T.operators i ≡ found' → Adds Any f (option_map_or (looked f) found' f) × Searched T valid (option_map_or (looked f) found' f) × ((o : Operator) → found' ≡ Some o → Answered T valid f (option_map_or (looked f) found' f) o)
      by_option None at = (nothing_more Any f s.shaped, s, (λ o none. absurd (none-some o none)))
      by_option (Some o) at =
          let l = looks T valid f s o (i, slice_get_within T.operators i o at, get_or_from_slice_get T.operators i o o at) in
          (l.adds, l.searched, (λ o' same. subst (λ o'. Answered T valid f (looked f o) o') (same_Some o o' same) l.answered))

  turns : (queue : List ℕ) (f : Finds) → Searched T valid f → Turn f (fold (looked_at T.operators) f queue) queue
  turns [] f s = record { adds = nothing_more Any f s.shaped; searched = s; answered = λ i o in' at. absurd (no_member i in') }
  turns (i ∷ queue) f s = made (λ next s'. turns queue next s') (looks_at f s i)
    where
      made : ((next : Finds) → Searched T valid next → Turn next (fold (looked_at T.operators) next queue) queue) → Adds Any f (looked_at T.operators f i) × Searched T valid (looked_at T.operators f i) × ((o : Operator) → slice_get T.operators i ≡ Some o → Answered T valid f (looked_at T.operators f i) o) → Turn f (fold (looked_at T.operators) (looked_at T.operators f i) queue) (i ∷ queue)
      made others one = later (others (looked_at T.operators f i) one.1)
        where
          later : Turn (looked_at T.operators f i) (fold (looked_at T.operators) (looked_at T.operators f i) queue) queue → Turn f (fold (looked_at T.operators) (looked_at T.operators f i) queue) (i ∷ queue)
          later rest =
              let next = looked_at T.operators f i in
              let end = fold (looked_at T.operators) (looked_at T.operators f i) queue in
              record {
                adds = both Any f next end one.0 rest.adds;
                searched = rest.searched;
                answered = λ k o in' at. elim (member_cases i k queue in') [
                  | inl same ↦ answered_within T valid f f next end o (λ p q is. is) rest.adds.grows (one.2 o (ap (slice_get T.operators) same ∙ at))
                  | inr there ↦ answered_within T valid f next end end o one.0.grows (λ p q is. is) (rest.answered k o there at)
                ];
              }

  -- an operator that isn't woken needs no pair that is new
  module _ (f g : Finds) (s : Searched T valid f) (a : Adds Any f g) (o : Operator) (asleep : is_woken g o ≡ false) where
    not_touched : (p : Pair) → Contains o.conditions p → is_touched g p ≡ true → ⊥
    not_touched p in-p touched =
        let some = ap (λ b. cond b (some_touched g) (list_any (is_touched g) o.conditions)) (not_empty o.conditions p in-p) in
        false≢true (sym asleep ∙ some ∙ member_any (is_touched g) o.conditions p in-p touched)

    none_touched : o.conditions ≡ [] → (p : Pair) → is_touched g p ≡ true → ⊥
    none_touched none p touched =
        let any = ap (λ (qs : List Pair). cond (eqb (length qs) 0) (some_touched g) (list_any (is_touched g) qs)) none in
        false≢true (sym asleep ∙ any ∙ mark_some g.touched (number_in g p) touched)

    old_pair : (p q : Pair) → Contains o.conditions p → found g p q ≡ true → found f p q ≡ true
    old_pair p q in-p is =
        elim (a.told p q is) [
          | inl old ↦ old
          | inr new ↦ absurd (not_touched p in-p new.1)
        ]

    old_beside : (p : Pair) → list_all (λ q. found g p q) o.conditions ≡ true → list_all (λ q. found f p q) o.conditions ≡ true
    old_beside p all = each_passes (λ q. found f p q) o.conditions (λ q in-q. found_turned f s.shaped q p (old_pair q p in-q (found_turned g a.shaped p q (all_pass (λ q. found g p q) o.conditions q all in-q))))

    old_itself : (p : Pair) → found g p p ≡ true → list_all (λ q. found f p q) o.conditions ≡ true → found f p p ≡ true
    old_itself p is all =
        elim (a.told p p is) [
          | inl old ↦ old
          | inr new ↦ by_conditions o.conditions refl new.1
        ]
      where
        by_conditions : (qs : List Pair) → o.conditions ≡ qs → is_touched g p ≡ true → found f p p ≡ true
        by_conditions [] e touched = absurd (none_touched e p touched)
        by_conditions (q ∷ qs) e touched = s.itself p q (all_pass (λ q. found f p q) o.conditions q all (subst (λ qs. Contains qs q) (sym e) (member_first q qs)))

    old_possible : is_possible (found g) o ≡ true → is_possible (found f) o ≡ true
    old_possible is =
        let parts = and_parts (not (is_mixed o)) (all_pairs (found g) o.conditions) is in
        and_from (not (is_mixed o)) (all_pairs (found f) o.conditions) parts.0
        (each_passes (λ p. list_all (λ q. found f p q) o.conditions) o.conditions (λ p in-p. each_passes (λ q. found f p q) o.conditions (λ q in-q.
        old_pair p q in-p (all_pass (λ q. found g p q) o.conditions q (all_pass (λ p. list_all (λ q. found g p q) o.conditions) o.conditions p parts.1 in-p) in-q))))

    still_answered : Answered T valid f g o → Answered T valid g g o
    still_answered b =
        record {
          effects = λ is. b.effects (old_possible is);
          effect = λ is e p in-e free itself all. let before = old_beside p all in b.effect (old_possible is) e p in-e free (old_itself p itself before) before;
        }

  -- what holds between turns: each operator is in the queue, or leads to nothing else
  pub record Between (f : Finds) (queue : List ℕ) : Type 0 where
    pub searched : Searched T valid f
    pub initial : (p q : Pair) → IsInitial T p → IsInitial T q → found f p q ≡ true
    pub each : (i : ℕ) (o : Operator) → slice_get T.operators i ≡ Some o → Contains queue i ⊎ Answered T valid f f o

  settled_searched : (f : Finds) → Searched T valid f → Searched T valid (settled f)
  settled_searched f s =
      record {
        facts = s.facts;
        starts = s.starts;
        shaped = record {
          rows = s.shaped.rows;
          row = s.shaped.row;
          alone = s.shaped.alone;
          touched = length-replicate (length f.facts) false;
          turned = s.shaped.turned;
          itself = s.shaped.itself;
        };
        sure = s.sure;
        itself = s.itself;
      }

  next_turn : (f : Finds) (queue : List ℕ) → Between f queue → Between (turned T.operators f queue) (woken T.operators (turned T.operators f queue))
  next_turn f queue b =
      let start = settled f in
      let end = turned T.operators f queue in
      let turn = turns queue start (settled_searched f b.searched) in
      record {
        searched = turn.searched;
        initial = λ p q is-p is-q. turn.adds.grows p q (b.initial p q is-p is-q);
        each = λ i o at. by_test i o at turn.adds (answer i o at turn (b.each i o at)) (cases_Bool (is_woken end o));
      }
    where
      answer : (i : ℕ) (o : Operator) → slice_get T.operators i ≡ Some o → Turn (settled f) (turned T.operators f queue) queue → Contains queue i ⊎ Answered T valid f f o → Answered T valid (settled f) (turned T.operators f queue) o
      answer i o at turn (inl queued) = turn.answered i o queued at
      answer i o at turn (inr before) = answered_within T valid (settled f) f f (turned T.operators f queue) o (λ p q is. is) turn.adds.grows before

      by_test : (i : ℕ) (o : Operator) → slice_get T.operators i ≡ Some o → Adds Any (settled f) (turned T.operators f queue) → Answered T valid (settled f) (turned T.operators f queue) o → (is_woken (turned T.operators f queue) o ≡ true) ⊎ (is_woken (turned T.operators f queue) o ≡ false) → Contains (woken T.operators (turned T.operators f queue)) i ⊎ Answered T valid (turned T.operators f queue) (turned T.operators f queue) o
      by_test i o at adds answered (inl wakes) =
          inl (member_filter (is_woken_at T.operators (turned T.operators f queue)) (range_with_len 0 (length T.operators)) i (member_range (length T.operators) i (slice_get_within T.operators i o at))
          (ap (λ found'. option_map_or (is_woken (turned T.operators f queue)) found' false) at ∙ wakes))
      by_test i o at adds answered (inr sleeps) = inr (still_answered (settled f) (turned T.operators f queue) (settled_searched f b.searched) adds o sleeps answered)

  -- each turn after which some operator is woken leaves fewer pairs open
  smaller : (f : Finds) (queue : List ℕ) → Between f queue → eqb (length queue) 0 ≡ false → measure (turned T.operators f queue) (woken T.operators (turned T.operators f queue)) < measure f queue
  smaller f queue b some = by_queue (woken T.operators (turned T.operators f queue)) refl
    where
      adds : Adds Any (settled f) (turned T.operators f queue)
      adds = (turns queue (settled f) (settled_searched f b.searched)).adds

      old : waiting queue ≡ 1
      old = ap (λ (b : Bool). let n : ℕ = cond b 0 1 in n) some

      less : (i : ℕ) → Contains (woken T.operators (turned T.operators f queue)) i → open_count (turned T.operators f queue) < open_count f
      less i in' =
          let o = by_option (slice_get T.operators i) (filter_member (is_woken_at T.operators (turned T.operators f queue)) (range_with_len 0 (length T.operators)) i in').1 in
          elim (adds.news (woken_some (turned T.operators f queue) o.0 o.1)) [
            | inl none ↦ absurd (no_mark (length f.facts) none)
            | inr fewer ↦ fewer
          ]
        where
          by_option : (found' : Option Operator) → option_map_or (is_woken (turned T.operators f queue)) found' false ≡ true → (o : Operator) × (is_woken (turned T.operators f queue) o ≡ true)
          by_option None is = absurd (false≢true is)
          by_option (Some o) is = (o, is)

      by_queue : (next : List ℕ) → woken T.operators (turned T.operators f queue) ≡ next → measure (turned T.operators f queue) (woken T.operators (turned T.operators f queue)) < measure f queue
      by_queue [] e =
          let new : waiting (woken T.operators (turned T.operators f queue)) ≡ 0 = ap waiting e in
          let x = adds.fewer in let y = old in omega (arith, x, y, new)
      by_queue (i ∷ next) e =
          let new : waiting (woken T.operators (turned T.operators f queue)) ≡ 1 = ap waiting e ∙ ap (λ (b : Bool). let n : ℕ = cond b 0 1 in n) (ne_eqb (length (i ∷ next)) 0 (λ z. absurd (omega (arith, z)))) in
          let x = less i (subst (λ q. Contains q i) (sym e) (member_first i next)) in let y = old in omega (arith, x, y, new)

  -- one turn of the loop
  module _ (f g : Finds) (queue next : List ℕ) (is : g ≡ turned T.operators f queue) (woken-are : next ≡ woken T.operators g) (b : Between f queue) where
    next_is : next ≡ woken T.operators (turned T.operators f queue)
    next_is = woken-are ∙ ap (woken T.operators) is

    pub goes_on : Between g next
    goes_on = subst (Between g) (sym next_is) (subst (λ g. Between g (woken T.operators (turned T.operators f queue))) (sym is) (next_turn f queue b))

    pub goes_down : eqb (length queue) 0 ≡ false → measure g next < measure f queue
    goes_down some = subst (λ q. measure g q < measure f queue) (sym next_is) (subst (λ g. measure g (woken T.operators (turned T.operators f queue)) < measure f queue) (sym is) (smaller f queue b some))

  -- with an empty queue, these are the possible pairs
  pub are_possible : (f : Finds) → Between f [] → ArePossible T (found f)
  are_possible f b =
      record {
        closed = record {
          turned = λ p q is. found_turned f b.searched.shaped p q is;
          state = b.initial;
          effects = λ o x y in-o is in-x in-y. (answered o in-o).effects is x y in-x in-y;
          effect = λ o e g in-o is in-e free itself all. (answered o in-o).effect is e g in-e free itself all;
        };
        least = λ has closed p q is. b.searched.sure p q is has closed;
      }
    where
      answered : (o : Operator) → Contains T.operators o → Answered T valid f f o
      answered o in-o =
          elim (b.each in-o.0 o (slice_get-get_or T.operators in-o.0 o in-o.1 ∙ ap (λ o. Some o) in-o.2)) [
            | inl queued ↦ absurd (no_member in-o.0 queued)
            | inr is ↦ is
          ]

  -- at first the pairs of the written state are found, and every operator is in the queue
  initial_fact : (p : Pair) → IsInitial T p → Contains (initial_facts T) p
  initial_fact p is =
      subst (Contains (initial_facts T)) (pair_of p is.1) (member_map (λ var. pair var (get_or T.state var 0)) (range_with_len 0 (length T.variables)) p.var (member_range (length T.variables) p.var is.0))
    where
      pair_of : (p : Pair) → get_or T.state p.var 0 ≡ p.val → pair p.var (get_or T.state p.var 0) ≡ p
      pair_of p e = ap (pair p.var) e

  is_initial : (p : Pair) → Contains (initial_facts T) p → IsInitial T p
  is_initial p in' =
      let from = map_member (λ var. pair var (get_or T.state var 0)) (range_with_len 0 (length T.variables)) p in' in
      subst (IsInitial T) from.2 (range_member (length T.variables) from.0 from.1, refl)

  initial_value : (p : Pair) → IsInitial T p → IsFact T p
  initial_value p is = subst (IsValue T p.var) is.1 (valid.state p.var is.0)

  abbrev count : ℕ
  count = length (all_facts T)

  open_row : (i : ℕ) → i < count → get_or (nothing T).rows i [] ≡ replicate count false
  open_row i below = get_or-replicate count i (replicate count false) [] below

  no_mark_in : (i : ℕ) → get_or (replicate count false) i false ≡ false
  no_mark_in i =
      elim (cases_lt i count) [
        | inl low ↦ get_or-replicate count i false false low
        | inr past ↦ get_or_past (replicate count false) i false (subst (λ n. n ≤ i) (sym (length-replicate count false)) past)
      ]

  none_marked : (i j : ℕ) → marked_or false (nothing T) i j ≡ false
  none_marked i j =
      elim (cases_lt i count) [
        | inl low ↦ ap (λ row. get_or row j false) (open_row i low) ∙ no_mark_in j
        | inr past ↦
            ap (λ row. get_or row j false) (get_or_past (nothing T).rows i [] (subst (λ n. n ≤ i) (sym (length-replicate count (replicate count false))) past))
            ∙ get_or_past [] j false (omega arith)
      ]

  empty_shaped : Shaped (nothing T)
  empty_shaped =
      record {
        rows = length-replicate count (replicate count false);
        row = λ i below. ap length (open_row i below) ∙ length-replicate count false;
        alone = length-replicate count false;
        touched = length-replicate count false;
        turned = λ i j is. absurd (false≢true (sym (none_marked i j) ∙ is));
        itself = λ i. no_mark_in i ∙ sym (none_marked i i);
      }

  none_found : (p q : Pair) → found (nothing T) p q ≡ true → ⊥
  none_found p q is = false≢true (sym (none_marked (number_in (nothing T) p) (number_in (nothing T) q)) ∙ is)

  abbrev N : List ℕ
  N = numbers (nothing T) (initial_facts T)

  -- a fact whose number is of the written state's facts is one of these
  state_fact : (p : Pair) → Contains N (number_in (nothing T) p) → Contains (initial_facts T) p
  state_fact p in' =
      let q = map_member (number_in (nothing T)) (initial_facts T) (number_in (nothing T) p) in' in
      let low = has_number T q.0 (initial_value q.0 (is_initial q.0 q.1)) in
      subst (Contains (initial_facts T)) (one_number (all_facts T) (starts T) q.0 p low (subst (λ n. n < length (all_facts T)) q.2 low) q.2) q.1

  pub begins : Between (initial_pairs T) (range_with_len 0 (length T.operators))
  begins =
      record {
        searched = record {
          facts = adds.facts;
          starts = adds.starts;
          shaped = adds.shaped;
          sure = λ p q is. elim (adds.told p q is) [
            | inl old ↦ absurd (none_found p q old)
            | inr new ↦ λ has closed. closed.state p q (is_initial p new.0.0) (is_initial q new.0.1)
          ];
          itself = λ p q is. elim (adds.told p q is) [
            | inl old ↦ absurd (none_found p q old)
            | inr new ↦ there p p new.0.0 new.0.0
          ];
        };
        initial = λ p q is-p is-q. there p q (initial_fact p is-p) (initial_fact q is-q);
        each = λ i o at. inl (member_range (length T.operators) i (slice_get_within T.operators i o at));
      }
    where
      adds : Adds (λ p q. Contains (initial_facts T) p × Contains (initial_facts T) q) (nothing T) (initial_pairs T)
      adds =
          chosen_adds (λ p q. Contains (initial_facts T) p × Contains (initial_facts T) q) (λ g i. N) N (nothing T) empty_shaped (λ g same i j in-i in-j p q is-p is-q.
          let in-p = state_fact p (subst (Contains N) (sym is-p) in-i) in
          let in-q = state_fact q (subst (Contains N) (sym is-q) in-j) in
          ((in-p, in-q), (in-q, in-p)))

      there : (p q : Pair) → Contains (initial_facts T) p → Contains (initial_facts T) q → found (initial_pairs T) p q ≡ true
      there p q in-p in-q =
          all_found p q N N (nothing T) empty_shaped (member_map (number_in (nothing T)) (initial_facts T) p in-p) (member_map (number_in (nothing T)) (initial_facts T) q in-q)
          (has_number T p (initial_value p (is_initial p in-p))) (has_number T q (initial_value q (is_initial q in-q)))
