-- Pairs that were read are facts in order, and are written as they were read.
use Rattle.std.proofs.Common.{◌≡◌, ℕ, ◌+◌, ◌-◌, ◌<◌, true, ◌&&◌, ◌||◌, eqb, ltb, List, [], ◌∷◌, ◌++◌, length, map, get_or, Some, Ok, inl, inr, refl, sym, ap, ◌∙◌, subst, append-nil, arith, length-append}
use Rattle.std.specs.Prelude.{slice_get}
use Rattle.std.specs.List.{All, AllPairs, flat_map}
use Rattle.std.specs.List.Sorted.{IsStrictlyIncreasing}
use Rattle.std.specs.Option.{option_map_or}
use Rattle.std.proofs.lemmas.Bool.{cases_lt, ltb-true}
use Rattle.std.proofs.lemmas.Option.{slice_get-get_or}
use Rattle.std.proofs.lemmas.List.{length-map, get_or-map, get_or_append_left, get_or-append_right, map-append}
use Rattle.std.proofs.lemmas.List.Concat.{flat_map-append}
use Rattle.std.proofs.lemmas.List.Elements.{All-nil, All-push}
use Rattle.std.proofs.lemmas.List.Quantifiers.{all_pairs_push}
use Rattle.sas_task.specs.declared.parts.Pair.{Pair}
use Rattle.sas_task.specs.Output.{Line, numeral, counted, pair_words, pair_lines}
use Rattle.sas_task.specs.Task.{Task}
use Rattle.sas_task.specs.Valid.{IsValue, IsFact, AreConditions, ComesBefore}
use Rattle.sas_reader.specs.Contexts.{is_value, is_next_condition, is_next_fact}
use Rattle.sas_reader.specs.Forms.{◌>>=◌, Unread, line, listed, given}
use Rattle.sas_reader.specs.Numbers.{number, number_line}
use Rattle.sas_reader.specs.Pairs.{value, pair, condition, fact, effect_conditions, conditions}
use Rattle.sas_task.proofs.Checks.{value_from_test, before_from_test}
use Rattle.sas_reader.proofs.Kept.{parts, checked, read_same, kept, TakesLines, TakesWords, then_lines, then_words}
use Rattle.sas_reader.proofs.Lines.{number_is, number_line_is, line_is_words}

pub value_read : (task : Task) (var : ℕ) (now : Unread) (val : ℕ) (after : Unread) → value task var now ≡ Ok (val, after) → TakesWords now (numeral val ∷ []) after × IsValue task var val
unfolding value
value_read task var now val after e =
    let p = checked number (is_value task var) now val after e in
    (number_is now val after p.0, value_from_test task var val p.1)

pub pair_read : (task : Task) (now : Unread) (p : Pair) (after : Unread) → pair task now ≡ Ok (p, after) → TakesWords now (pair_words p) after × IsFact task p
unfolding pair
pair_read task now p after e =
    let a = parts (number now) (λ var. value task var >>= λ val. given (record { var = var; val = val })) p after e in
    let b = parts (value task a.0 a.1) (λ val. given (record { var = a.0; val = val })) p after a.3 in
    let s = read_same (record { var = a.0; val = b.0 }) p b.1 after b.3 in
    let v = value_read task a.0 a.1 b.0 b.1 b.2 in
    let words = then_words now a.1 b.1 (numeral a.0 ∷ []) (numeral b.0 ∷ []) (number_is now a.0 a.1 a.2) v.0 in
    let both : (TakesWords now (pair_words (record { var = a.0; val = b.0 })) b.1) × IsFact task (record { var = a.0; val = b.0 }) = (words, v.1) in
    let moved = subst (λ q. TakesWords now (pair_words q) b.1 × IsFact task q) s.0 both in
    (subst (λ n. TakesWords now (pair_words p) n) s.1 moved.0, moved.1)

pub condition_read : (task : Task) (before : List Pair) (now : Unread) (p : Pair) (after : Unread) → condition task before now ≡ Ok (p, after) → TakesWords now (pair_words p) after × IsFact task p × (is_next_condition before p ≡ true)
unfolding condition
condition_read task before now p after e =
    let a = checked (pair task) (is_next_condition before) now p after e in
    let r = pair_read task now p after a.0 in
    (r.0, r.1, a.1)

pub fact_read : (task : Task) (before : List Pair) (now : Unread) (p : Pair) (after : Unread) → fact task before now ≡ Ok (p, after) → TakesWords now (pair_words p) after × IsFact task p × (is_next_fact before p ≡ true)
unfolding fact
fact_read task before now p after e =
    let a = checked (pair task) (is_next_fact before) now p after e in
    let r = pair_read task now p after a.0 in
    (r.0, r.1, a.1)

pub last_is : {X : Type 0} (xs : List X) (d : X) → 0 < length xs → slice_get xs (length xs - 1) ≡ Some (get_or xs (length xs - 1) d)
last_is xs d some = slice_get-get_or xs (length xs - 1) d (omega (arith, some))

no_pairs : (task : Task) → AreConditions task []
no_pairs task = record { facts = All-nil (IsFact task); sorted = λ k within. absurd (omega (arith, within)) }

rise_push : (xs : List ℕ) (y : ℕ) → IsStrictlyIncreasing xs → (0 < length xs → get_or xs (length xs - 1) 0 < y) → IsStrictlyIncreasing (xs ++ y ∷ [])
rise_push xs y rises above k within =
    let len = length-append xs (y ∷ []) in
    elim (cases_lt (k + 1) (length xs)) [
      | inl inside ↦
          let low : get_or (xs ++ y ∷ []) k 0 ≡ get_or xs k 0 = get_or_append_left xs (y ∷ []) 0 k (omega (arith, inside)) in
          let high : get_or (xs ++ y ∷ []) (k + 1) 0 ≡ get_or xs (k + 1) 0 = get_or_append_left xs (y ∷ []) 0 (k + 1) inside in
          omega (arith, low, high, rises k inside)
      | inr last ↦
          let place : k ≡ length xs - 1 = omega (arith, last, within, len) in
          let low : get_or (xs ++ y ∷ []) k 0 ≡ get_or xs k 0 = get_or_append_left xs (y ∷ []) 0 k (omega (arith, within, len)) in
          let same : get_or xs k 0 ≡ get_or xs (length xs - 1) 0 = ap (λ i. get_or xs i 0) place in
          let high : get_or (xs ++ y ∷ []) (k + 1) 0 ≡ get_or (y ∷ []) (k + 1 - length xs) 0 = get_or-append_right xs (y ∷ []) (length xs) (k + 1) 0 refl last in
          let zeroth : k + 1 - length xs ≡ 0 = omega (arith, within, len) in
          let end : get_or (y ∷ []) (k + 1 - length xs) 0 ≡ y = ap (λ i. get_or (y ∷ []) i 0) zeroth in
          omega (arith, low, same, high, end, above (omega (arith, within, last)))
    ]

pub condition_more : (task : Task) (before : List Pair) (p : Pair) → AreConditions task before → IsFact task p → is_next_condition before p ≡ true → AreConditions task (before ++ p ∷ [])
condition_more task before p are is next = record {
  facts = All-push (IsFact task) before p are.facts is;
  sorted = subst IsStrictlyIncreasing (sym (map-append (λ (q : Pair). q.var) before (p ∷ []))) (rise_push (map (λ (q : Pair). q.var) before) p.var are.sorted above);
}
  where
    above : 0 < length (map (λ (q : Pair). q.var) before) → get_or (map (λ (q : Pair). q.var) before) (length (map (λ (q : Pair). q.var) before) - 1) 0 < p.var
    above some =
        let len : length (map (λ (q : Pair). q.var) before) ≡ length before = length-map before (λ q. q.var) in
        let nothing : Pair = record { var = 0; val = 0 } in
        let within : length before - 1 < length before = omega (arith, some, len) in
        let last = get_or before (length before - 1) nothing in
        let greater : last.var < p.var = ltb-true last.var p.var (sym (ap (λ o. option_map_or (λ (q : Pair). ltb q.var p.var) o true) (last_is before nothing (omega (arith, some, len)))) ∙ next) in
        let at : get_or (map (λ (q : Pair). q.var) before) (length before - 1) 0 ≡ last.var = get_or-map (λ (q : Pair). q.var) before (length before - 1) nothing 0 within in
        let place : get_or (map (λ (q : Pair). q.var) before) (length (map (λ (q : Pair). q.var) before) - 1) 0 ≡ get_or (map (λ (q : Pair). q.var) before) (length before - 1) 0 = ap (λ n. get_or (map (λ (q : Pair). q.var) before) (n - 1) 0) len in
        omega (arith, place, at, greater)

comes_through : (p q r : Pair) → ComesBefore p q → ComesBefore q r → ComesBefore p r
comes_through p q r (inl a) (inl b) = inl (omega (arith, a, b))
comes_through p q r (inl a) (inr b) = inl (omega (arith, a, b.0))
comes_through p q r (inr a) (inl b) = inl (omega (arith, a.0, b))
comes_through p q r (inr a) (inr b) = inr (omega (arith, a.0, b.0), omega (arith, a.1, b.1))

pub fact_more : (before : List Pair) (p : Pair) → AllPairs ComesBefore before → is_next_fact before p ≡ true → AllPairs ComesBefore (before ++ p ∷ [])
fact_more before p sorted next =
    all_pairs_push ComesBefore before p sorted (λ k d within.
    let last = get_or before (length before - 1) d in
    let comes : ComesBefore last p = before_from_test last p (sym (ap (λ o. option_map_or (λ (q : Pair). ltb q.var p.var || (eqb q.var p.var && ltb q.val p.val)) o true) (last_is before d (omega (arith, within)))) ∙ next) in
    elim (cases_lt k (length before - 1)) [
      | inl earlier ↦ comes_through (get_or before k d) last p (sorted k (length before - 1) d earlier (omega (arith, within))) comes
      | inr there ↦ subst (λ i. ComesBefore (get_or before i d) p) (let e : length before - 1 ≡ k = omega (arith, within, there) in e) comes
    ])

-- conditions in words of a line
record AreWords (task : Task) (start : Unread) (pairs : List Pair) (now : Unread) : Type 0 where
  are : AreConditions task pairs
  taken : TakesWords start (flat_map pair_words pairs) now

more_words : (start now after : Unread) (before : List Pair) (p : Pair) → TakesWords start (flat_map pair_words before) now → TakesWords now (pair_words p) after → TakesWords start (flat_map pair_words (before ++ p ∷ [])) after
more_words start now after before p first second =
    subst (λ l. TakesWords start l after) (ap (λ l. flat_map pair_words before ++ l) (sym (append-nil (pair_words p))) ∙ sym (flat_map-append pair_words before (p ∷ []))) (then_words start now after (flat_map pair_words before) (pair_words p) first second)

pub effect_conditions_read : (task : Task) (now : Unread) (pairs : List Pair) (after : Unread) → effect_conditions task now ≡ Ok (pairs, after) → TakesWords now (numeral (length pairs) ∷ flat_map pair_words pairs) after × AreConditions task pairs
unfolding effect_conditions
effect_conditions_read task now pairs after e =
    let a = parts (number now) (λ count. listed (condition task) count []) pairs after e in
    let start : AreWords task a.1 [] a.1 = record { are = no_pairs task; taken = (refl, refl) } in
    let all = kept (condition task) (AreWords task a.1) (λ before at p then holds e.
    let r = condition_read task before at p then e in
    record { are = condition_more task before p holds.are r.1 r.2; taken = more_words a.1 at then before p holds.taken r.0 })
    a.0 [] a.1 pairs after start a.3 in
    let count : length pairs ≡ a.0 = omega (arith, all.1) in
    (subst (λ n. TakesWords now (numeral n ∷ flat_map pair_words pairs) after) (sym count) (then_words now a.1 after (numeral a.0 ∷ []) (flat_map pair_words pairs) (number_is now a.0 a.1 a.2) all.0.taken), all.0.are)

-- conditions in lines
record AreLines (task : Task) (start : Unread) (pairs : List Pair) (now : Unread) : Type 0 where
  are : AreConditions task pairs
  taken : TakesLines start (flat_map pair_lines pairs) now

pub more_lines : {X : Type 0} (lines : X → List Line) (start now after : Unread) (before : List X) (x : X) → TakesLines start (flat_map lines before) now → TakesLines now (lines x) after → TakesLines start (flat_map lines (before ++ x ∷ [])) after
more_lines lines start now after before x first second =
    subst (λ l. TakesLines start l after) (ap (λ l. flat_map lines before ++ l) (sym (append-nil (lines x))) ∙ sym (flat_map-append lines before (x ∷ []))) (then_lines start now after (flat_map lines before) (lines x) first second)

pub conditions_read : (task : Task) (now : Unread) (pairs : List Pair) (after : Unread) → conditions task now ≡ Ok (pairs, after) → TakesLines now (counted pair_lines pairs) after × AreConditions task pairs
unfolding conditions
conditions_read task now pairs after e =
    let a = parts (number_line now) (λ count. listed (λ before. line (condition task before)) count []) pairs after e in
    let start : AreLines task a.1 [] a.1 = record { are = no_pairs task; taken = refl } in
    let all = kept (λ before. line (condition task before)) (AreLines task a.1) (λ before at p then holds e.
    let r = line_is_words (condition task before) pair_words (λ q. IsFact task q × (is_next_condition before q ≡ true)) (λ now q after e. let c = condition_read task before now q after e in (c.0, (c.1, c.2))) at p then e in
    record { are = condition_more task before p holds.are r.1.0 r.1.1; taken = more_lines pair_lines a.1 at then before p holds.taken r.0 })
    a.0 [] a.1 pairs after start a.3 in
    let count : length pairs ≡ a.0 = omega (arith, all.1) in
    (subst (λ n. TakesLines now (numeral n ∷ flat_map pair_lines pairs) after) (sym count) (then_lines now a.1 after (numeral a.0 ∷ []) (flat_map pair_lines pairs) (number_line_is now a.0 a.1 a.2).0 all.0.taken), all.0.are)

-- facts of a mutex group in lines
record AreFacts (task : Task) (start : Unread) (pairs : List Pair) (now : Unread) : Type 0 where
  facts : All (IsFact task) pairs
  sorted : AllPairs ComesBefore pairs
  taken : TakesLines start (flat_map pair_lines pairs) now

pub facts_read : (task : Task) (count : ℕ) (now : Unread) (pairs : List Pair) (after : Unread) → listed (λ before. line (fact task before)) count [] now ≡ Ok (pairs, after)
    → TakesLines now (flat_map pair_lines pairs) after × All (IsFact task) pairs × AllPairs ComesBefore pairs × (length pairs ≡ count)
facts_read task count now pairs after e =
    let start : AreFacts task now [] now = record { facts = All-nil (IsFact task); sorted = λ i j d less within. absurd (omega (arith, within)); taken = refl } in
    let all = kept (λ before. line (fact task before)) (AreFacts task now) (λ before at p then holds e.
    let r = line_is_words (fact task before) pair_words (λ q. IsFact task q × (is_next_fact before q ≡ true)) (λ now q after e. let c = fact_read task before now q after e in (c.0, (c.1, c.2))) at p then e in
    record { facts = All-push (IsFact task) before p holds.facts r.1.0; sorted = fact_more before p holds.sorted r.1.1; taken = more_lines pair_lines now at then before p holds.taken r.0 })
    count [] now pairs after start e in
    (all.0.taken, all.0.facts, all.0.sorted, omega (arith, all.1))
