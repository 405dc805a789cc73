-- The search for the possible pairs: what is found is possible, and what was looked at leads to nothing else.
use Rattle.std.proofs.Common.{◌≡◌, ℕ, ◌<◌, Bool, true, false, not, cond, ◌&&◌, List, map, length, get_or, ◌⊎◌, refl, sym, ap, ◌∙◌, subst, inl, inr}
use Rattle.std.specs.List.{Contains, slice_get, list_all}
use Rattle.std.specs.Option.{option_map_or}
use Rattle.std.proofs.lemmas.Bool.{cases_Bool, and_parts, and_from, false≢true, not-true}
use Rattle.std.proofs.lemmas.List.{get_or_default}
use Rattle.lists.proofs.Members.{all_pass, each_passes, map_member, member_map, filter_member, member_filter}
use Rattle.sas_task.specs.declared.parts.Pair.{Pair}
use Rattle.sas_task.specs.declared.parts.Effect.{Effect}
use Rattle.sas_task.specs.declared.parts.Operator.{Operator}
use Rattle.sas_task.specs.Task.{Task}
use Rattle.sas_task.specs.Valid.{IsValid, IsFact}
use Rattle.sas_task.proofs.ValidParts.{effect_law}
use Rattle.sas_task.specs.Effects.{changes, fact_of}
use Rattle.pass_possible.specs.Possible.{is_mixed, Pairs, all_pairs, is_possible, HasPossible}
use Rattle.pass_h2.specs.Facts.{all_facts, starts, number}
use Rattle.pass_h2.specs.Finds.{Finds, number_in, numbers, row, marked_or, found}
use Rattle.pass_h2.specs.MarkLists.{without, places}
use Rattle.pass_h2.proofs.MarkLists.{without_at, marked_place, place_marked, common_of_all}
use Rattle.pass_h2.specs.Search.{with_all, changes_fact, beside, new_beside, made, led_to, looked}
use Rattle.pass_h2.proofs.Numbers.{has_number, numbered, one_number}
use Rattle.pass_h2.proofs.Adding.{Shaped, Adds, Any, any_pair, same_number, nothing_more, both, chosen_adds, chosen_found, all_found, found_low}

-- an operator that is possible by fewer pairs is possible by more
pub possible_by_more : (few more : Pairs) (o : Operator) → ((p q : Pair) → few p q ≡ true → more p q ≡ true) → is_possible few o ≡ true → is_possible more o ≡ true
possible_by_more few more o so is =
    let parts = and_parts (not (is_mixed o)) (all_pairs few o.conditions) is in
    and_from (not (is_mixed o)) (all_pairs more o.conditions) parts.0
    (each_passes (λ p. list_all (λ q. more p q) o.conditions) o.conditions (λ p in-p. each_passes (λ q. more p q) o.conditions (λ q in-q.
    so p q (all_pass (λ q. few p q) o.conditions q (all_pass (λ p. list_all (λ q. few p q) o.conditions) o.conditions p parts.1 in-p) in-q))))

pub all_by_more : (few more : Pair → Bool) (ps : List Pair) → ((p : Pair) → few p ≡ true → more p ≡ true) → list_all few ps ≡ true → list_all more ps ≡ true
all_by_more few more ps so is = each_passes more ps (λ p in'. so p (all_pass few ps p is in'))

module _ (T : Task) (valid : IsValid T) where
  -- the pair is in each set that has all possible ones
  abbrev pub Sure : Pair → Pair → Type 0
  Sure p q = (has : Pairs) → HasPossible T has → has p q ≡ true

  pub record Searched (f : Finds) : Type 0 where
    pub facts : f.facts ≡ all_facts T
    pub starts : f.starts ≡ starts T
    pub shaped : Shaped f
    pub sure : (p q : Pair) → found f p q ≡ true → (has : Pairs) → HasPossible T has → has p q ≡ true
    pub itself : (p q : Pair) → found f p q ≡ true → found f p p ≡ true

  -- the operator leads to nothing else: where it was possible by the first, the second has its pairs
  pub record Answered (f g : Finds) (o : Operator) : Type 0 where
    pub effects : is_possible (found f) o ≡ true → (a b : Effect) → Contains o.effects a → Contains o.effects b → found g (fact_of a) (fact_of b) ≡ true
    pub effect : is_possible (found f) o ≡ true → (e : Effect) (p : Pair) → Contains o.effects e → changes o p.var ≡ false → found f p p ≡ true → list_all (λ q. found f p q) o.conditions ≡ true → found g (fact_of e) p ≡ true

  pub answered_within : (e f g h : Finds) (o : Operator) → ((p q : Pair) → found e p q ≡ true → found f p q ≡ true) → ((p q : Pair) → found g p q ≡ true → found h p q ≡ true) → Answered f g o → Answered e h o
  answered_within e f g h o before after a =
      record {
        effects = λ is x y in-x in-y. after (fact_of x) (fact_of y) (a.effects (possible_by_more (found e) (found f) o before is) x y in-x in-y);
        effect = λ is x p in-x free itself all.
            after (fact_of x) p (a.effect (possible_by_more (found e) (found f) o before is) x p in-x free (before p p itself) (all_by_more (λ q. found e p q) (λ q. found f p q) o.conditions (before p) all));
      }

  pub fact_low : (f : Finds) → Searched f → (p : Pair) → IsFact T p → number_in f p < length f.facts
  fact_low f s p fact =
      subst (λ facts. number facts f.starts p < length facts) (sym s.facts)
      (subst (λ starts. number (all_facts T) starts p < length (all_facts T)) (sym s.starts) (has_number T p fact))

  pub record Looks (f g : Finds) (o : Operator) : Type 0 where
    pub adds : Adds Any f g
    pub searched : Searched g
    pub answered : Answered f g o

  module _ (f : Finds) (s : Searched f) (o : Operator) (in-o : Contains T.operators o) where
    abbrev E : List ℕ
    E = made f o

    -- the marks of the facts that go with the conditions
    abbrev M : List Bool
    M = beside f (numbers f o.conditions)

    abbrev mid : Finds
    mid = with_all (made f o) f (made f o)

    low_effect : (e : Effect) → Contains o.effects e → number_in f (fact_of e) < length f.facts
    low_effect e in' = fact_low f s (fact_of e) (effect_law T valid o in-o e in').value

    -- a fact whose number is of an effect's is what the effect makes true
    effect_made : (p : Pair) → Contains E (number_in f p) → (e : Effect) × Contains o.effects e × (fact_of e ≡ p)
    effect_made p in' =
        let fact = map_member (number_in f) (map fact_of o.effects) (number_in f p) in' in
        let e = map_member fact_of o.effects fact.0 fact.1 in
        let low = low_effect e.0 e.1 in
        let same : number_in f (fact_of e.0) ≡ number_in f p = ap (number_in f) e.2 ∙ fact.2 in
        (e.0, e.1, one_number f.facts f.starts (fact_of e.0) p low (subst (λ n. n < length f.facts) same low) same)

    made_effect : (e : Effect) → Contains o.effects e → Contains E (number_in f (fact_of e))
    made_effect e in' = member_map (number_in f) (map fact_of o.effects) (fact_of e) (member_map fact_of o.effects e in')

    first : Adds Any f mid
    first = chosen_adds Any (λ g i. E) E f s.shaped (λ g same i j in-i in-j. any_pair f i j)

    second : Adds Any mid (led_to f o)
    second = chosen_adds Any (new_beside o M) E mid first.shaped (λ g same i j in-i in-j. any_pair mid i j)

    whole : Adds Any f (led_to f o)
    whole = both Any f mid (led_to f o) first second

    -- numbers are as they were, once the effects' own pairs are marked
    in_mid : (p : Pair) → number_in mid p ≡ number_in f p
    in_mid p = same_number f mid first.facts first.starts p

    low_mid : (p : Pair) → number_in f p < length f.facts → number_in mid p < length mid.facts
    low_mid p low = subst (λ n. n < length mid.facts) (sym (in_mid p)) (subst (λ facts. number_in f p < length facts) (sym first.facts) low)

    effects_found : (a b : Effect) → Contains o.effects a → Contains o.effects b → found mid (fact_of a) (fact_of b) ≡ true
    effects_found a b in-a in-b = all_found (fact_of a) (fact_of b) E E f s.shaped (made_effect a in-a) (made_effect b in-b) (low_effect a in-a) (low_effect b in-b)

    -- what stands beside: the fact is found with itself and with each condition, and no effect is on its variable
    abbrev Beside : Pair → Type 0
    Beside p = (found f p p ≡ true) × (changes o p.var ≡ false) × (list_all (λ q. found f p q) o.conditions ≡ true)

    changes_fact_is : (g : Finds) → g.facts ≡ f.facts → (p : Pair) → number_in f p < length f.facts → changes_fact g o (number_in f p) ≡ changes o p.var
    changes_fact_is g same p low =
        ap (λ facts. option_map_or (λ (p : Pair). changes o p.var) (slice_get facts (number_in f p)) false) same
        ∙ ap (λ there. option_map_or (λ (p : Pair). changes o p.var) there false) (numbered f.facts f.starts p low)

    marked_beside : (i : ℕ) → get_or M i false ≡ (marked_or false f i i && list_all (λ j. marked_or false f j i) (numbers f o.conditions))
    marked_beside i = common_of_all (row f) (numbers f o.conditions) f.alone i ∙ ap (λ b. b && list_all (λ j. marked_or false f j i) (numbers f o.conditions)) (s.shaped.itself i)

    beside_parts : (g : Finds) → g.facts ≡ f.facts → (i : ℕ) (p : Pair) → Contains (new_beside o M g i) (number_in f p) → Beside p
    beside_parts g same i p in' =
        let n = number_in f p in
        let kept = filter_member (λ j. not (changes_fact g o j)) (places (without M (row g i))) n in' in
        let marked = (and_parts (get_or M n false) (not (get_or (row g i) n true)) (sym (without_at M (row g i) n) ∙ place_marked (without M (row g i)) n kept.0)).0 in
        let parts = and_parts (marked_or false f n n) (list_all (λ j. marked_or false f j n) (numbers f o.conditions)) (sym (marked_beside n) ∙ marked) in
        let low = (found_low f s.shaped p p parts.0).0 in (
          parts.0,
          sym (changes_fact_is g same p low) ∙ not-true (changes_fact g o n) kept.1,
          each_passes (λ q. found f p q) o.conditions (λ q in-q. s.shaped.turned (number_in f q) n (all_pass (λ j. marked_or false f j n) (numbers f o.conditions) (number_in f q) parts.1 (member_map (number_in f) o.conditions q in-q))),
        )

    -- what stands beside is chosen, or is marked already
    beside_chosen : (g : Finds) → Adds Any mid g → (i : ℕ) (p : Pair) → i < length f.facts → Beside p → Contains (new_beside o M g i) (number_in f p) ⊎ (marked_or false g i (number_in f p) ≡ true)
    beside_chosen g a i p low-i parts = by_test (cases_Bool (get_or (row g i) (number_in f p) true))
      where
        low : number_in f p < length f.facts
        low = (found_low f s.shaped p p parts.0).0

        marked : get_or M (number_in f p) false ≡ true
        marked =
            marked_beside (number_in f p) ∙ and_from (found f p p) (list_all (λ j. marked_or false f j (number_in f p)) (numbers f o.conditions)) parts.0
            (each_passes (λ j. marked_or false f j (number_in f p)) (numbers f o.conditions) (λ j in-j.
            let q = map_member (number_in f) o.conditions j in-j in
            subst (λ j. marked_or false f j (number_in f p) ≡ true) q.2 (s.shaped.turned (number_in f p) (number_in f q.0) (all_pass (λ q. found f p q) o.conditions q.0 parts.2 q.1))))

        same_facts : g.facts ≡ f.facts
        same_facts = a.facts ∙ first.facts

        in_row : number_in f p < length (row g i)
        in_row =
            let low-g : i < length g.facts = subst (λ facts. i < length facts) (sym same_facts) low-i in
            subst (λ n. number_in f p < n) (sym (a.shaped.row i low-g ∙ ap length same_facts)) low

        by_test : (get_or (row g i) (number_in f p) true ≡ true) ⊎ (get_or (row g i) (number_in f p) true ≡ false) → Contains (new_beside o M g i) (number_in f p) ⊎ (marked_or false g i (number_in f p) ≡ true)
        by_test (inl is) = inr (get_or_default (row g i) (number_in f p) false true in_row ∙ is)
        by_test (inr is) =
            inl (member_filter (λ j. not (changes_fact g o j)) (places (without M (row g i))) (number_in f p)
            (marked_place (without M (row g i)) (number_in f p) (without_at M (row g i) (number_in f p) ∙ and_from (get_or M (number_in f p) false) (not (get_or (row g i) (number_in f p) true)) marked (ap not is)))
            (ap not (changes_fact_is g same_facts p low ∙ parts.1)))

    -- what an operator that is possible leads to
    module _ (is : is_possible (found f) o ≡ true) where
      -- of a new pair both facts are found with themselves, and it is possible
      abbrev New : Pair → Pair → Type 0
      New p q = Sure p q × (found (led_to f o) p p ≡ true)

      possible_in : (has : Pairs) → HasPossible T has → is_possible has o ≡ true
      possible_in has closed = possible_by_more (found f) has o (λ p q is. s.sure p q is has closed) is

      sure_effects : (a b : Effect) → Contains o.effects a → Contains o.effects b → Sure (fact_of a) (fact_of b)
      sure_effects a b in-a in-b has closed = closed.effects o a b in-o (possible_in has closed) in-a in-b

      sure_beside : (e : Effect) (q : Pair) → Contains o.effects e → Beside q → Sure (fact_of e) q
      sure_beside e q in-e parts has closed =
          closed.effect o e q in-o (possible_in has closed) in-e parts.1 (s.sure q q parts.0 has closed)
          (all_by_more (λ r. found f q r) (λ r. has q r) o.conditions (λ r is. s.sure q r is has closed) parts.2)

      effect_itself : (e : Effect) → Contains o.effects e → found (led_to f o) (fact_of e) (fact_of e) ≡ true
      effect_itself e in-e = second.grows (fact_of e) (fact_of e) (effects_found e e in-e in-e)

      new_effects : (p q : Pair) → Contains E (number_in f p) → Contains E (number_in f q) → New p q
      new_effects p q in-p in-q =
          let a = effect_made p in-p in
          let b = effect_made q in-q in
          subst (λ p. New p q) a.2 (subst (λ q. New (fact_of a.0) q) b.2 (sure_effects a.0 b.0 a.1 b.1, effect_itself a.0 a.1))

      new_first : Adds New f mid
      new_first =
          chosen_adds New (λ g i. E) E f s.shaped (λ g same i j in-i in-j p q is-p is-q.
          let in-p = subst (Contains E) (sym is-p) in-i in
          let in-q = subst (Contains E) (sym is-q) in-j in
          (new_effects p q in-p in-q, new_effects q p in-q in-p))

      new_pair : (p q : Pair) → Contains E (number_in f p) → Beside q → New p q × New q p
      new_pair p q in-p parts =
          let e = effect_made p in-p in
          subst (λ p. New p q × New q p) e.2 (
            (sure_beside e.0 q e.1 parts, effect_itself e.0 e.1),
            ((λ has closed. closed.turned (fact_of e.0) q (sure_beside e.0 q e.1 parts has closed)), whole.grows q q parts.0),
          )

      new_second : Adds New mid (led_to f o)
      new_second =
          chosen_adds New (new_beside o M) E mid first.shaped (λ g same i j in-i in-j p q is-p is-q.
          new_pair p q (subst (Contains E) (sym is-p ∙ in_mid p) in-i) (beside_parts g (same ∙ first.facts) i q (subst (Contains (new_beside o M g i)) (sym is-q ∙ in_mid q) in-j)))

      new_whole : Adds New f (led_to f o)
      new_whole = both New f mid (led_to f o) new_first new_second

      searched_on : Searched (led_to f o)
      searched_on =
          record {
            facts = whole.facts ∙ s.facts;
            starts = whole.starts ∙ s.starts;
            shaped = whole.shaped;
            sure = λ p q is'. elim (new_whole.told p q is') [
              | inl old ↦ s.sure p q old
              | inr new ↦ new.0.0
            ];
            itself = λ p q is'. elim (new_whole.told p q is') [
              | inl old ↦ whole.grows p p (s.itself p q old)
              | inr new ↦ new.0.1
            ];
          }

      answered_on : Answered f (led_to f o) o
      answered_on =
          record {
            effects = λ is' a b in-a in-b. second.grows (fact_of a) (fact_of b) (effects_found a b in-a in-b);
            effect = λ is' e p in-e free itself all.
                let low = (found_low f s.shaped p p itself).0 in
                chosen_found (fact_of e) p (new_beside o M) E mid first.shaped (subst (Contains E) (sym (in_mid (fact_of e))) (made_effect e in-e)) (low_mid (fact_of e) (low_effect e in-e)) (low_mid p low)
                (λ g a. in_later e p g a in-e (itself, free, all));
          }
        where
          in_later : (e : Effect) (p : Pair) (g : Finds) → Adds Any mid g → Contains o.effects e → Beside p → Contains (new_beside o M g (number_in g (fact_of e))) (number_in g p) ⊎ (found g (fact_of e) p ≡ true)
          in_later e p g a in-e parts =
              let e-in-g = same_number mid g a.facts a.starts (fact_of e) ∙ in_mid (fact_of e) in
              let p-in-g = same_number mid g a.facts a.starts p ∙ in_mid p in
              subst (λ n. Contains (new_beside o M g (number_in g (fact_of e))) n ⊎ (marked_or false g (number_in g (fact_of e)) n ≡ true)) (sym p-in-g)
              (beside_chosen g a (number_in g (fact_of e)) p (subst (λ n. n < length f.facts) (sym e-in-g) (low_effect e in-e)) parts)

    pub looks : Looks f (looked f o) o
    looks = by_test (is_possible (found f) o) refl
      where
        by_test : (b : Bool) → is_possible (found f) o ≡ b → Looks f (cond b (led_to f o) f) o
        by_test true is = record { adds = whole; searched = searched_on is; answered = answered_on is }
        by_test false is =
            record {
              adds = nothing_more Any f s.shaped;
              searched = s;
              answered = record { effects = λ is'. absurd (false≢true (sym is ∙ is')); effect = λ is'. absurd (false≢true (sym is ∙ is')) };
            }
