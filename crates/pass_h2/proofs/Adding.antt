-- Pairs are added: what is found before stays found, and what is new is of the pairs that were to be added.
use Rattle.std.proofs.Common.{◌≡◌, ◌≢◌, ℕ, ◌<◌, ◌≤◌, Bool, true, false, cond, eqb, List, [], ◌∷◌, length, get_or, set, ◌⊎◌, refl, sym, ap, ◌∙◌, subst, inl, inr, arith}
use Rattle.std.specs.List.{Contains, list_any}
use Rattle.std.proofs.lemmas.Bool.{cases_eq, cases_lt, eq-eqb, ne_eqb, false≢true}
use Rattle.std.proofs.lemmas.List.{length-set, get_or-set_same, get_or-set_other, get_or_past, get_or_default}
use Rattle.lists.proofs.Members.{no_member, member_first, member_later, member_cases}
use Rattle.sas_task.specs.declared.parts.Pair.{Pair}
use Rattle.pass_h2.specs.Facts.{number}
use Rattle.pass_h2.specs.Finds.{Finds, number_in, marked_or, found, with_place, with_mark, is_touched}
use Rattle.pass_h2.specs.Search.{with_pair, with_each, with_chosen, with_all}
use Rattle.pass_h2.proofs.Rows.{same_pair, open_in, has_place, marked_here, marked_there, same_count, row_lengths, no_more_open, fewer_open}

abbrev pub open_count : Finds → ℕ
open_count f = open_in f.rows

abbrev pub some_touched : Finds → Bool
some_touched f = list_any (λ mark. mark) f.touched

-- a row for each fact, with a place for each fact, the same marks in both orders, and the marks of each fact with itself
pub record Shaped (f : Finds) : Type 0 where
  pub rows : length f.rows ≡ length f.facts
  pub row : (i : ℕ) → i < length f.facts → length (get_or f.rows i []) ≡ length f.facts
  pub alone : length f.alone ≡ length f.facts
  pub touched : length f.touched ≡ length f.facts
  pub turned : (i j : ℕ) → marked_or false f i j ≡ true → marked_or false f j i ≡ true
  pub itself : (i : ℕ) → get_or f.alone i false ≡ marked_or false f i i

-- what is marked is of facts
pub marked_low : (f : Finds) → Shaped f → (i j : ℕ) → marked_or false f i j ≡ true → (i < length f.facts) × (j < length f.facts)
marked_low f shaped i j is =
    let at = has_place false f.rows i j (λ none. false≢true (sym none ∙ is)) in
    let low : i < length f.facts = subst (λ n. i < n) shaped.rows at.0 in
    (low, subst (λ n. j < n) (shaped.row i low) at.1)

pub found_turned : (f : Finds) → Shaped f → (p q : Pair) → found f p q ≡ true → found f q p ≡ true
found_turned f shaped p q is = shaped.turned (number_in f p) (number_in f q) is

pub found_low : (f : Finds) → Shaped f → (p q : Pair) → found f p q ≡ true → (number_in f p < length f.facts) × (number_in f q < length f.facts)
found_low f shaped p q is = marked_low f shaped (number_in f p) (number_in f q) is

-- more is found: what is new is of these pairs, and both facts of it are touched
pub record Adds (Made : Pair → Pair → Type 0) (f g : Finds) : Type 0 where
  pub facts : g.facts ≡ f.facts
  pub starts : g.starts ≡ f.starts
  pub shaped : Shaped g
  pub grows : (p q : Pair) → found f p q ≡ true → found g p q ≡ true
  pub told : (p q : Pair) → found g p q ≡ true → (found f p q ≡ true) ⊎ (Made p q × (is_touched g p ≡ true) × (is_touched g q ≡ true))
  pub keeps : (p : Pair) → is_touched f p ≡ true → is_touched g p ≡ true
  pub fewer : open_count g ≤ open_count f
  pub news : some_touched g ≡ true → (some_touched f ≡ true) ⊎ (open_count g < open_count f)

module _ (Made : Pair → Pair → Type 0) where
  pub nothing_more : (f : Finds) → Shaped f → Adds Made f f
  nothing_more f shaped =
      record {
        facts = refl;
        starts = refl;
        shaped = shaped;
        grows = λ p q is. is;
        told = λ p q is. inl is;
        keeps = λ p is. is;
        fewer = omega arith;
        news = λ is. inl is;
      }

  pub both : (f g h : Finds) → Adds Made f g → Adds Made g h → Adds Made f h
  both f g h a b =
      record {
        facts = b.facts ∙ a.facts;
        starts = b.starts ∙ a.starts;
        shaped = b.shaped;
        grows = λ p q is. b.grows p q (a.grows p q is);
        told = λ p q is. elim (b.told p q is) [
          | inr new ↦ inr new
          | inl old ↦ elim (a.told p q old) [
            | inl older ↦ inl older
            | inr new ↦ inr (new.0, b.keeps p new.1, b.keeps q new.2)
          ]
        ];
        keeps = λ p is. b.keeps p (a.keeps p is);
        fewer = let x = a.fewer in let y = b.fewer in omega (arith, x, y);
        news = λ is. let x = a.fewer in let y = b.fewer in elim (b.news is) [
          | inr less ↦ inr (omega (arith, x, less))
          | inl before ↦ elim (a.news before) [
            | inl first ↦ inl first
            | inr less ↦ inr (omega (arith, y, less))
          ]
        ];
      }

kept_true : (marks : List Bool) (i j : ℕ) → get_or marks j false ≡ true → get_or (set marks i true) j false ≡ true
kept_true marks i j is =
    elim (cases_eq j i) [
      | inr differ ↦ get_or-set_other marks i j true false differ ∙ is
      | inl same ↦ elim (cases_lt i (length marks)) [
        | inl low ↦ ap (λ n. get_or (set marks i true) n false) same ∙ get_or-set_same marks i true false low
        | inr past ↦ absurd (false≢true (sym (ap (λ n. get_or marks n false) same ∙ get_or_past marks i false past) ∙ is))
      ]
    ]

-- the numbers of facts stay as they are
pub same_number : (f g : Finds) → g.facts ≡ f.facts → g.starts ≡ f.starts → (p : Pair) → number_in g p ≡ number_in f p
same_number f g facts starts p = ap (λ xs. number xs g.starts p) facts ∙ ap (λ xs. number f.facts xs p) starts

-- the facts with these numbers are to be paired, in each order
abbrev pub Pairing : (Made : Pair → Pair → Type 0) → Finds → ℕ → ℕ → Type 0
Pairing Made f i j = (p q : Pair) → number_in f p ≡ i → number_in f q ≡ j → Made p q × Made q p

-- one pair more
module _ (Made : Pair → Pair → Type 0) (f : Finds) (shaped : Shaped f) (i j : ℕ) (made : Pairing Made f i j) where
  module _ (is-open : marked_or true f i j ≡ false) where
    abbrev new : Finds
    new = with_mark f i j

    -- the rows with the first of the two marks
    abbrev first : List (List Bool)
    first = with_place f.rows i j

    place : (i < length f.rows) × (j < length (get_or f.rows i []))
    place = has_place true f.rows i j (λ is. false≢true (sym is-open ∙ is))

    low : (i < length f.facts) × (j < length f.facts)
    low = let low_i = subst (λ n. i < n) shaped.rows place.0 in (low_i, subst (λ n. j < n) (shaped.row i low_i) place.1)

    place_turned : (j < length first) × (i < length (get_or first j []))
    place_turned =
        (subst (λ n. j < n) (sym (same_count f.rows i j place.0 place.1 ∙ shaped.rows)) low.1, subst (λ n. i < n) (sym (row_lengths f.rows i j place.0 place.1 j ∙ shaped.row j low.1)) low.0)

    -- other pairs are as before
    kept : (a b : ℕ) → ((a ≡ i) → (b ≡ j) → ⊥) → ((a ≡ j) → (b ≡ i) → ⊥) → marked_or false new a b ≡ marked_or false f a b
    kept a b apart turned = marked_there first j i place_turned.0 place_turned.1 false a b turned ∙ marked_there f.rows i j place.0 place.1 false a b apart

    marked_turned : marked_or false new j i ≡ true
    marked_turned = marked_here first j i place_turned.0 place_turned.1 false

    marked_new : marked_or false new i j ≡ true
    marked_new =
        elim (same_pair j i i j) [
          | inl same ↦ ap (λ n. marked_or false new n j) same.0 ∙ ap (λ n. marked_or false new j n) same.1 ∙ marked_turned
          | inr apart ↦ marked_there first j i place_turned.0 place_turned.1 false i j apart ∙ marked_here f.rows i j place.0 place.1 false
        ]

    new_at : (a b : ℕ) → a ≡ i → b ≡ j → marked_or false new a b ≡ true
    new_at a b is-a is-b = ap (λ n. marked_or false new n b) is-a ∙ ap (λ n. marked_or false new i n) is-b ∙ marked_new

    turned_at : (a b : ℕ) → a ≡ j → b ≡ i → marked_or false new a b ≡ true
    turned_at a b is-a is-b = ap (λ n. marked_or false new n b) is-a ∙ ap (λ n. marked_or false new j n) is-b ∙ marked_turned

    -- two numbers are those of the new pair, in one order or the other, or stand as before
    new_or_kept : (a b : ℕ) → ((a ≡ i) × (b ≡ j)) ⊎ (((a ≡ j) × (b ≡ i)) ⊎ (marked_or false new a b ≡ marked_or false f a b))
    new_or_kept a b =
        elim (same_pair i j a b) [
          | inl same ↦ inl same
          | inr apart ↦ elim (same_pair j i a b) [
            | inl turned ↦ inr (inl turned)
            | inr other ↦ inr (inr (kept a b apart other))
          ]
        ]

    grows_at : (a b : ℕ) → marked_or false f a b ≡ true → marked_or false new a b ≡ true
    grows_at a b is =
        elim (new_or_kept a b) [
          | inl w ↦ new_at a b w.0 w.1
          | inr other ↦ elim other [
            | inl w ↦ turned_at a b w.0 w.1
            | inr same ↦ same ∙ is
          ]
        ]

    turned_new : (a b : ℕ) → marked_or false new a b ≡ true → marked_or false new b a ≡ true
    turned_new a b is =
        elim (new_or_kept a b) [
          | inl w ↦ turned_at b a w.1 w.0
          | inr other ↦ elim other [
            | inl w ↦ new_at b a w.1 w.0
            | inr same ↦ grows_at b a (shaped.turned a b (sym same ∙ is))
          ]
        ]

    -- the marks of each fact with itself
    itself_new : (k : ℕ) → get_or new.alone k false ≡ marked_or false new k k
    itself_new k = by_order (cases_eq i j)
      where
        by_place : i ≡ j → (k ≡ i) ⊎ (k ≢ i) → get_or (set f.alone i true) k false ≡ marked_or false new k k
        by_place same (inl here) =
            ap (λ n. get_or (set f.alone i true) n false) here ∙ get_or-set_same f.alone i true false (subst (λ n. i < n) (sym shaped.alone) low.0) ∙ sym (new_at k k here (here ∙ same))
        by_place same (inr other) = get_or-set_other f.alone i k true false other ∙ shaped.itself k ∙ sym (kept k k (λ a b. other a) (λ a b. other b))

        by_order : (i ≡ j) ⊎ (i ≢ j) → get_or new.alone k false ≡ marked_or false new k k
        by_order (inl same) = ap (λ b. get_or (cond b (set f.alone i true) f.alone) k false) (eq-eqb i j same) ∙ by_place same (cases_eq k i)
        by_order (inr differ) =
            ap (λ b. get_or (cond b (set f.alone i true) f.alone) k false) (ne_eqb i j differ) ∙ shaped.itself k ∙ sym (kept k k (λ a b. differ (sym a ∙ b)) (λ a b. differ (sym b ∙ a)))

    alone_count : (b : Bool) → length (cond b (set f.alone i true) f.alone) ≡ length f.facts
    alone_count true = length-set f.alone i true ∙ shaped.alone
    alone_count false = shaped.alone

    shaped_new : Shaped new
    shaped_new =
        record {
          rows = same_count first j i place_turned.0 place_turned.1 ∙ same_count f.rows i j place.0 place.1 ∙ shaped.rows;
          row = λ k below. row_lengths first j i place_turned.0 place_turned.1 k ∙ row_lengths f.rows i j place.0 place.1 k ∙ shaped.row k below;
          alone = alone_count (eqb i j);
          touched = length-set (set f.touched i true) j true ∙ length-set f.touched i true ∙ shaped.touched;
          turned = turned_new;
          itself = itself_new;
        }

    touched_i : get_or new.touched i false ≡ true
    touched_i = kept_true (set f.touched i true) j i (get_or-set_same f.touched i true false (subst (λ n. i < n) (sym shaped.touched) low.0))

    touched_j : get_or new.touched j false ≡ true
    touched_j = get_or-set_same (set f.touched i true) j true false (subst (λ n. j < n) (sym (length-set f.touched i true ∙ shaped.touched)) low.1)

    touched_at : (a : Pair) (k : ℕ) → number_in f a ≡ k → get_or new.touched k false ≡ true → is_touched new a ≡ true
    touched_at a k is there = ap (λ n. get_or new.touched n false) is ∙ there

    less : open_count new < open_count f
    less =
        let one = fewer_open f.rows i j place.0 place.1 is-open in
        let two = no_more_open first j i place_turned.0 place_turned.1 in
        omega (arith, one, two)

    one_new : Adds Made f new
    one_new =
        record {
          facts = refl;
          starts = refl;
          shaped = shaped_new;
          grows = λ a b is. grows_at (number_in f a) (number_in f b) is;
          told = λ a b is. elim (new_or_kept (number_in f a) (number_in f b)) [
            | inl w ↦ inr ((made a b w.0 w.1).0, touched_at a i w.0 touched_i, touched_at b j w.1 touched_j)
            | inr other ↦ elim other [
              | inl w ↦ inr ((made b a w.1 w.0).1, touched_at a j w.0 touched_j, touched_at b i w.1 touched_i)
              | inr same ↦ inl (sym same ∙ is)
            ]
          ];
          keeps = λ a is. kept_true (set f.touched i true) j (number_in f a) (kept_true f.touched i (number_in f a) is);
          fewer = let l = less in omega (arith, l);
          news = λ is. inr less;
        }

  pub one_pair : Adds Made f (with_pair f i j)
  one_pair = by_test (marked_or true f i j) refl
    where
      by_test : (b : Bool) → marked_or true f i j ≡ b → Adds Made f (cond b f (with_mark f i j))
      by_test true is = nothing_more Made f shaped
      by_test false is = one_new is

  -- and it is found, if both are facts
  pub pair_found : (p q : Pair) → number_in f p ≡ i → number_in f q ≡ j → i < length f.facts → j < length f.facts → found (with_pair f i j) p q ≡ true
  pair_found p q is-p is-q low-p low-q = by_test (marked_or true f i j) refl
    where
      by_test : (b : Bool) → marked_or true f i j ≡ b → found (cond b f (with_mark f i j)) p q ≡ true
      by_test true is =
          ap (λ n. marked_or false f n (number_in f q)) is-p ∙ ap (λ n. marked_or false f i n) is-q
          ∙ get_or_default (get_or f.rows i []) j false true (subst (λ n. j < n) (sym (shaped.row i low-p)) low-q) ∙ is
      by_test false is = new_at is (number_in f p) (number_in f q) is-p is-q

-- ---- a fact with each of others, and each of some facts with each of others

module _ (Made : Pair → Pair → Type 0) where
  later : (f g : Finds) → Adds Made f g → (i j : ℕ) → Pairing Made f i j → Pairing Made g i j
  later f g a i j made p q is-p is-q = made p q (sym (same_number f g a.facts a.starts p) ∙ is-p) (sym (same_number f g a.facts a.starts q) ∙ is-q)

  pub each_adds : (i : ℕ) (js : List ℕ) (f : Finds) → Shaped f → ((j : ℕ) → Contains js j → Pairing Made f i j) → Adds Made f (with_each i f js)
  each_adds i [] f shaped made = nothing_more Made f shaped
  each_adds i (j ∷ js) f shaped made =
      let one = one_pair Made f shaped i j (made j (member_first j js)) in
      both Made f (with_pair f i j) (with_each i (with_pair f i j) js) one (each_adds i js (with_pair f i j) one.shaped (λ k in'. later f (with_pair f i j) one i k (made k (member_later j k js in'))))

  pub chosen_adds : (chosen : Finds → ℕ → List ℕ) (is : List ℕ) (f : Finds) → Shaped f → ((g : Finds) → g.facts ≡ f.facts → (i j : ℕ) → Contains is i → Contains (chosen g i) j → Pairing Made f i j) → Adds Made f (with_chosen chosen f is)
  chosen_adds chosen [] f shaped made = nothing_more Made f shaped
  chosen_adds chosen (i ∷ is) f shaped made =
      let next = with_each i f (chosen f i) in
      let one = each_adds i (chosen f i) f shaped (λ j in'. made f refl i j (member_first i is) in') in
      both Made f next (with_chosen chosen next is) one (chosen_adds chosen is next one.shaped (λ g same k j in-k in-j. later f next one k j (made g (same ∙ one.facts) k j (member_later i k is in-k) in-j)))

-- any pair
abbrev pub Any : Pair → Pair → Type 0
Any p q = p ≡ p

-- where any pair may be added
pub any_pair : (f : Finds) (i j : ℕ) → Pairing Any f i j
any_pair f i j p q is-p is-q = (refl, refl)

-- two facts whose numbers are in these lists are found together
module _ (p q : Pair) where
  module _ (f g : Finds) (a : Adds Any f g) where
    number-p : number_in g p ≡ number_in f p
    number-p = same_number f g a.facts a.starts p

    number-q : number_in g q ≡ number_in f q
    number-q = same_number f g a.facts a.starts q

    still_low : (r : Pair) → number_in f r < length f.facts → number_in g r < length g.facts
    still_low r low = subst (λ n. n < length g.facts) (sym (same_number f g a.facts a.starts r)) (subst (λ facts. number_in f r < length facts) (sym a.facts) low)

  pub each_found : (i : ℕ) (js : List ℕ) (f : Finds) → Shaped f → number_in f p ≡ i → Contains js (number_in f q) → number_in f p < length f.facts → number_in f q < length f.facts → found (with_each i f js) p q ≡ true
  each_found i [] f shaped is in' low-p low-q = absurd (no_member (number_in f q) in')
  each_found i (j ∷ js) f shaped is in' low-p low-q =
      by_cases (λ there. each_found i js (with_pair f i j) one.shaped (number-p f (with_pair f i j) one ∙ is) (subst (Contains js) (sym (number-q f (with_pair f i j) one)) there) (still_low f (with_pair f i j) one p low-p) (still_low f (with_pair f i j) one q low-q))
      (member_cases j (number_in f q) js in')
    where
      one : Adds Any f (with_pair f i j)
      one = one_pair Any f shaped i j (any_pair f i j)

      by_cases : (Contains js (number_in f q) → found (with_each i (with_pair f i j) js) p q ≡ true) → (j ≡ number_in f q) ⊎ Contains js (number_in f q) → found (with_each i (with_pair f i j) js) p q ≡ true
      by_cases rest (inr there) = rest there
      by_cases rest (inl same) =
          (each_adds Any i js (with_pair f i j) one.shaped (λ k in'. any_pair (with_pair f i j) i k)).grows p q
          (pair_found Any f shaped i j (any_pair f i j) p q is (sym same) (subst (λ n. n < length f.facts) is low-p) (subst (λ n. n < length f.facts) (sym same) low-q))

  -- where the second is among those that are chosen for the first, or is found with it already
  pub chosen_found : (chosen : Finds → ℕ → List ℕ) (is : List ℕ) (f : Finds) → Shaped f → Contains is (number_in f p) → number_in f p < length f.facts → number_in f q < length f.facts → ((g : Finds) → Adds Any f g → Contains (chosen g (number_in g p)) (number_in g q) ⊎ (found g p q ≡ true)) → found (with_chosen chosen f is) p q ≡ true
  chosen_found chosen [] f shaped in-p low-p low-q covers = absurd (no_member (number_in f p) in-p)
  chosen_found chosen (i ∷ is) f shaped in-p low-p low-q covers =
      by_cases (λ there. chosen_found chosen is (with_each i f (chosen f i)) one.shaped (subst (Contains is) (sym (number-p f (with_each i f (chosen f i)) one)) there) (still_low f (with_each i f (chosen f i)) one p low-p) (still_low f (with_each i f (chosen f i)) one q low-q) (λ g a. covers g (both Any f (with_each i f (chosen f i)) g one a)))
      (member_cases i (number_in f p) is in-p)
    where
      one : Adds Any f (with_each i f (chosen f i))
      one = each_adds Any i (chosen f i) f shaped (λ j in'. any_pair f i j)

      here : i ≡ number_in f p → Contains (chosen f (number_in f p)) (number_in f q) ⊎ (found f p q ≡ true) → found (with_each i f (chosen f i)) p q ≡ true
      here same (inl in-q) = each_found i (chosen f i) f shaped (sym same) (subst (λ n. Contains (chosen f n) (number_in f q)) (sym same) in-q) low-p low-q
      here same (inr before) = one.grows p q before

      by_cases : (Contains is (number_in f p) → found (with_chosen chosen (with_each i f (chosen f i)) is) p q ≡ true) → (i ≡ number_in f p) ⊎ Contains is (number_in f p) → found (with_chosen chosen (with_each i f (chosen f i)) is) p q ≡ true
      by_cases rest (inr there) = rest there
      by_cases rest (inl same) =
          (chosen_adds Any chosen is (with_each i f (chosen f i)) one.shaped (λ g same k j a b. any_pair (with_each i f (chosen f i)) k j)).grows p q (here same (covers f (nothing_more Any f shaped)))

  pub all_found : (is js : List ℕ) (f : Finds) → Shaped f → Contains is (number_in f p) → Contains js (number_in f q) → number_in f p < length f.facts → number_in f q < length f.facts → found (with_all js f is) p q ≡ true
  all_found is js f shaped in-p in-q low-p low-q = chosen_found (λ g i. js) is f shaped in-p low-p low-q (λ g a. inl (subst (Contains js) (sym (same_number f g a.facts a.starts q)) in-q))
