-- Rows that grow at their ends: by nothing, by one item, and by the items of a list one after another.
use Rattle.std.proofs.Common.{◌≡◌, ℕ, ◌+◌, ◌<◌, ◌≤◌, cond, eqb, List, [], ◌∷◌, ◌++◌, length, map, get_or, set, take, replicate, append-nil, append_assoc, refl, sym, ap, ◌∙◌, subst, inl, inr}
use Rattle.std.specs.List.{flat_map}
use Rattle.std.proofs.lemmas.Bool.{cases_eq, eq-eqb, ne_eqb}
use Rattle.std.proofs.lemmas.List.{length-map, map-set, get_or-map, length-set, get_or-set_same, get_or-set_other, take_all, length-replicate, get_or-replicate}
use Rattle.lists.proofs.LoopSteps.{flat_map_turn}
use Rattle.lists.specs.Rows.{row_of, Adds}

module _ {X : Type 0} where
  -- what one item adds to each row
  abbrev pub at_number : ℕ → X → ℕ → List X
  at_number number item other = cond (eqb number other) (item ∷ []) []

  elsewhere : (number other : ℕ) (item : X) (row : List X) → (number ≡ other → ⊥) → row ≡ row ++ at_number number item other
  elsewhere number other item row apart = sym (ap (λ b. row ++ cond b (item ∷ []) []) (ne_eqb number other apart) ∙ append-nil row)

  pub pushed : (rows : List (List X)) (number : ℕ) (item : X) → number < length rows → Adds (at_number number item) rows (set rows number (row_of rows number ++ item ∷ []))
  pushed rows number item within =
      record {
        count = length-set rows number (row_of rows number ++ item ∷ []);
        row = λ other below. elim (cases_eq other number) [
          | inl same ↦
              ap (λ n. row_of (set rows number (row_of rows number ++ item ∷ [])) n) same
              ∙ get_or-set_same rows number (row_of rows number ++ item ∷ []) [] within
              ∙ ap (λ n. row_of rows n ++ item ∷ []) (sym same)
              ∙ ap (λ b. row_of rows other ++ cond b (item ∷ []) []) (sym (eq-eqb number other (sym same)))
          | inr apart ↦
              get_or-set_other rows number other (row_of rows number ++ item ∷ []) [] apart
              ∙ elsewhere number other item (row_of rows other) (λ same. apart (sym same))
        ];
      }

  -- the same where the rows have items
  pub pushed_at : {R : Type 0} (items : R → List X) (rows : List R) (number : ℕ) (row new : R) (item : X) (before : List (List X)) → map items rows ≡ before → number < length rows → row ≡ get_or rows number row → items new ≡ items row ++ item ∷ [] →
      Adds (at_number number item) before (map items (set rows number new))
  pushed_at items rows number row new item before same within at is =
      let old = get_or-map items rows number row [] within in
      let changed = map-set items rows number new ∙ ap (set (map items rows) number) (is ∙ ap (λ r. items r ++ item ∷ []) at ∙ ap (λ l. l ++ item ∷ []) (sym old)) in
      subst (λ b. Adds (at_number number item) b (map items (set rows number new))) same
      (subst (Adds (at_number number item) (map items rows)) (sym changed) (pushed (map items rows) number item (subst (λ n. number < n) (sym (length-map rows items)) within)))

  -- the row of one number gave up a piece at its end
  pub taken_at : {R : Type 0} (items : R → List X) (rows : List R) (number : ℕ) (row new : R) (piece : List X) (before : List (List X)) → map items rows ≡ before → number < length rows → row ≡ get_or rows number row → items row ≡ items new ++ piece →
      row_of before number ≡ row_of (map items (set rows number new)) number ++ piece
  taken_at items rows number row new piece before same within at is =
      let shorter = ap (λ view. row_of view number) (map-set items rows number new) ∙ get_or-set_same (map items rows) number (items new) [] (subst (λ n. number < n) (sym (length-map rows items)) within) in
      ap (λ view. row_of view number) (sym same) ∙ get_or-map items rows number row [] within ∙ ap items (sym at) ∙ is ∙ ap (λ l. l ++ piece) (sym shorter)

  -- and those of the others stay
  pub others_at : {R : Type 0} (items : R → List X) (rows : List R) (number : ℕ) (new : R) (before : List (List X)) → map items rows ≡ before → (other : ℕ) → (other ≡ number → ⊥) →
      row_of (map items (set rows number new)) other ≡ row_of before other
  others_at items rows number new before same other apart =
      ap (λ view. row_of view other) (map-set items rows number new) ∙ get_or-set_other (map items rows) number other (items new) [] apart ∙ ap (λ view. row_of view other) same

  pub nothing : (rows : List (List X)) → Adds (λ number. []) rows rows
  nothing rows = record { count = refl; row = λ number below. sym (append-nil (row_of rows number)) }

  pub both : (first second : ℕ → List X) (a b c : List (List X)) → Adds first a b → Adds second b c → Adds (λ number. first number ++ second number) a c
  both first second a b c one two =
      record {
        count = two.count ∙ one.count;
        row = λ number below.
            two.row number (subst (λ n. number < n) (sym one.count) below)
            ∙ ap (λ row. row ++ second number) (one.row number below)
            ∙ append_assoc (row_of a number) (first number) (second number);
      }

  module _ {Y : Type 0} (f : ℕ → Y → List X) (ys : List Y) (i : ℕ) where
    pub next : (y : Y) → i < length ys → y ≡ get_or ys i y → (a b c : List (List X)) → Adds (λ number. flat_map (f number) (take i ys)) a b → Adds (λ number. f number y) b c → Adds (λ number. flat_map (f number) (take (i + 1) ys)) a c
    next y within is a b c before one =
        record {
          count = one.count ∙ before.count;
          row = λ number below.
              flat_map_turn ys i y within is (f number) (row_of a number) (row_of b number) (row_of c number) (before.row number below)
              (one.row number (subst (λ n. number < n) (sym before.count) below));
        }

    pub all : length ys ≤ i → (a b : List (List X)) → Adds (λ number. flat_map (f number) (take i ys)) a b → Adds (λ number. flat_map (f number) ys) a b
    all past a b = subst (λ zs. Adds (λ number. flat_map (f number) zs) a b) (take_all i ys past)

  -- rows that were empty
  pub added_to_none : (count : ℕ) (piece : ℕ → List X) (rows : List (List X)) → Adds piece (replicate count []) rows → (number : ℕ) → number < count → row_of rows number ≡ piece number
  added_to_none count piece rows adds number below =
      adds.row number (subst (λ n. number < n) (sym (length-replicate count [])) below) ∙ ap (λ row. row ++ piece number) (get_or-replicate count number [] [] below)
