-- Choices of one literal from each list: one more list adds its literals at the end, and a list without literals leaves no choice.
use Rattle.std.proofs.Common.{◌≡◌, ℕ, Bool, true, false, eqb, ◌&&◌, ◌||◌, List, [], ◌∷◌, ◌++◌, map, length, append-nil, append_assoc, refl, sym, ap, ◌∙◌, arith}
use Rattle.std.proofs.lemmas.List.{map-append}
use Rattle.std.proofs.lemmas.Simd.{map-map}
use Rattle.std.specs.List.{flat_map, list_any}
use Rattle.std.proofs.lemmas.Bool.{and_parts, eqb-true}
use Rattle.std.proofs.lemmas.List.Concat.{flat_map-append}
use Rattle.ground_task.specs.declared.types.Cond.{Cond}
use Rattle.fdr_effects.specs.Effects.{no_literals, is_true, is_false, both, negations, negated_choices}
use Rattle.fdr_effects.specs.Rivals.{is_no_literal}

-- the literals of three lists, in either grouping
pub both_assoc : (a b c : Cond ℕ) → both a (both b c) ≡ both (both a b) c
both_assoc a b c =
    let pos = sym (append_assoc a.positive b.positive c.positive) in
    let neg = sym (append_assoc a.negative b.negative c.negative) in
    λ i. record { positive = pos i; negative = neg i }

both_none : (a : Cond ℕ) → both a no_literals ≡ both no_literals a
both_none a =
    let pos = append-nil a.positive in
    let neg = append-nil a.negative in
    λ i. record { positive = pos i; negative = neg i }

-- one more list to choose from, at the end
module _ (ones : List (Cond ℕ)) where
  abbrev with_each : Cond ℕ → List (Cond ℕ)
  with_each choice = map (λ one. both choice one) ones

  front_in : (one : Cond ℕ) (cs : List (Cond ℕ)) → map (both one) (flat_map with_each cs) ≡ flat_map with_each (map (both one) cs)
  front_in one [] = refl
  front_in one (c ∷ cs) =
      map-append (both one) (with_each c) (flat_map with_each cs)
      ∙ ap (λ l. l ++ map (both one) (flat_map with_each cs)) (map-map (both one) (both c) ones ∙ ap (λ (h : Cond ℕ → Cond ℕ). map h ones) (λ i m. both_assoc one c m i))
      ∙ ap (λ l. with_each (both one c) ++ l) (front_in one cs)

  fronts_in : (cs fronts : List (Cond ℕ)) → flat_map (λ one. map (both one) (flat_map with_each cs)) fronts ≡ flat_map with_each (flat_map (λ one. map (both one) cs) fronts)
  fronts_in cs [] = refl
  fronts_in cs (one ∷ fronts) =
      ap (λ l. l ++ flat_map (λ one. map (both one) (flat_map with_each cs)) fronts) (front_in one cs)
      ∙ ap (λ l. flat_map with_each (map (both one) cs) ++ l) (fronts_in cs fronts)
      ∙ sym (flat_map-append with_each (map (both one) cs) (flat_map (λ one. map (both one) cs) fronts))

  alone_with : (fronts : List (Cond ℕ)) → flat_map (λ one. map (both one) (no_literals ∷ [])) fronts ≡ map (both no_literals) fronts
  alone_with [] = refl
  alone_with (one ∷ fronts) = ap (λ c. c ∷ flat_map (λ one. map (both one) (no_literals ∷ [])) fronts) (both_none one) ∙ ap (λ l. both no_literals one ∷ l) (alone_with fronts)

pub choices_more : (lists : List (Cond ℕ)) (last : Cond ℕ) → negated_choices (lists ++ last ∷ []) ≡ flat_map (λ choice. map (λ one. both choice one) (negations last)) (negated_choices lists)
choices_more [] last = alone_with (negations last) (negations last) ∙ sym (append-nil (map (both no_literals) (negations last)))
choices_more (l ∷ lists) last =
    ap (λ cs. flat_map (λ one. map (both one) cs) (negations l)) (choices_more lists last)
    ∙ fronts_in (negations last) (negated_choices lists) (negations l)

-- no choice where one of the lists has no literal
no_pieces : (ones : List (Cond ℕ)) → flat_map (λ one. map (both one) []) ones ≡ []
no_pieces [] = refl
no_pieces (one ∷ ones) = no_pieces ones

pub no_choices : (lists : List (Cond ℕ)) → list_any is_no_literal lists ≡ true → negated_choices lists ≡ []
no_choices [] some = cc
no_choices (literals ∷ lists) some = by_test (no_choices lists) (is_no_literal literals) refl some
  where
    emptied : (positive negative : List ℕ) → (eqb (length positive) 0 && eqb (length negative) 0) ≡ true →
        flat_map (λ one. map (both one) (negated_choices lists)) (map is_false positive ++ map is_true negative) ≡ []
    emptied [] [] none = refl
    emptied [] (n ∷ ns) none = let is : length (n ∷ ns) ≡ 0 = eqb-true (length (n ∷ ns)) 0 none in absurd (omega (arith, is))
    emptied (p ∷ ps) ns none =
        let is : length (p ∷ ps) ≡ 0 = eqb-true (length (p ∷ ps)) 0 (and_parts (eqb (length (p ∷ ps)) 0) (eqb (length ns) 0) none).0 in
        absurd (omega (arith, is))

    by_test : (list_any is_no_literal lists ≡ true → negated_choices lists ≡ []) → (b : Bool) → is_no_literal literals ≡ b → (b || list_any is_no_literal lists) ≡ true → negated_choices (literals ∷ lists) ≡ []
    by_test rest true is some' = emptied literals.positive literals.negative is
    by_test rest false is some' = ap (λ cs. flat_map (λ one. map (both one) cs) (negations literals)) (rest some') ∙ no_pieces (negations literals)
