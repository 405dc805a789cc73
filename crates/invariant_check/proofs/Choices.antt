-- Trying one item of each list, one list after the other.
use Rattle.std.proofs.Common.{◌≡◌, ℕ, suc, ◌+◌, ◌<◌, ◌≤◌, Bool, true, false, ◌||◌, List, [], ◌∷◌, ◌++◌, map, length, get_or, drop, sym, ap, ◌∙◌, append_assoc, arith}
use Rattle.std.specs.List.{list_any}
use Rattle.std.proofs.Math.ListN.{drop_of_length-le}
use Rattle.std.proofs.Math.Seq.{drop-cons}
use Rattle.lists.proofs.Items.{any_map, any_flat_map, same_any}
use Rattle.normal_task.specs.Meaning.{choices}

module _ {A : Type 0} (test : List A → Bool) (given : List A) where
  -- the test passes with the item behind those given, and some choice of the others
  abbrev pub tries : List (List A) → A → Bool
  tries more item = list_any (λ others. test ((given ++ item ∷ []) ++ others)) (choices more)

  split : (items : List A) (more : List (List A)) → list_any (λ others. test (given ++ others)) (choices (items ∷ more)) ≡ list_any (tries more) items
  split items more =
      any_flat_map (λ item. map (λ others. item ∷ others) (choices more)) (λ others. test (given ++ others)) items
      ∙ same_any (λ item. list_any (λ others. test (given ++ others)) (map (λ others. item ∷ others) (choices more))) (tries more) items
      (λ item there. any_map (λ others. test (given ++ others)) (λ others. item ∷ others) (choices more)
      ∙ same_any (λ others. test (given ++ item ∷ others)) (λ others. test ((given ++ item ∷ []) ++ others)) (choices more) (λ others there. ap test (sym (append_assoc given (item ∷ []) others))))

  module _ (lists : List (List A)) (at : ℕ) where
    -- the choices from there on
    abbrev some_choice : Bool
    some_choice = list_any (λ others. test (given ++ others)) (choices (drop at lists))

    module _ (items : List A) (some : at < length lists) (first : items ≡ get_or lists at items) where
      whole : some_choice ≡ list_any (tries (drop (at + 1) lists)) items
      whole =
          let step : suc at ≡ at + 1 = omega arith in
          ap (λ ls. list_any (λ others. test (given ++ others)) (choices ls)) (drop-cons lists at items some ∙ ap (λ n. get_or lists at items ∷ drop n lists) step)
          ∙ split (get_or lists at items) (drop (at + 1) lists) ∙ ap (list_any (tries (drop (at + 1) lists))) (sym first)

      module _ (index : ℕ) (other : A) (within : index < length items) (held : list_any (tries (drop (at + 1) lists)) items ≡ list_any (tries (drop (at + 1) lists)) (drop index items)) where
        here : list_any (tries (drop (at + 1) lists)) items ≡ (tries (drop (at + 1) lists) (get_or items index other) || list_any (tries (drop (at + 1) lists)) (drop (index + 1) items))
        here =
            let step : suc index ≡ index + 1 = omega arith in
            held ∙ ap (list_any (tries (drop (at + 1) lists))) (drop-cons items index other within)
            ∙ ap (λ n. tries (drop (at + 1) lists) (get_or items index other) || list_any (tries (drop (at + 1) lists)) (drop n items)) step

        pub found : tries (drop (at + 1) lists) (get_or items index other) ≡ true → true ≡ some_choice
        found passes = sym (whole ∙ here ∙ ap (λ b. b || list_any (tries (drop (at + 1) lists)) (drop (index + 1) items)) passes)

        pub next : tries (drop (at + 1) lists) (get_or items index other) ≡ false → list_any (tries (drop (at + 1) lists)) items ≡ list_any (tries (drop (at + 1) lists)) (drop (index + 1) items)
        next fails = here ∙ ap (λ b. b || list_any (tries (drop (at + 1) lists)) (drop (index + 1) items)) fails

      pub none : (index : ℕ) → length items ≤ index → list_any (tries (drop (at + 1) lists)) items ≡ list_any (tries (drop (at + 1) lists)) (drop index items) → false ≡ some_choice
      none index past held = sym (whole ∙ held ∙ ap (list_any (tries (drop (at + 1) lists))) (drop_of_length-le items past))
