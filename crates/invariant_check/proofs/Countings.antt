-- One more counted position.
use Rattle.std.proofs.Common.{◌≡◌, ℕ, ◌+◌, List, [], ◌∷◌, ◌++◌, map, sym, ap, ◌∙◌, arith, append-nil, append_assoc}
use Rattle.std.specs.Prelude.{Option, Some, None}
use Rattle.std.specs.List.{flat_map, range_with_len}
use Rattle.std.proofs.lemmas.List.{map-append}
use Rattle.std.proofs.lemmas.List.Concat.{flat_map-append}
use Rattle.lists.proofs.LoopSteps.{range_next}
use Rattle.invariant_check.specs.Extensions.{countings}

countings_next : (n : ℕ) → countings (n + 1) ≡ countings n ++ Some n ∷ []
countings_next n =
    let e : 0 + n ≡ n = omega arith in
    ap (λ l. None ∷ map Some l) (range_next 0 n ∙ ap (λ m. range_with_len 0 n ++ m ∷ []) e)
    ∙ ap (λ l. None ∷ l) (map-append Some (range_with_len 0 n) (n ∷ []))

pub one_more_counted : {X : Type 0} (f : Option ℕ → X) (start before after : List X) (n : ℕ) →
    after ≡ before ++ f (Some n) ∷ [] → before ≡ start ++ map f (countings n) → after ≡ start ++ map f (countings (n + 1))
one_more_counted f start before after n pushed so_far =
    pushed
    ∙ ap (λ l. l ++ f (Some n) ∷ []) so_far
    ∙ append_assoc start (map f (countings n)) (f (Some n) ∷ [])
    ∙ ap (λ l. start ++ l) (sym (map-append f (countings n) (Some n ∷ [])) ∙ ap (map f) (sym (countings_next n)))

pub all_more_counted : {X : Type 0} (f : Option ℕ → List X) (start before after : List X) (n : ℕ) →
    after ≡ before ++ f (Some n) → before ≡ start ++ flat_map f (countings n) → after ≡ start ++ flat_map f (countings (n + 1))
all_more_counted f start before after n pushed so_far =
    pushed
    ∙ ap (λ l. l ++ f (Some n)) so_far
    ∙ append_assoc start (flat_map f (countings n)) (f (Some n))
    ∙ ap (λ l. start ++ l) (
    ap (λ l. flat_map f (countings n) ++ l) (sym (append-nil (f (Some n))))
    ∙ sym (flat_map-append f (countings n) (Some n ∷ []))
    ∙ ap (flat_map f) (sym (countings_next n)))
