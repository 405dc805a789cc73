-- One more flag is set.
use Rattle.std.proofs.Common.{◌≡◌, ◌==◌, ◌||◌, ◌≢◌, ◌<◌, ◌+◌, ℕ, zero, suc, Bool, true, false, List, get_or, set, length, take, replicate, refl, sym, ap, ◌∙◌, subst, inl, inr}
use Rattle.std.specs.List.{list_any}
use Rattle.std.proofs.lemmas.Bool.{cases_Bool, eqb-true, eqb-false, or_right}
use Rattle.std.proofs.lemmas.List.{get_or-set_same, get_or-set_other, length-replicate, length-set, take_all}
use Rattle.std.proofs.lemmas.List.Elements.{All-get_or}
use Rattle.std.proofs.lemmas.List.Folds.{list_any_more}
use Rattle.fdr_effects.proofs.flags.flags.Goals as goal

none_set : (n k : ℕ) → get_or (replicate n false) k false ≡ false
none_set zero zero = refl
none_set zero (suc k) = refl
none_set (suc n) zero = refl
none_set (suc n) (suc k) = none_set n k

or_no : (a b : Bool) → b ≡ false → (a || b) ≡ a
or_no true b is = refl
or_no false b is = is

-- the flags after one more number
one_more : (flags : List Bool) (numbers : List ℕ) (i number : ℕ) → i < length numbers → get_or numbers i 0 < length flags → get_or flags number false ≡ list_any (λ n. n == number) (take i numbers) → get_or (set flags (get_or numbers i 0) true) number false ≡ list_any (λ n. n == number) (take (i + 1) numbers)
one_more flags numbers i number within below before =
    let x = get_or numbers i 0 in
    let so-far = list_any (λ n. n == number) (take i numbers) in
    let more = list_any_more (λ n. n == number) numbers i 0 within in
    elim (cases_Bool (x == number)) [
      | inl yes' ↦
          let here : get_or (set flags x true) number false ≡ true = subst (λ k. get_or (set flags x true) k false ≡ true) (eqb-true x number yes') (get_or-set_same flags x true false below) in
          here ∙ sym (more ∙ or_right so-far (x == number) yes')
      | inr no' ↦
          let other : number ≢ x = λ same. eqb-false x number no' (sym same) in
          get_or-set_other flags x number true false other ∙ before ∙ sym (more ∙ or_no so-far (x == number) no')
    ]

pub loop-number-init : goal.loop-number-init
loop-number-init c =
    let items = c.in_ok-flags.ensures.items_if_clones_equal (λ y same. same) in
    (ap (λ (l : List Bool). length l) items ∙ length-replicate c.args.count false, λ number. ap (λ (l : List Bool). get_or l number false) items ∙ none_set c.args.count number)

pub loop-number-preserved : goal.loop-number-preserved
loop-number-preserved c =
    let numbers = c.args.numbers.now in
    let i = c.loop-number.number-index in
    let flags = c.loop-number.flags.items in
    let count = c.loop-number.invariant.0 in
    let below = subst (λ n. get_or numbers i 0 < n) (sym count) (All-get_or (λ n. n < c.args.count) numbers i 0 c.loop-number-test.true c.requires) in
    (length-set flags (get_or numbers i 0) true ∙ count, λ number. one_more flags numbers i number c.loop-number-test.true below (c.loop-number.invariant.1 number))

pub returns : goal.returns
returns c number = c.loop-number.invariant.1 number ∙ ap (list_any (λ n. n == number)) (take_all c.loop-number.number-index c.args.numbers.now c.loop-number-test.false)
