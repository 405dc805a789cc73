-- Numbers that were put in order and lose their repeats are known by their members.
use Rattle.std.proofs.Common.{◌≡◌, ℕ, ◌<◌, eqb, List, refl, sym, ◌∙◌, subst, arith}
use Rattle.std.specs.List.{Contains, dedup, list_any}
use Rattle.std.specs.List.Sorted.{IsPermutation, IsSorted, IsStrictlyIncreasing}
use Rattle.std.specs.Ordering.{nat_cmp}
use Rattle.std.proofs.lemmas.Bool.{eqb-true, eq-eqb}
use Rattle.std.proofs.lemmas.List.Kept.{AllPairs-from_increasing, Contains-dedup_nat, Contains-from_dedup}
use Rattle.std.proofs.lemmas.List.Sorted.{list_any-IsPermutation}
use Rattle.std.proofs.lemmas.Map.Keys.{IsStrictlyIncreasing-dedup}
use Rattle.lists.proofs.Members.{any_member, member_any}
use Rattle.lists.proofs.Ordered.{same_ordered}

moved_member : (xs ys : List ℕ) → IsPermutation xs ys → (x : ℕ) → Contains xs x → Contains ys x
moved_member xs ys moved x in' =
    let there = any_member (λ y. eqb y x) ys (sym (list_any-IsPermutation (λ y. eqb y x) xs ys moved) ∙ member_any (λ y. eqb y x) xs x in' (eq-eqb x x refl)) in
    subst (Contains ys) (eqb-true there.0 x there.2) there.1

back_member : (xs ys : List ℕ) → IsPermutation xs ys → (x : ℕ) → Contains ys x → Contains xs x
back_member xs ys moved x in' =
    let there = any_member (λ y. eqb y x) xs (list_any-IsPermutation (λ y. eqb y x) xs ys moved ∙ member_any (λ y. eqb y x) ys x in' (eq-eqb x x refl)) in
    subst (Contains xs) (eqb-true there.0 x there.2) there.1

pub in_order : (numbers sorted target : List ℕ) → IsPermutation numbers sorted → IsSorted nat_cmp sorted → IsStrictlyIncreasing target →
    ((x : ℕ) → Contains numbers x → Contains target x) → ((x : ℕ) → Contains target x → Contains numbers x) → dedup eqb sorted ≡ target
in_order numbers sorted target moved ordered rises forth back =
    same_ordered (λ x y. x < y) (λ x y low high. omega (arith, low, high)) (dedup eqb sorted) target (AllPairs-from_increasing (dedup eqb sorted) (IsStrictlyIncreasing-dedup sorted ordered)) (AllPairs-from_increasing target rises)
    (λ x in'. forth x (back_member numbers sorted moved x (Contains-from_dedup eqb sorted x in')))
    (λ x in'. Contains-dedup_nat sorted x (moved_member numbers sorted moved x (back x in')))
