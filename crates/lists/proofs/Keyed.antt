-- Of a list in the order of a key, what has one key stands together.
use Rattle.std.proofs.Common.{◌≡◌, ℕ, ◌+◌, ◌<◌, ◌≤◌, true, false, eqb, ltb, leb, List, ◌++◌, append-nil, take, drop, length, get_or, sym, ap, ◌∙◌, subst, arith}
use Rattle.std.specs.List.{Contains, filter}
use Rattle.std.specs.List.Sorted.{IsNonDecreasingBy, IsPartitionPoint}
use Rattle.std.proofs.lemmas.Bool.{eqb-true, eq-eqb, ltb-true, leb-true, leb-false, ltb-false, false_from_ne_true}
use Rattle.std.proofs.lemmas.List.{take-append-drop, get_or-take, get_or-drop, length-take-le, length-drop}
use Rattle.std.proofs.lemmas.List.Elements.{filter-append}
use Rattle.lists.proofs.Members.{filter_every, filter_none}

module _ {X : Type 0} (key : X → ℕ) (value : ℕ) (items : List X) (up : IsNonDecreasingBy key items) (s k : ℕ) where
  abbrev keyed : List X → List X
  keyed = filter (λ x. eqb (key x) value)

  abbrev rest : List X
  rest = drop s items

  on_rest : IsPartitionPoint (λ p. ltb (key p) value ≡ true) (λ p. ltb (key p) value ≡ false) items s → s ≤ length items → IsPartitionPoint (λ p. leb (key p) value ≡ true) (λ p. leb (key p) value ≡ false) rest k → k ≤ length rest → take k rest ≡ keyed items
  on_rest parted within parted' within' =
      sym (ap keyed (sym (take-append-drop s items)) ∙ filter-append (λ p. eqb (key p) value) (take s items) rest
      ∙ ap (λ l. l ++ keyed rest) (filter_none (λ p. eqb (key p) value) (take s items) low)
      ∙ ap keyed (sym (take-append-drop k rest)) ∙ filter-append (λ p. eqb (key p) value) (take k rest) (drop k rest)
      ∙ ap (λ l. keyed (take k rest) ++ l) (filter_none (λ p. eqb (key p) value) (drop k rest) high)
      ∙ append-nil (keyed (take k rest))
      ∙ filter_every (λ p. eqb (key p) value) (take k rest) here)
    where
      low : (p : X) → Contains (take s items) p → eqb (key p) value ≡ false
      low p in' =
          let i = in'.0 in
          let long = length-take-le s items within in
          let below : i < s = omega (arith, in'.1) in
          let is : get_or items i p ≡ p = sym (get_or-take s items i p below) ∙ in'.2 in
          let less : key p < value = ltb-true (key p) value (subst (λ (q : X). ltb (key q) value ≡ true) is (parted.0 i p (omega arith) below)) in
          false_from_ne_true (eqb (key p) value) (λ h. let e = eqb-true (key p) value h in absurd (omega arith))

      here : (p : X) → Contains (take k rest) p → eqb (key p) value ≡ true
      here p in' =
          let i = in'.0 in
          let long = length-take-le k rest within' in
          let left = length-drop s items in
          let below : i < k = omega (arith, in'.1) in
          let at : get_or rest i p ≡ p = sym (get_or-take k rest i p below) ∙ in'.2 in
          let is : get_or items (s + i) p ≡ p = sym (get_or-drop s items i p) ∙ at in
          let most : key p ≤ value = leb-true (key p) value (subst (λ (q : X). leb (key q) value ≡ true) at (parted'.0 i p (omega arith) below)) in
          let least : value ≤ key p = ltb-false (key p) value (subst (λ (q : X). ltb (key q) value ≡ false) is (parted.1 (s + i) p (omega arith) (omega arith))) in
          eq-eqb (key p) value (omega arith)

      high : (p : X) → Contains (drop k rest) p → eqb (key p) value ≡ false
      high p in' =
          let i = in'.0 in
          let left = length-drop k rest in
          let below : k + i < length rest = omega (arith, in'.1) in
          let is : get_or rest (k + i) p ≡ p = sym (get_or-drop k rest i p) ∙ in'.2 in
          let more : value < key p = leb-false (key p) value (subst (λ (q : X). leb (key q) value ≡ false) is (parted'.1 (k + i) p (omega arith) below)) in
          false_from_ne_true (eqb (key p) value) (λ h. let e = eqb-true (key p) value h in absurd (omega arith))

  -- what stands between the two points
  pub on_is : (l : List X) → l ≡ rest → IsPartitionPoint (λ p. ltb (key p) value ≡ true) (λ p. ltb (key p) value ≡ false) items s → s ≤ length items → IsPartitionPoint (λ p. leb (key p) value ≡ true) (λ p. leb (key p) value ≡ false) l k → k ≤ length l → take k l ≡ keyed items
  on_is l is parted within parted' within' =
      ap (take k) is ∙ on_rest parted within (subst (λ r. IsPartitionPoint (λ p. leb (key p) value ≡ true) (λ p. leb (key p) value ≡ false) r k) is parted') (subst (λ r. k ≤ length r) is within')
