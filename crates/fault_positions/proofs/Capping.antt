-- Parts that are counted up to a cap.
use Rattle.std.proofs.Common.{◌≡◌, ℕ, zero, suc, ◌+◌, ◌*◌, Bool, true, false, not, nat_le, List, [], ◌∷◌, ◌++◌, map, sum, Option, Some, refl, sym, ap, ◌∙◌, if◌then◌else◌, arith}
use Rattle.std.specs.Prelude.{min}
use Rattle.std.specs.List.{filter, flat_map}
use Rattle.std.proofs.lemmas.List.{map-append, append-nil}
use Rattle.std.proofs.lemmas.Grind.{flat_map-append}
use Rattle.std.proofs.lemmas.List.Sums.{fold-append}
use Rattle.pddl_lexer.specs.declared.position.At.{At}
use Rattle.fault_positions.specs.declared.sizes.CappedSize.{CappedSize}
use Rattle.fault_positions.specs.CappedSizes.{cap, capped, paired_with, listed_with, first_at, replaced_at}
use Rattle.fault_positions.specs.Positions.{earlier, earliest}
use Rattle.fault_positions.specs.Sizes.{Size, Cut, product, paired, listed, replaced_by, most_parts, too_large}
use Rattle.fault_positions.proofs.Earliest.{earliest_first, earliest_append}

-- ---- numbers

pub cap_left : (n a b : ℕ) → min (a * b) n ≡ min (min a n * b) n
cap_left n a zero = grind arith
cap_left n a (suc b) = grind arith

times_comm : (a b : ℕ) → a * b ≡ b * a
times_comm a b = grind arith

pub one_times : (n : ℕ) → 1 * n ≡ n
one_times n = omega arith

pub cap_right : (n a b : ℕ) → min (a * b) n ≡ min (a * min b n) n
cap_right n a b =
    ap (λ parts. min parts n) (times_comm a b)
    ∙ cap_left n b a
    ∙ ap (λ parts. min parts n) (times_comm (min b n) a)

pub cap_product : (n a b : ℕ) → min (a * b) n ≡ min (min a n * min b n) n
cap_product n a b =
    cap_left n a b
    ∙ cap_right n (min a n) b

cap_sum : (n a b : ℕ) → min (a + b) n ≡ min (min a n + min b n) n
cap_sum n a b = omega arith

pub le_cap : (n a : ℕ) → nat_le (min a (n + 1)) n ≡ nat_le a n
le_cap n a = grind arith

pub product_append : (xs ys : List ℕ) → product (xs ++ ys) ≡ product xs * product ys
product_append [] ys = grind arith
product_append (x ∷ xs) ys = grind (arith, product_append xs ys)

-- ---- cuts

abbrev pub cut_at : ℕ → At → Cut
cut_at parts at = record { parts = parts; at = at }

pub large_cut : (parts : ℕ) (at : At) (more : List Cut) → too_large (cut_at parts at ∷ more) ≡ (if nat_le parts most_parts then too_large more else at ∷ too_large more)
large_cut parts at more = by (nat_le parts most_parts)
  where
    by : (small : Bool) →
        map (λ (c : Cut). c.at) (if not small then cut_at parts at ∷ filter (λ c. not (nat_le c.parts most_parts)) more else filter (λ c. not (nat_le c.parts most_parts)) more)
        ≡ (if small then too_large more else at ∷ too_large more)
    by true = refl
    by false = refl

pub too_large_append : (cuts more : List Cut) → too_large (cuts ++ more) ≡ too_large cuts ++ too_large more
too_large_append [] more = refl
too_large_append (cut ∷ cuts) more =
    large_cut cut.parts cut.at (cuts ++ more)
    ∙ ap (λ positions. if nat_le cut.parts most_parts then positions else cut.at ∷ positions) (too_large_append cuts more)
    ∙ apart (nat_le cut.parts most_parts) (too_large cuts) (too_large more)
    ∙ sym (ap (λ positions. positions ++ too_large more) (large_cut cut.parts cut.at cuts))
  where
    apart : (small : Bool) (positions others : List At) → (if small then positions ++ others else cut.at ∷ positions ++ others) ≡ (if small then positions else cut.at ∷ positions) ++ others
    apart true positions others = refl
    apart false positions others = refl

pub first_append : (cuts more : List Cut) → earliest (too_large (cuts ++ more)) ≡ earlier (earliest (too_large cuts)) (earliest (too_large more))
first_append cuts more = ap earliest (too_large_append cuts more) ∙ earliest_append (too_large cuts) (too_large more)

abbrev pub size_with : ℕ → Option At → CappedSize
size_with parts first = record { parts = parts; first_too_large = first }

pub first_of_cut : (parts : ℕ) (at : At) (more : List Cut) → earliest (too_large (cut_at parts at ∷ more)) ≡ first_at (size_with (min parts cap) (earliest (too_large more))) at
first_of_cut parts at more =
    ap earliest (large_cut parts at more)
    ∙ inward (nat_le parts most_parts) (too_large more)
    ∙ ap (λ small. if small then earliest (too_large more) else earlier (Some at) (earliest (too_large more))) (sym (le_cap most_parts parts))
  where
    inward : (small : Bool) (positions : List At) → earliest (if small then positions else at ∷ positions) ≡ (if small then earliest positions else earlier (Some at) (earliest positions))
    inward true positions = refl
    inward false positions = earliest_first at positions

-- ---- sizes

pub both : (parts other : ℕ) (first another : Option At) → parts ≡ other → first ≡ another → size_with parts first ≡ size_with other another
both parts other first another same_parts same_first = ap (λ n. size_with n first) same_parts ∙ ap (size_with other) same_first

pub capped_replaced : (body : Size) (at : At) → capped (replaced_by body at) ≡ replaced_at (capped body) at
capped_replaced body at = ap (size_with 1) (first_of_cut body.parts at body.replaced)

abbrev parts_of : List Size → List ℕ
parts_of sizes = map (λ size. size.parts) sizes

replaced_append : (sizes : List Size) (size : Size) →
    earliest (too_large (flat_map (λ s. s.replaced) (sizes ++ size ∷ []))) ≡ earlier (earliest (too_large (flat_map (λ s. s.replaced) sizes))) (earliest (too_large size.replaced))
replaced_append sizes size =
    ap (λ cuts. earliest (too_large cuts)) (flat_map-append (λ (s : Size). s.replaced) sizes (size ∷ []) ∙ ap (λ cuts. flat_map (λ (s : Size). s.replaced) sizes ++ cuts) (append-nil size.replaced))
    ∙ first_append (flat_map (λ s. s.replaced) sizes) size.replaced

pub capped_paired : (sizes : List Size) (size : Size) → capped (paired (sizes ++ size ∷ [])) ≡ paired_with (capped (paired sizes)) (capped size)
capped_paired sizes size =
    both _ _ _ _
    (ap (λ (ns : List ℕ). min (product ns) cap) (map-append (λ (s : Size). s.parts) sizes (size ∷ []))
    ∙ ap (λ parts. min parts cap) (product_append (parts_of sizes) (size.parts ∷ []))
    ∙ ap (λ parts. min (product (parts_of sizes) * parts) cap) (times_one size.parts)
    ∙ cap_product cap (product (parts_of sizes)) size.parts)
    (replaced_append sizes size)
  where
    times_one : (n : ℕ) → n * 1 ≡ n
    times_one n = omega arith

pub capped_listed : (sizes : List Size) (size : Size) → capped (listed (sizes ++ size ∷ [])) ≡ listed_with (capped (listed sizes)) (capped size)
capped_listed sizes size =
    both _ _ _ _
    (ap (λ (ns : List ℕ). min (sum ns) cap) (map-append (λ (s : Size). s.parts) sizes (size ∷ []))
    ∙ ap (λ parts. min parts cap) (fold-append (λ (a b : ℕ). a + b) 0 (parts_of sizes) (size.parts ∷ []))
    ∙ cap_sum cap (sum (parts_of sizes)) size.parts)
    (replaced_append sizes size)

one_cut : (cuts : List Cut) → earliest (too_large (cuts ++ [])) ≡ earliest (too_large cuts)
one_cut cuts = ap (λ (all : List Cut). earliest (too_large all)) (append-nil cuts)

pub capped_paired_two : (size other : Size) → paired_with (capped size) (capped other) ≡ capped (paired (size ∷ other ∷ []))
capped_paired_two size other = sym (capped_paired (size ∷ []) other ∙ ap (λ s. paired_with s (capped other)) (both _ _ _ _ (times_one size.parts) (one_cut size.replaced)))
  where
    times_one : (n : ℕ) → min (n * 1) cap ≡ min n cap
    times_one n = omega arith

pub capped_listed_two : (size other : Size) → listed_with (capped size) (capped other) ≡ capped (listed (size ∷ other ∷ []))
capped_listed_two size other = sym (capped_listed (size ∷ []) other ∙ ap (λ s. listed_with s (capped other)) (both _ _ _ _ (plus_zero size.parts) (one_cut size.replaced)))
  where
    plus_zero : (n : ℕ) → min (0 + n) cap ≡ min n cap
    plus_zero n = omega arith
