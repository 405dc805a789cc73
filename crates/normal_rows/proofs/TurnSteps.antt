-- One thing more of what is made in turn, and of what is paired.
use Rattle.std.proofs.Common.{append-nil, append_assoc, ◌≡◌, ℕ, ◌+◌, ◌<◌, List, [], ◌∷◌, ◌++◌, map, take, length, get_or, sym, ap, ◌∙◌, arith}
use Rattle.std.proofs.lemmas.List.{map-append}
use Rattle.lists.proofs.LoopSteps.{map_next}
use Rattle.normal_task.specs.declared.parts.Part.{Part}
use Rattle.normal_task.specs.declared.parts.Fresh.{Fresh}
use Rattle.normal_task.specs.Parts.{Made, in_turn, all_of, paired}
use Rattle.normal_rows.proofs.LeftToRight.{all_of-more}
use Rattle.normal_task.proofs.Scopes.{length-append}

-- a list mapped twice, with one item more
pub twice-next : {X Y Z : Type 0} (g : Y → Z) (f : X → Y) (xs : List X) (i : ℕ) (x : X) → i < length xs → x ≡ get_or xs i x → map g (map f (take (i + 1) xs)) ≡ map g (map f (take i xs)) ++ g (f x) ∷ []
twice-next g f xs i x within is = ap (map g) (map_next xs i x within is f) ∙ map-append g (map f (take i xs)) (f x ∷ [])

module _ {A : Type 0} where
  turn-last : (makes : List (ℕ → Made A)) (make : ℕ → Made A) (next : ℕ) →
      ((in_turn (makes ++ make ∷ []) next).items ≡ (in_turn makes next).items ++ (make (next + length (in_turn makes next).fresh)).items)
      × ((in_turn (makes ++ make ∷ []) next).fresh ≡ (in_turn makes next).fresh ++ (make (next + length (in_turn makes next).fresh)).fresh)
  turn-last [] make next =
      let same : next ≡ next + length {A = Fresh} [] = omega arith in
      (append-nil (make next).items ∙ ap (λ (n : ℕ). (make n).items) same, append-nil (make next).fresh ∙ ap (λ (n : ℕ). (make n).fresh) same)
  turn-last (first ∷ makes) make next =
      let later = next + length (first next).fresh in
      let behind = in_turn makes later in
      let rest = turn-last makes make later in
      let same : later + length behind.fresh ≡ next + length ((first next).fresh ++ behind.fresh) = omega (arith, length-append (first next).fresh behind.fresh) in (
        ap (λ (l : List A). (first next).items ++ l) rest.0 ∙ sym (append_assoc (first next).items behind.items (make (later + length behind.fresh)).items)
            ∙ ap (λ (n : ℕ). ((first next).items ++ behind.items) ++ (make n).items) same,
        ap (λ (l : List Fresh). (first next).fresh ++ l) rest.1 ∙ sym (append_assoc (first next).fresh behind.fresh (make (later + length behind.fresh)).fresh)
            ∙ ap (λ (n : ℕ). ((first next).fresh ++ behind.fresh) ++ (make n).fresh) same,
      )

  -- one round of a loop that makes something of each item, and joins what it makes
  module _ (done after : List (ℕ → Made A)) (make : ℕ → Made A) (grows : after ≡ done ++ make ∷ []) (next : ℕ)
      (items : List A) (fresh : List Fresh) (are : (items ≡ (in_turn done next).items) × (fresh ≡ (in_turn done next).fresh))
      (start : ℕ) (starts : start ≡ next + length fresh) (made_items : List A) (made_fresh : List Fresh) (is_made : (made_items ≡ (make start).items) × (made_fresh ≡ (make start).fresh)) where
    at : start ≡ next + length (in_turn done next).fresh
    at = starts ∙ ap (λ (l : List Fresh). next + length l) are.1

    pub turn-more : (items' : List A) (fresh' : List Fresh) → items' ≡ items ++ made_items → fresh' ≡ fresh ++ made_fresh → (items' ≡ (in_turn after next).items) × (fresh' ≡ (in_turn after next).fresh)
    turn-more items' fresh' grown fresh_grown = (
      grown ∙ ap (λ (l : List A). l ++ made_items) are.0
          ∙ ap (λ (l : List A). (in_turn done next).items ++ l) (is_made.0 ∙ ap (λ (n : ℕ). (make n).items) at)
          ∙ sym (turn-last done make next).0 ∙ ap (λ (l : List (ℕ → Made A)). (in_turn l next).items) (sym grows),
      fresh_grown ∙ ap (λ (l : List Fresh). l ++ made_fresh) are.1
          ∙ ap (λ (l : List Fresh). (in_turn done next).fresh ++ l) (is_made.1 ∙ ap (λ (n : ℕ). (make n).fresh) at)
          ∙ sym (turn-last done make next).1 ∙ ap (λ (l : List (ℕ → Made A)). (in_turn l next).fresh) (sym grows),
    )

all-last : (around : ℕ) (makes : List (ℕ → Made Part)) (make : ℕ → Made Part) (next : ℕ) →
    (all_of around (makes ++ make ∷ []) next).fresh ≡ (all_of around makes next).fresh ++ (make (next + length (all_of around makes next).fresh)).fresh
all-last around [] make next =
    let same : next ≡ next + length {A = Fresh} [] = omega arith in
    append-nil (make next).fresh ∙ ap (λ (n : ℕ). (make n).fresh) same
all-last around (first ∷ makes) make next =
    let later = next + length (first next).fresh in
    let behind = all_of around makes later in
    let same : later + length behind.fresh ≡ next + length ((first next).fresh ++ behind.fresh) = omega (arith, length-append (first next).fresh behind.fresh) in
    ap (λ (l : List Fresh). (first next).fresh ++ l) (all-last around makes make later) ∙ sym (append_assoc (first next).fresh behind.fresh (make (later + length behind.fresh)).fresh)
    ∙ ap (λ (n : ℕ). ((first next).fresh ++ behind.fresh) ++ (make n).fresh) same

-- one round of a loop that makes parts of each item, and pairs them
module _ (around : ℕ) (done after : List (ℕ → Made Part)) (make : ℕ → Made Part) (grows : after ≡ done ++ make ∷ []) (next : ℕ)
    (items : List Part) (fresh : List Fresh) (are : (items ≡ (all_of around done next).items) × (fresh ≡ (all_of around done next).fresh))
    (start : ℕ) (starts : start ≡ next + length fresh) (made_items : List Part) (made_fresh : List Fresh) (is_made : (made_items ≡ (make start).items) × (made_fresh ≡ (make start).fresh)) where
  start-at : start ≡ next + length (all_of around done next).fresh
  start-at = starts ∙ ap (λ (l : List Fresh). next + length l) are.1

  pub pairs-more : (items' : List Part) (fresh' : List Fresh) → items' ≡ paired around items made_items → fresh' ≡ fresh ++ made_fresh →
      (items' ≡ (all_of around after next).items) × (fresh' ≡ (all_of around after next).fresh)
  pairs-more items' fresh' grown fresh_grown = (
    grown ∙ ap (λ (l : List Part). paired around l made_items) are.0
        ∙ ap (paired around (all_of around done next).items) (is_made.0 ∙ ap (λ (n : ℕ). (make n).items) start-at)
        ∙ sym (all_of-more around done make next) ∙ ap (λ (l : List (ℕ → Made Part)). (all_of around l next).items) (sym grows),
    fresh_grown ∙ ap (λ (l : List Fresh). l ++ made_fresh) are.1
        ∙ ap (λ (l : List Fresh). (all_of around done next).fresh ++ l) (is_made.1 ∙ ap (λ (n : ℕ). (make n).fresh) start-at)
        ∙ sym (all-last around done make next) ∙ ap (λ (l : List (ℕ → Made Part)). (all_of around l next).fresh) (sym grows),
  )
