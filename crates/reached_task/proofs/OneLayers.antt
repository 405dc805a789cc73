-- A reached task has at most one list of layers, and each layer is below the number of facts.
use Rattle.std.proofs.Common.{◌≡◌, ℕ, zero, suc, ◌+◌, ◌<◌, ◌≤◌, true, false, List, length, get_or, sym, ap, ◌∙◌, subst, inl, inr, arith}
use Rattle.std.specs.List.{All}
use Rattle.std.specs.Option.{option_map_or}
use Rattle.std.proofs.lemmas.Bool.{cases_lt, false≢true}
use Rattle.std.proofs.lemmas.Option.{slice_get_past}
use Rattle.std.proofs.lemmas.Grind.{same_number_lists}
use Rattle.std.proofs.lemmas.List.Elements.{All-from_get_or}
use Rattle.lists.proofs.Items.{Among, among_at}
use Rattle.reached_task.specs.declared.types.Fact.{Fact}
use Rattle.reached_task.specs.declared.types.Reached.{Reached}
use Rattle.reached_task.specs.ReachedTask.{is_derived}
use Rattle.reached_task.specs.Layers.{AreLayers}
use Rattle.reached_task.proofs.LongLists.{as_long}

pub derived_below : (facts : List Fact) (f : ℕ) → is_derived facts f ≡ true → f < length facts
derived_below facts f is =
    elim (cases_lt f (length facts)) [
      | inl below ↦ below
      | inr past ↦ absurd (false≢true (sym (ap (λ o. option_map_or (λ (fact : Fact). fact.derived) o false) (slice_get_past facts f past)) ∙ is))
    ]

-- ---- at most one

-- layers are at most any other layers
no_more : (reached : Reached) (a b : List ℕ) → AreLayers reached a → AreLayers reached b → (bound f : ℕ) → f < length a → get_or a f 0 < bound → get_or a f 0 ≤ get_or b f 0
no_more reached a b as' bs zero f below low = absurd (omega arith)
no_more reached a b as' bs (suc bound) f below low =
    elim (as'.least f below) [
      | inl none ↦ omega arith
      | inr some ↦
          let low-below : some.0 < length a = subst (λ k. some.0 < k) (sym as'.count) (derived_below reached.facts some.0 some.1.derived) in
          let f-below : f < length b = subst (λ k. f < k) (as'.count ∙ sym bs.count) below in
          let less = bs.above f some.0 f-below some.1 in
          let at : get_or a f 0 ≡ get_or a some.0 0 + 1 = some.2 in
          let before = no_more reached a b as' bs bound some.0 low-below (omega arith) in
          omega arith
    ]

pub one_layers : (reached : Reached) (a b : List ℕ) → AreLayers reached a → AreLayers reached b → a ≡ b
one_layers reached a b as' bs =
    same_number_lists a b (as'.count ∙ sym bs.count) (λ f below.
    let b-below : f < length b = subst (λ k. f < k) (as'.count ∙ sym bs.count) below in
    let there = no_more reached a b as' bs (suc (get_or a f 0)) f below (omega arith) in
    let back = no_more reached b a bs as' (suc (get_or b f 0)) f b-below (omega arith) in
    omega arith)

-- ---- below the number of facts

-- below each layer there is each smaller one
each_smaller : (reached : Reached) (layers : List ℕ) → AreLayers reached layers → (bound fact : ℕ) → fact < length layers → get_or layers fact 0 < bound → (n : ℕ) → n < suc (get_or layers fact 0) → Among n layers
each_smaller reached layers are zero fact within low n below = absurd (omega arith)
each_smaller reached layers are (suc bound) fact within low n below = elim (cases_lt n (get_or layers fact 0)) [
  | inr not ↦ let is : get_or layers fact 0 ≡ n = omega arith in subst (λ m. Among m layers) is (among_at layers fact 0 within)
  | inl smaller ↦ elim (are.least fact within) [
    | inl none ↦ absurd (omega arith)
    | inr some ↦
        let low-below : some.0 < length layers = subst (λ k. some.0 < k) (sym are.count) (derived_below reached.facts some.0 some.1.derived) in
        let at : get_or layers fact 0 ≡ get_or layers some.0 0 + 1 = some.2 in
        each_smaller reached layers are bound some.0 low-below (omega arith) n (omega arith)
  ]
]

pub small_layers : (reached : Reached) (layers : List ℕ) → AreLayers reached layers → All (λ layer. layer < length reached.facts) layers
small_layers reached layers are =
    All-from_get_or (λ (layer : ℕ). layer < length reached.facts) layers 0 (λ fact within.
    let long = as_long (suc (get_or layers fact 0)) layers (each_smaller reached layers are (suc (get_or layers fact 0)) fact within (omega arith)) in
    let count = are.count in
    omega arith)
