-- Layers, and the one above them, don't pass the number of facts.
use Rattle.std.proofs.Common.{ℕ, ◌+◌, ◌<◌, ◌≤◌, cond, max, List, [], ◌∷◌, length, get_or, sym, subst, inl, inr, arith}
use Rattle.std.specs.Prelude.{fold}
use Rattle.std.specs.List.{Contains, range_with_len}
use Rattle.std.proofs.lemmas.Bool.{cases_Bool, cond-true, cond-false}
use Rattle.lists.proofs.Members.{range_member, member_first, member_later}
use Rattle.reached_task.specs.declared.types.Reached.{Reached}
use Rattle.reached_task.specs.ReachedTask.{is_derived}
use Rattle.reached_task.specs.Layers.{AreLayers}
use Rattle.reached_task.proofs.OneLayers.{small_layers}
use Rattle.fdr_encoder.specs.Encoding.{layer_above}

-- a fold by max stays within a bound of what each member gives
fold_max_within : (g : ℕ → ℕ) (bound : ℕ) (xs : List ℕ) (start : ℕ) → start ≤ bound → ((x : ℕ) → Contains xs x → g x ≤ bound) → fold (λ n x. max n (g x)) start xs ≤ bound
fold_max_within g bound [] start low each = low
fold_max_within g bound (x ∷ xs) start low each =
    let here = each x (member_first x xs) in
    fold_max_within g bound xs (max start (g x)) (omega arith) (λ y in'. each y (member_later x y xs in'))

module _ (reached : Reached) (layers : List ℕ) (are : AreLayers reached layers) where
  pub layer_below : (f : ℕ) → f < length layers → get_or layers f 0 < length reached.facts
  layer_below f below = small_layers reached layers are f 0 below

  pub above_within : layer_above reached layers ≤ length reached.facts
  above_within =
      fold_max_within (λ fact. cond (is_derived reached.facts fact) (get_or layers fact 0 + 1) 0) (length reached.facts) (range_with_len 0 (length reached.facts)) 0 (omega arith) (λ f in'.
      let below : f < length layers = subst (λ m. f < m) (sym are.count) (range_member (length reached.facts) f in') in
      let low = layer_below f below in
      elim (cases_Bool (is_derived reached.facts f)) [
        | inl yes' ↦ subst (λ m. m ≤ length reached.facts) (sym (cond-true (is_derived reached.facts f) (get_or layers f 0 + 1) 0 yes')) (omega arith)
        | inr no' ↦ subst (λ m. m ≤ length reached.facts) (sym (cond-false (is_derived reached.facts f) (get_or layers f 0 + 1) 0 no')) (omega arith)
      ])
