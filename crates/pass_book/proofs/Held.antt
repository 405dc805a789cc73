-- What a book holds, and which of several kinds it lacks.
use Rattle.std.proofs.Common.{◌≡◌, ℕ, zero, suc, ◌+◌, ◌<◌, ◌≤◌, Bool, true, false, not, cond, List, [], ◌∷◌, map, length, take, drop, get_or, Some, None, refl, sym, ap, ◌∙◌, subst, arith}
use Rattle.std.specs.List.{list_any}
use Rattle.std.proofs.lemmas.Option.{none-some}
use Rattle.std.proofs.lemmas.List.{take_all, drop_more}
use Rattle.std.proofs.lemmas.List.Folds.{list_any_at}
use Rattle.lists.proofs.Items.{any_map}
use Rattle.sas_task.specs.Task.{Task}
use Rattle.pass_book.specs.declared.kind.PassKind.{PassKind}
use Rattle.pass_book.specs.Passes.{Meets, IsChain, same_kind, is_held, first_missing}

-- a pass of the kind is found, or none is
module _ {P : Type 0} (kind_of : P → PassKind) (kind : PassKind) (passes : List P) where
  pub held : (i : ℕ) (pass : P) → i < length passes → pass ≡ get_or passes i pass → same_kind (kind_of pass) kind ≡ true → true ≡ is_held (map kind_of passes) kind
  held i pass below is same =
      sym (any_map (λ k. same_kind k kind) kind_of passes ∙ list_any_at (λ p. same_kind (kind_of p) kind) passes i pass below (ap (λ p. same_kind (kind_of p) kind) (sym is) ∙ same))

  pub not_held : (i : ℕ) → length passes ≤ i → list_any (λ p. same_kind (kind_of p) kind) (take i passes) ≡ false → false ≡ is_held (map kind_of passes) kind
  not_held i past none =
      sym (any_map (λ k. same_kind k kind) kind_of passes ∙ sym (ap (list_any (λ p. same_kind (kind_of p) kind)) (take_all i passes past)) ∙ none)

pub drop_next : {X : Type 0} (xs : List X) (i : ℕ) (x : X) → i < length xs → x ≡ get_or xs i x → drop i xs ≡ x ∷ drop (i + 1) xs
drop_next xs i x below is = drop_more xs i x below ∙ ap (λ y. y ∷ drop (i + 1) xs) (sym is)

-- where none is missing, each is held
pub each_held : (held kinds : List PassKind) → first_missing held kinds ≡ None → (i : ℕ) (kind : PassKind) → i < length kinds → kind ≡ get_or kinds i kind → is_held held kind ≡ true
each_held held [] none i kind below is = absurd (omega arith)
each_held held (k ∷ kinds) none i kind below is = by_test (each_held held kinds) (is_held held k) refl none i below is
  where
    by_test : (first_missing held kinds ≡ None → (i : ℕ) (kind : PassKind) → i < length kinds → kind ≡ get_or kinds i kind → is_held held kind ≡ true) → (b : Bool) → is_held held k ≡ b → cond (not b) (Some k) (first_missing held kinds) ≡ None → (i : ℕ) → i < length (k ∷ kinds) → kind ≡ get_or (k ∷ kinds) i kind → is_held held kind ≡ true
    by_test rest false e none i below is = absurd (none-some k (sym none))
    by_test rest true e none zero below is = ap (is_held held) is ∙ e
    by_test rest true e none (suc i) below is = rest none i kind (omega arith) is

-- one pass more of a chain
pub chain_more : (kinds : List PassKind) (i : ℕ) (kind : PassKind) (task next new : Task) → i < length kinds → kind ≡ get_or kinds i kind → Meets kind task next → IsChain (drop (i + 1) kinds) next new → IsChain (drop i kinds) task new
chain_more kinds i kind task next new below is meets chain =
    subst (λ ks. IsChain ks task new) (sym (drop_next kinds i kind below is)) (next, meets, chain)
