-- A scope with one variable more, and its table.
use Rattle.std.proofs.Common.{◌≡◌, ℕ, suc, ◌+◌, ◌<◌, Bool, true, false, List, ◌∷◌, drop, length, get_or, Some, Bor, refl, sym, ap, ◌∙◌, arith, drop-cons, add-one, if◌then◌else◌}
use Rattle.std.specs.Option.{option_map}
use Rattle.indexmap.specs.IndexMap.{IndexMap, Updates}
use Rattle.pddl_syntax.specs.declared.types.Domain.{Domain}
use Rattle.pddl_syntax.specs.declared.types.Problem.{Problem}
use Rattle.pddl_syntax.specs.declared.types.Typed.{Typed}
use Rattle.pddl_syntax.specs.Words.{Name, is_same}
use Rattle.normal_task.specs.Numbers.{range_of}
use Rattle.normal_task.specs.Parts.{Slot, Scope, slot_of, scope_inside}
use Rattle.normal_rows.specs.InScope.{HasNumbers}

pub numbers_more : {S : Type 0} (slot : Slot) (scope : Scope) (old new : IndexMap (Bor Name) ℕ S) (key : Bor Name) (place : ℕ) → key.now ≡ slot.variable → place ≡ slot.place →
    HasNumbers scope old → Updates (λ a b. is_same a.now b.now) old new key (Some place) → HasNumbers (slot ∷ scope) new
numbers_more slot scope old new key place key_is place_is has updates name =
    let behind = option_map (λ (s : Slot). s.place) (slot_of scope name.now) in
    updates.0 name
    ∙ ap (λ o. if is_same key.now name.now then Some place else o) (has name)
    ∙ ap (λ k. if is_same k name.now then Some place else behind) key_is
    ∙ ap (λ n. if is_same slot.variable name.now then Some n else behind) place_is
    ∙ by (is_same slot.variable name.now)
  where
    by : (b : Bool) → (if b then Some slot.place else option_map (λ (s : Slot). s.place) (slot_of scope name.now)) ≡ option_map (λ (s : Slot). s.place) (if b then Some slot else slot_of scope name.now)
    by true = refl
    by false = refl

pub one_more : (domain : Domain) (problem : Problem) (variables : List Typed) (place i : ℕ) (variable : Typed) → i < length variables → variable ≡ get_or variables i variable →
    (slot : Slot) (scope scope' : Scope) → slot ≡ record { variable = variable.name.name; range = range_of domain problem variable; place = place + i } → scope' ≡ slot ∷ scope →
    scope_inside domain problem (drop (i + 1) variables) (place + (i + 1)) scope' ≡ scope_inside domain problem (drop i variables) (place + i) scope
one_more domain problem variables place i variable within is slot scope scope' slot_is grown =
    let rest = drop (i + 1) variables in
    let at : place + (i + 1) ≡ suc (place + i) = omega arith in
    ap (λ (n : ℕ). scope_inside domain problem rest n scope') at
    ∙ ap (λ (s : Scope). scope_inside domain problem rest (suc (place + i)) s) (grown ∙ ap (λ (s : Slot). s ∷ scope) slot_is)
    ∙ sym (ap (λ (l : List Typed). scope_inside domain problem l (place + i) scope) (drop_at variables i variable within is))
  where
    drop_at : (xs : List Typed) (i : ℕ) (x : Typed) → i < length xs → x ≡ get_or xs i x → drop i xs ≡ x ∷ drop (i + 1) xs
    drop_at xs i x inside is = rw (add-one, drop-cons xs i x) (ap (λ (y : Typed). y ∷ drop (suc i) xs) (sym is))
