-- Weights of instances, which keys hold.
use Rattle.std.proofs.Common.{◌≡◌, ℕ, Bool, true, false, List, Option, Some, None, refl, sym, ap, ◌∙◌, if◌then◌else◌}
use Rattle.std.specs.Option.{option_map}
use Rattle.std.specs.Map.{lookup, KeepsOthers}
use Rattle.names.specs.Names.{is_same}
use Rattle.names.proofs.SameNames.{same_name}
use Rattle.mutex_groups.specs.declared.tables.Weight.{Weight}
use Rattle.ground_task.proofs.KeyTables.{seen, lookup-seen, after_change}
use Rattle.mutex_groups.specs.Found.{told_more, weight_in}

module _ {Key : Type 0} (held : Key → List ℕ) (instance : List ℕ) (old : List (Key × Weight)) (entries : List (List ℕ × Weight)) (is : seen held (λ w. w) old ≡ entries) where
  -- what a look-up finds
  pub weight-found : weight_in entries instance ≡ lookup (λ key. is_same instance (held key)) old
  weight-found = ap (lookup (is_same instance)) (sym is) ∙ lookup-seen held (λ w. w) (is_same instance) old ∙ itself (lookup (λ key. is_same instance (held key)) old)
    where
      itself : (o : Option Weight) → option_map (λ w. w) o ≡ o
      itself None = refl
      itself (Some w) = refl

  -- one atom more of the instance
  pub counted : (new : List (Key × Weight)) (weight : Weight) → Some weight ≡ told_more (weight_in entries instance) →
      lookup (λ key. is_same instance (held key)) new ≡ Some weight → KeepsOthers (λ a b. is_same (held a) (held b)) (λ key. is_same instance (held key)) old new →
      (other : List ℕ) → weight_in (seen held (λ w. w) new) other ≡ (if is_same other instance then told_more (weight_in entries other) else weight_in entries other)
  counted new weight more has keeps other =
      after_change held (λ w. w) instance old new weight has keeps other
      ∙ ap (λ es. if is_same other instance then Some weight else weight_in es other) is ∙ by (is_same other instance) refl
    where
      by : (b : Bool) → is_same other instance ≡ b → (if b then Some weight else weight_in entries other) ≡ (if b then told_more (weight_in entries other) else weight_in entries other)
      by true same = more ∙ ap (λ l. told_more (weight_in entries l)) (sym (same_name other instance same))
      by false differs = refl
