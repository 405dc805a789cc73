-- Tables whose keys hold lists of numbers, after one key has got a value.
use Rattle.std.proofs.Common.{◌≡◌, ℕ, Bool, true, false, ◌++◌, List, [], ◌∷◌, Some, None, map, refl, sym, ap, ◌∙◌, subst, if◌then◌else◌}
use Rattle.std.specs.Prelude.{unwrap_or}
use Rattle.std.specs.Option.{option_map}
use Rattle.std.specs.Map.{lookup, IsKeyTest, AreApart, KeepsOthers}
use Rattle.std.proofs.lemmas.Cmp.{nat_list_eq_equiv}
use Rattle.names.specs.Names.{is_same}
use Rattle.names.proofs.SameNames.{same_name}
use Rattle.ground_task.specs.Buckets.{numbers_in}

module _ {Key Value Told : Type 0} (held : Key → List ℕ) (tells : Value → Told) where
  -- the entries as contracts see them
  abbrev pub seen : List (Key × Value) → List (List ℕ × Told)
  seen entries = map (λ entry. (held entry.0, tells entry.1)) entries

  pub lookup-seen : (test : List ℕ → Bool) (entries : List (Key × Value)) → lookup test (seen entries) ≡ option_map tells (lookup (λ key. test (held key)) entries)
  lookup-seen test [] = refl
  lookup-seen test (entry ∷ entries) = by (test (held entry.0)) (lookup-seen test entries)
    where
      by : (b : Bool) → lookup test (seen entries) ≡ option_map tells (lookup (λ key. test (held key)) entries) →
          (if b then Some (tells entry.1) else lookup test (seen entries)) ≡ option_map tells (if b then Some entry.1 else lookup (λ key. test (held key)) entries)
      by true rest = refl
      by false rest = rest

  others : (old new : List (Key × Value)) (test : Key → Bool) → KeepsOthers (λ a b. is_same (held a) (held b)) test old new → (other : Key → Bool) → IsKeyTest (λ a b. is_same (held a) (held b)) other → AreApart test other → lookup other new ≡ lookup other old
  unfolding KeepsOthers
  others old new test keeps = keeps

  -- the key has the value, and each other key what it had
  pub after_change : (instance : List ℕ) (old new : List (Key × Value)) (value : Value) → lookup (λ key. is_same instance (held key)) new ≡ Some value → KeepsOthers (λ a b. is_same (held a) (held b)) (λ key. is_same instance (held key)) old new →
      (other : List ℕ) → lookup (is_same other) (seen new) ≡ (if is_same other instance then Some (tells value) else lookup (is_same other) (seen old))
  after_change instance old new value has keeps other = lookup-seen (is_same other) new ∙ by (is_same other instance) refl
    where
      apart : is_same other instance ≡ false → (key : Key) → is_same instance (held key) ≡ true → is_same other (held key) ≡ false
      apart differs key same = subst (λ (l : List ℕ). is_same other l ≡ false) (same_name instance (held key) same) differs

      by : (b : Bool) → is_same other instance ≡ b → option_map tells (lookup (λ key. is_same other (held key)) new) ≡ (if b then Some (tells value) else lookup (is_same other) (seen old))
      by true same = ap (λ l. option_map tells (lookup (λ key. is_same l (held key)) new)) (same_name other instance same) ∙ ap (option_map tells) has
      by false differs =
          ap (option_map tells) (others old new (λ key. is_same instance (held key)) keeps (λ key. is_same other (held key)) (λ x y. nat_list_eq_equiv.congr other (held x) (held y)) (apart differs))
          ∙ sym (lookup-seen (is_same other) old)

module _ {Key Value : Type 0} (held : Key → List ℕ) (tells : Value → List ℕ) (instance : List ℕ) (old : List (Key × Value)) (entries : List (List ℕ × List ℕ)) (is : seen held tells old ≡ entries) where
  -- what a look-up finds
  pub numbers-found : numbers_in entries instance ≡ unwrap_or (option_map tells (lookup (λ key. is_same instance (held key)) old)) []
  numbers-found = ap (λ o. unwrap_or o []) (ap (lookup (is_same instance)) (sym is) ∙ lookup-seen held tells (is_same instance) old)

  pub numbers-some : (value : Value) → lookup (λ key. is_same instance (held key)) old ≡ Some value → numbers_in entries instance ≡ tells value
  numbers-some value found = numbers-found ∙ ap (λ o. unwrap_or (option_map tells o) []) found

  pub numbers-none : lookup (λ key. is_same instance (held key)) old ≡ None → numbers_in entries instance ≡ []
  numbers-none missing = numbers-found ∙ ap (λ o. unwrap_or (option_map tells o) []) missing

  -- one fact more of the instance
  pub numbered : (new : List (Key × Value)) (value : Value) (number : ℕ) → tells value ≡ numbers_in entries instance ++ number ∷ [] →
      lookup (λ key. is_same instance (held key)) new ≡ Some value → KeepsOthers (λ a b. is_same (held a) (held b)) (λ key. is_same instance (held key)) old new →
      (other : List ℕ) → numbers_in (seen held tells new) other ≡ (if is_same other instance then numbers_in entries other ++ number ∷ [] else numbers_in entries other)
  numbered new value number more has keeps other =
      ap (λ o. unwrap_or o []) (after_change held tells instance old new value has keeps other ∙ ap (λ es. if is_same other instance then Some (tells value) else lookup (is_same other) es) is)
      ∙ by (is_same other instance) refl
    where
      by : (b : Bool) → is_same other instance ≡ b → unwrap_or (if b then Some (tells value) else lookup (is_same other) entries) [] ≡ (if b then numbers_in entries other ++ number ∷ [] else numbers_in entries other)
      by true same = more ∙ ap (λ l. numbers_in entries l ++ number ∷ []) (sym (same_name other instance same))
      by false differs = refl
