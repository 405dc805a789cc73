-- A list of items each once: no two of them are the same.
use Rattle.std.proofs.Common.{append-nil, ◌≡◌, ℕ, Bool, true, false, not, ◌&&◌, ◌||◌, List, [], ◌∷◌, ◌++◌, inl, inr, refl, sym, ap, ◌∙◌, subst}
use Rattle.std.specs.Prelude.{nat_eq, if◌then◌else◌}
use Rattle.std.specs.Cmp.Lexicographic.{pointwise}
use Rattle.std.specs.List.{list_all, list_any}
use Rattle.std.proofs.lemmas.Bool.{and_parts, and_from, or_parts, true≢false, eqb-true}
use Rattle.std.proofs.lemmas.List.Folds.{list_any-append}
use Rattle.std.proofs.lemmas.Cmp.{nat_eq_equiv, lists_equiv}
use Rattle.pddl_syntax.specs.declared.types.Domain.{Domain}
use Rattle.pddl_syntax.specs.declared.types.Problem.{Problem}
use Rattle.lists.proofs.Items.{Among, any_passes, none_passes, passing}
use Rattle.normal_task.specs.declared.task.GroundAtom.{GroundAtom}
use Rattle.normal_task.specs.declared.task.ValueRow.{ValueRow}
use Rattle.normal_task.specs.Lawful.{differ}
use Rattle.names.proofs.SameNames.{same_name}
use Rattle.normal_task.specs.Meaning.{atom_of, is_same_atom, is_same_value}
use Rattle.normal_task.specs.Normalised.{once_after}

module _ (domain : Domain) (problem : Problem) {A : Type 0} (same : A → A → Bool) where
  -- what passes a test passes it still
  pub once-passes : (test : A → Bool) (before items : List A) → list_all test items ≡ true → list_all test (once_after domain problem same before items) ≡ true
  once-passes test before [] all = refl
  once-passes test before (item ∷ items) all =
      let parts = and_parts (test item) (list_all test items) all in
      by (list_any (same item) before) parts.0 (once-passes test before items parts.1) (once-passes test (item ∷ before) items parts.1)
    where
      by : (b : Bool) → test item ≡ true → list_all test (once_after domain problem same before items) ≡ true → list_all test (once_after domain problem same (item ∷ before) items) ≡ true →
          list_all test (if b then once_after domain problem same before items else item ∷ once_after domain problem same (item ∷ before) items) ≡ true
      by true here left kept = left
      by false here left kept = and_from (test item) (list_all test (once_after domain problem same (item ∷ before) items)) here kept

  -- what is kept is the same as nothing before
  once-new : (before items : List A) (item : A) → Among item (once_after domain problem same before items) → list_any (same item) before ≡ false
  once-new before [] item among = absurd among
  once-new before (first ∷ items) item among = by (list_any (same first) before) refl among (once-new before items item) (once-new (first ∷ before) items item)
    where
      by : (b : Bool) → list_any (same first) before ≡ b → Among item (if b then once_after domain problem same before items else first ∷ once_after domain problem same (first ∷ before) items) →
          (Among item (once_after domain problem same before items) → list_any (same item) before ≡ false) → (Among item (once_after domain problem same (first ∷ before) items) → list_any (same item) (first ∷ before) ≡ false) →
          list_any (same item) before ≡ false
      by true e there left kept = left there
      by false e (inl here) left kept = subst (λ (x : A). list_any (same x) before ≡ false) here e
      by false e (inr there) left kept = (or_parts (same item first) (list_any (same item) before) (kept there)).1

  pub once-differ : ((a b : A) → same a b ≡ same b a) → (before items : List A) → differ same (once_after domain problem same before items) ≡ true
  once-differ swap before [] = refl
  once-differ swap before (first ∷ items) = by (list_any (same first) before) (once-differ swap before items) (once-differ swap (first ∷ before) items)
    where
      other : (item : A) → Among item (once_after domain problem same (first ∷ before) items) → same first item ≡ true → ⊥
      other item among is =
          let new = (or_parts (same item first) (list_any (same item) before) (once-new (first ∷ before) items item among)).0 in
          true≢false (sym (swap item first ∙ is) ∙ new)

      by : (b : Bool) → differ same (once_after domain problem same before items) ≡ true → differ same (once_after domain problem same (first ∷ before) items) ≡ true →
          differ same (if b then once_after domain problem same before items else first ∷ once_after domain problem same (first ∷ before) items) ≡ true
      by true left kept = left
      by false left kept =
          and_from (not (list_any (same first) (once_after domain problem same (first ∷ before) items))) (differ same (once_after domain problem same (first ∷ before) items))
          (ap not (none_passes (same first) (once_after domain problem same (first ∷ before) items) other)) kept

  -- ---- what is kept

  absorbed : (b a r : Bool) → (a ≡ true → b ≡ true) → (b || r) ≡ (b || (a || r))
  absorbed true a r e = refl
  absorbed false true r e = absurd (true≢false (sym (e refl)))
  absorbed false false r e = refl

  moved : (a b r : Bool) → (b || (a || r)) ≡ ((a || b) || r)
  moved true true r = refl
  moved true false r = refl
  moved false b r = refl

  -- items that are left out change no test that passes what is the same as one that it passes
  pub once-any : (test : A → Bool) → ((x y : A) → same x y ≡ true → test x ≡ true → test y ≡ true) → (xs before : List A) →
      (list_any test before || list_any test (once_after domain problem same before xs)) ≡ (list_any test before || list_any test xs)
  once-any test alike [] before = refl
  once-any test alike (x ∷ xs) before = by (list_any (same x) before) refl (once-any test alike xs before) (once-any test alike xs (x ∷ before))
    where
      by : (b : Bool) → list_any (same x) before ≡ b → (list_any test before || list_any test (once_after domain problem same before xs)) ≡ (list_any test before || list_any test xs) →
          (list_any test (x ∷ before) || list_any test (once_after domain problem same (x ∷ before) xs)) ≡ (list_any test (x ∷ before) || list_any test xs) →
          (list_any test before || list_any test (if b then once_after domain problem same before xs else x ∷ once_after domain problem same (x ∷ before) xs)) ≡ (list_any test before || list_any test (x ∷ xs))
      by true e rest more =
          rest
          ∙ absorbed (list_any test before) (test x) (list_any test xs)
          (λ passes. let found = passing (same x) before e in any_passes test found.item before found.among (alike x found.item found.passes passes))
      by false e rest more = moved (test x) (list_any test before) (list_any test (once_after domain problem same (x ∷ before) xs)) ∙ more ∙ sym (moved (test x) (list_any test before) (list_any test xs))

  -- a list with one item more is kept with that item, unless one before it is the same
  abbrev pub with_one : Bool → List A → A → List A
  with_one known list item = if known then list else list ++ item ∷ []

  once-last : (before xs : List A) (item : A) → once_after domain problem same before (xs ++ item ∷ []) ≡
      with_one (list_any (same item) before || list_any (same item) (once_after domain problem same before xs)) (once_after domain problem same before xs) item
  once-last before [] item = by (list_any (same item) before)
    where
      by : (b : Bool) → (if b then [] else item ∷ []) ≡ with_one (b || false) [] item
      by true = refl
      by false = refl
  once-last before (x ∷ xs) item = by (list_any (same x) before) (once-last before xs item) (once-last (x ∷ before) xs item)
    where
      kept : List A → List A
      kept earlier = once_after domain problem same earlier xs

      longer : List A → List A
      longer earlier = once_after domain problem same earlier (xs ++ item ∷ [])

      grown : (b : Bool) → x ∷ with_one b (kept (x ∷ before)) item ≡ with_one b (x ∷ kept (x ∷ before)) item
      grown true = refl
      grown false = refl

      by : (b : Bool) → longer before ≡ with_one (list_any (same item) before || list_any (same item) (kept before)) (kept before) item →
          longer (x ∷ before) ≡ with_one ((same item x || list_any (same item) before) || list_any (same item) (kept (x ∷ before))) (kept (x ∷ before)) item →
          (if b then longer before else x ∷ longer (x ∷ before)) ≡
          with_one (list_any (same item) before || list_any (same item) (if b then kept before else x ∷ kept (x ∷ before))) (if b then kept before else x ∷ kept (x ∷ before)) item
      by true rest more = rest
      by false rest more =
          ap (λ (l : List A). x ∷ l) more
          ∙ grown ((same item x || list_any (same item) before) || list_any (same item) (kept (x ∷ before)))
          ∙ ap (λ b. with_one b (x ∷ kept (x ∷ before)) item) (sym (moved (same item x) (list_any (same item) before) (list_any (same item) (kept (x ∷ before)))))

  pub once-more : (xs : List A) (item : A) → once_after domain problem same [] (xs ++ item ∷ []) ≡ with_one (list_any (same item) (once_after domain problem same [] xs)) (once_after domain problem same [] xs) item
  once-more xs item = once-last [] xs item

  -- the same, beside the list itself
  pub kept-once : ((a b c : A) → same a b ≡ true → same b c ≡ true → same a c ≡ true) → (before items : List A) (item : A) →
      once_after domain problem same before (items ++ item ∷ []) ≡ once_after domain problem same before items ++ (if list_any (same item) (before ++ items) then [] else item ∷ [])
  kept-once follows before items item =
      once-last before items item ∙ behind (list_any (same item) before || list_any (same item) (once_after domain problem same before items)) (once_after domain problem same before items)
      ∙ ap (λ b. once_after domain problem same before items ++ (if b then [] else item ∷ []))
      (once-any (same item) (λ x y same_two same_one. follows item x y same_one same_two) items before ∙ sym (list_any-append (same item) before items))
    where
      behind : (b : Bool) (list : List A) → with_one b list item ≡ list ++ (if b then [] else item ∷ [])
      behind true list = sym (append-nil list)
      behind false list = refl

pub same_atom : (a b : GroundAtom) → is_same_atom a b ≡ true → a ≡ b
same_atom a b is =
    let parts = and_parts (nat_eq a.predicate b.predicate) (pointwise nat_eq a.objects b.objects) is in
    ap (λ (p : ℕ). atom_of p a.objects) (eqb-true a.predicate b.predicate parts.0) ∙ ap (atom_of b.predicate) (same_name a.objects b.objects parts.1)

pub atom_same : (a : GroundAtom) → is_same_atom a a ≡ true
atom_same a = and_from (nat_eq a.predicate a.predicate) (pointwise nat_eq a.objects a.objects) (nat_eq_equiv.refl a.predicate) ((lists_equiv nat_eq_equiv).refl a.objects)

pub same_atom-swap : (a b : GroundAtom) → is_same_atom a b ≡ is_same_atom b a
same_atom-swap a b =
    ap (λ t. t && pointwise nat_eq a.objects b.objects) (nat_eq_equiv.symm a.predicate b.predicate) ∙ ap (λ t. nat_eq b.predicate a.predicate && t) ((lists_equiv nat_eq_equiv).symm a.objects b.objects)

pub same_value-swap : (a b : ValueRow) → is_same_value a b ≡ is_same_value b a
same_value-swap a b =
    ap (λ t. t && pointwise nat_eq a.objects b.objects) (nat_eq_equiv.symm a.function b.function) ∙ ap (λ t. nat_eq b.function a.function && t) ((lists_equiv nat_eq_equiv).symm a.objects b.objects)
