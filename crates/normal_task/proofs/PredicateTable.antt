-- The rows of predicates: at the number of a predicate stands its row, with the number of its arguments.
use Rattle.std.proofs.Common.{◌≡◌, ℕ, suc, ◌+◌, Bool, true, false, not, ◌&&◌, List, [], ◌∷◌, ◌++◌, map, length, nat_eq, inl, inr, ◌⊎◌, refl, sym, ap, ◌∙◌, subst, arith, append_assoc}
use Rattle.std.specs.Prelude.{slice_get, codes, ◌==◌}
use Rattle.std.specs.Fmt.{decimal}
use Rattle.std.specs.List.{list_all, AllByRecursion, IsDistinct}
use Rattle.std.proofs.lemmas.Bool.{and_parts, and_from, or_cases, eqb-true, true≢false}
use Rattle.std.proofs.lemmas.Cmp.{nat_list_eq_equiv}
use Rattle.std.proofs.lemmas.Map.Keys.{IsDistinct-head, IsDistinct-tail}
use Rattle.pddl_syntax.specs.declared.types.Domain.{Domain}
use Rattle.pddl_syntax.specs.declared.types.Head.{Head}
use Rattle.pddl_syntax.specs.declared.types.Problem.{Problem}
use Rattle.pddl_syntax.specs.Words.{Name, is_same}
use Rattle.pddl_syntax.specs.Holds.{is_derived}
use Rattle.pddl_syntax.specs.Spelled.{IsSpelled, IsWellSpelled}
use Rattle.pddl_syntax.proofs.SameAtoms.{same_name}
use Rattle.fault_positions.specs.Mentions.{Use}
use Rattle.fault_positions.specs.Names as names
use Rattle.type_checker.specs.Faults.{check_faults}
use Rattle.type_checker.proofs.Declared.{declared_with_arity, declared_among}
use Rattle.type_checker.proofs.Once.{predicates_once}
use Rattle.lists.proofs.Items.{Among, passing, at_seam, within_left}
use Rattle.normal_task.specs.declared.task.Normal.{Normal}
use Rattle.normal_task.specs.declared.task.PredicateRow.{PredicateRow}
use Rattle.normal_task.specs.Lawful.{is_word, has_row, is_predicate, has_arity}
use Rattle.normal_task.specs.Normalised.{is_changed, declared_row, fresh_predicates, all_fresh, normal}
use Rattle.normal_task.specs.Numbers.{number_in, head_names, predicate_number}
use Rattle.normal_task.specs.Parts.{Fresh}
use Rattle.normal_task.proofs.Alls.{all-both, all-images}
use Rattle.normal_task.proofs.Chosen.{eq-itself}
use Rattle.normal_task.proofs.FullStatesMatch.{heads-length, number-below}
pub use Rattle.normal_task.proofs.NumberedFresh.{Numbered, numbered-left, numbered-right, numbered-second, numbered-third}
use Rattle.normal_task.proofs.NameWords.{spelled-word, fresh-word, all-tested}
use Rattle.normal_task.proofs.RisingRanges.{number-first, number-behind}
use Rattle.normal_task.proofs.Scopes.{length-append}

-- what all names of some things have, each of them has
pub passes_all : {X : Type 0} (P : Name → Type 0) (name_of : X → Name) (xs : List X) (x : X) → AllByRecursion P (map name_of xs) → Among x xs → P (name_of x)
passes_all P name_of [] x all there = absurd there
passes_all P name_of (y ∷ xs) x all (inl here) = subst (λ z. P (name_of z)) here all.0
passes_all P name_of (y ∷ xs) x all (inr there) = passes_all P name_of xs x all.1 there

-- ---- new predicates

-- the row of the predicate is that of a derived predicate with so many arguments
abbrev pub is_fresh_row : ℕ → PredicateRow → Bool
is_fresh_row arguments row = row.arity == arguments && row.derived

module _ (task : Normal) (base : ℕ) where
  abbrev pub HasRow : ℕ → Fresh → Type 0
  HasRow next fresh = is_predicate task (is_fresh_row (length fresh.arguments)) (base + next) ≡ true

  -- the new predicates that are numbered from here have their rows
  abbrev pub HaveRows : ℕ → List Fresh → Type 0
  HaveRows = Numbered HasRow

module _ (domain : Domain) (problem : Problem) where
  abbrev base : ℕ
  base = length domain.predicates

  abbrev task : Normal
  task = normal domain problem

  rows-behind : (before : List PredicateRow) (next : ℕ) (fresh : List Fresh) → length before ≡ base + next → task.predicates ≡ before ++ fresh_predicates domain problem next fresh → HaveRows task base next fresh
  rows-behind before next [] long is = tt
  rows-behind before next (first ∷ fresh) long is = (here, rows-behind (before ++ row ∷ []) (suc next) fresh (omega (arith, long, length-append before (row ∷ []))) (is ∙ sym (append_assoc before (row ∷ []) behind)))
    where
      row : PredicateRow
      row = record { name = codes "new-axiom@" ++ decimal next; arity = length first.arguments; derived = true; fixed = false }

      behind : List PredicateRow
      behind = fresh_predicates domain problem (suc next) fresh

      here : is_predicate task (is_fresh_row (length first.arguments)) (base + next) ≡ true
      here =
          ap (λ (rows : List PredicateRow). has_row task (is_fresh_row (length first.arguments)) (slice_get rows (base + next))) is
          ∙ ap (λ (n : ℕ). has_row task (is_fresh_row (length first.arguments)) (slice_get (before ++ row ∷ behind) n)) (sym long)
          ∙ ap (has_row task (is_fresh_row (length first.arguments))) (at_seam before row behind)
          ∙ and_from (length first.arguments == length first.arguments) true (eq-itself (length first.arguments)) refl

  pub all-rows : HaveRows task base 0 (all_fresh domain problem)
  all-rows = rows-behind (map (declared_row domain problem) domain.predicates) 0 (all_fresh domain problem) (omega (arith, heads-length domain problem)) refl

  -- ---- declared predicates

  -- the heads with the name of the use and its number of arguments pass
  abbrev pub Passes : (PredicateRow → Bool) → Use → Type 0
  Passes test usage = (head : Head) → head.name.name ≡ usage.name.name → length head.variables ≡ usage.arity → test (declared_row domain problem head) ≡ true

  row-among : (test : PredicateRow → Bool) (usage : Use) → Passes test usage → (heads : List Head) → IsDistinct is_same (head_names heads) → names.has_arity heads usage ≡ true →
      has_row task test (slice_get (map (declared_row domain problem) heads) (number_in (head_names heads) usage.name.name)) ≡ true
  row-among test usage passes [] distinct some = absurd (true≢false (sym some))
  row-among test usage passes (head ∷ heads) distinct some =
      by (is_same usage.name.name head.name.name) refl (or_cases (is_same head.name.name usage.name.name && (length head.variables == usage.arity)) (names.has_arity heads usage) some)
      (row-among test usage passes heads (IsDistinct-tail is_same head.name.name (head_names heads) distinct))
    where
      rows : List PredicateRow
      rows = map (declared_row domain problem) (head ∷ heads)

      apart : AllByRecursion (λ known. is_same head.name.name known ≡ false) (head_names heads)
      apart = IsDistinct-head is_same head.name.name (head_names heads) distinct

      -- no other head has the name
      not_behind : is_same usage.name.name head.name.name ≡ true → names.has_arity heads usage ≡ true → ⊥
      not_behind same there =
          let found = passing (λ (other : Head). is_same other.name.name usage.name.name && (length other.variables == usage.arity)) heads there in
          let named = same_name found.item.name.name usage.name.name (and_parts (is_same found.item.name.name usage.name.name) (length found.item.variables == usage.arity) found.passes).0 in
          let is = passes_all (λ known. is_same head.name.name known ≡ false) (λ (other : Head). other.name.name) heads found.item apart found.among in
          true≢false (sym (nat_list_eq_equiv.symm head.name.name usage.name.name ∙ same) ∙ ap (is_same head.name.name) (sym named) ∙ is)

      by : (b : Bool) → is_same usage.name.name head.name.name ≡ b → ((is_same head.name.name usage.name.name && (length head.variables == usage.arity)) ≡ true) ⊎ (names.has_arity heads usage ≡ true) →
          (names.has_arity heads usage ≡ true → has_row task test (slice_get (map (declared_row domain problem) heads) (number_in (head_names heads) usage.name.name)) ≡ true) →
          has_row task test (slice_get rows (number_in (head_names (head ∷ heads)) usage.name.name)) ≡ true
      by true e (inl here) later =
          let parts = and_parts (is_same head.name.name usage.name.name) (length head.variables == usage.arity) here in
          ap (λ (n : ℕ). has_row task test (slice_get rows n)) (number-first head.name.name (head_names heads) usage.name.name e)
          ∙ passes head (same_name head.name.name usage.name.name parts.0) (eqb-true (length head.variables) usage.arity parts.1)
      by true e (inr there) later = absurd (not_behind e there)
      by false e (inl here) later =
          let same = (and_parts (is_same head.name.name usage.name.name) (length head.variables == usage.arity) here).0 in
          absurd (true≢false (sym (nat_list_eq_equiv.symm usage.name.name head.name.name ∙ same) ∙ e))
      by false e (inr there) later = ap (λ (n : ℕ). has_row task test (slice_get rows n)) (number-behind head.name.name (head_names heads) usage.name.name e) ∙ later there

  module _ (none : check_faults domain problem ≡ []) where
    -- the row of a use that is declared passes what its heads pass
    pub declared-passes : (test : PredicateRow → Bool) (usage : Use) → Passes test usage → names.has_arity domain.predicates usage ≡ true → is_predicate task test (predicate_number domain usage.name.name) ≡ true
    declared-passes test usage passes declared =
        let known = sym (declared_among domain.predicates usage.name.name) ∙ declared_with_arity domain.predicates usage declared in
        ap (has_row task test) (within_left (map (declared_row domain problem) domain.predicates) (fresh_predicates domain problem 0 (all_fresh domain problem)) (predicate_number domain usage.name.name) (omega (arith, heads-length domain problem, number-below domain problem usage.name.name known)))
        ∙ row-among test usage passes domain.predicates (predicates_once domain problem none) declared

    same-arity : (arity : ℕ) (head : Head) → length head.variables ≡ arity → has_arity task arity (declared_row domain problem head) ≡ true
    same-arity arity head same = ap (λ (n : ℕ). nat_eq n arity) same ∙ eq-itself arity

    -- it has as many arguments
    pub declared-arity : (usage : Use) → names.has_arity domain.predicates usage ≡ true → is_predicate task (has_arity task usage.arity) (predicate_number domain usage.name.name) ≡ true
    declared-arity usage = declared-passes (has_arity task usage.arity) usage (λ head named arity. same-arity usage.arity head arity)

    -- it is derived where the files have an axiom for it
    pub declared-derived : (usage : Use) → is_derived domain usage.name.name ≡ true → names.has_arity domain.predicates usage ≡ true →
        is_predicate task (λ row. has_arity task usage.arity row && row.derived) (predicate_number domain usage.name.name) ≡ true
    declared-derived usage derived =
        declared-passes (λ row. has_arity task usage.arity row && row.derived) usage
        (λ head named arity. and_from (has_arity task usage.arity (declared_row domain problem head)) (is_derived domain head.name.name) (same-arity usage.arity head arity) (ap (is_derived domain) named ∙ derived))

    -- it is neither derived nor fixed where the files have no axiom for it and an effect on it
    pub declared-basic : (usage : Use) → is_derived domain usage.name.name ≡ false → names.has_arity domain.predicates usage ≡ true →
        is_predicate task (λ row. has_arity task usage.arity row && not row.derived) (predicate_number domain usage.name.name) ≡ true
    declared-basic usage basic =
        declared-passes (λ row. has_arity task usage.arity row && not row.derived) usage
        (λ head named arity. and_from (has_arity task usage.arity (declared_row domain problem head)) (not (is_derived domain head.name.name)) (same-arity usage.arity head arity) (ap not (ap (is_derived domain) named ∙ basic)))

    pub declared-changed : (usage : Use) → is_derived domain usage.name.name ≡ false → is_changed domain problem usage.name.name ≡ true → names.has_arity domain.predicates usage ≡ true →
        is_predicate task (λ row. has_arity task usage.arity row && not row.derived && not row.fixed) (predicate_number domain usage.name.name) ≡ true
    declared-changed usage basic changed =
        declared-passes (λ row. has_arity task usage.arity row && not row.derived && not row.fixed) usage
        (λ head named arity.
        let here = ap (is_derived domain) named ∙ basic in
        let written = ap (is_changed domain problem) named ∙ changed in
        and_from (has_arity task usage.arity (declared_row domain problem head) && not (is_derived domain head.name.name)) (not (not (is_derived domain head.name.name) && not (is_changed domain problem head.name.name)))
        (and_from (has_arity task usage.arity (declared_row domain problem head)) (not (is_derived domain head.name.name)) (same-arity usage.arity head arity) (ap not here))
        (ap (λ b. not (not b && not (is_changed domain problem head.name.name))) here ∙ ap (λ b. not (true && not b)) written))

  -- ---- names, and that no derived predicate is fixed

  abbrev is_row : PredicateRow → Bool
  is_row row = is_word row.name && not (row.derived && row.fixed)

  not_both : (derived changed : Bool) → not (derived && (not derived && not changed)) ≡ true
  not_both true changed = refl
  not_both false changed = refl

  fresh-are : (next : ℕ) (fresh : List Fresh) → list_all is_row (fresh_predicates domain problem next fresh) ≡ true
  fresh-are next [] = refl
  fresh-are next (first ∷ fresh) =
      and_from (is_word (codes "new-axiom@" ++ decimal next) && not (true && false)) (list_all is_row (fresh_predicates domain problem (suc next) fresh))
      (and_from (is_word (codes "new-axiom@" ++ decimal next)) (not (true && false)) (fresh-word next) refl) (fresh-are (suc next) fresh)

  pub predicates-are : IsWellSpelled domain → list_all (λ row. is_word row.name && not (row.derived && row.fixed)) task.predicates ≡ true
  predicates-are spelled =
      all-both is_row (map (declared_row domain problem) domain.predicates) (fresh_predicates domain problem 0 (all_fresh domain problem))
      (all-images (λ (head : Head). is_word head.name.name) is_row (declared_row domain problem)
      (λ head is. and_from (is_word head.name.name) (not (is_derived domain head.name.name && (not (is_derived domain head.name.name) && not (is_changed domain problem head.name.name)))) is (not_both (is_derived domain head.name.name) (is_changed domain problem head.name.name)))
      domain.predicates (all-tested (λ (head : Head). IsSpelled head.name) (λ (head : Head). is_word head.name.name) (λ head is. spelled-word head.name is) domain.predicates spelled.predicates))
      (fresh-are 0 (all_fresh domain problem))
