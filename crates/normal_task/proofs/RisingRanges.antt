-- The objects that a variable ranges over are positions, in rising order.
use Rattle.std.proofs.Common.{◌≡◌, ℕ, suc, ◌+◌, Bool, true, false, not, List, [], ◌∷◌, map, length, refl, ap, ◌∙◌, arith}
use Rattle.std.specs.Prelude.{nat_lt, if◌then◌else◌}
use Rattle.std.specs.List.{list_all, filter, AllByRecursion, IsDistinct}
use Rattle.std.proofs.lemmas.Bool.{and_parts, and_from, ltb-true, lt-ltb}
use Rattle.std.proofs.lemmas.Cmp.{nat_list_eq_equiv}
use Rattle.std.proofs.lemmas.Map.Keys.{IsDistinct-head, IsDistinct-tail}
use Rattle.lists.specs.Members.{is_among}
use Rattle.pddl_syntax.specs.declared.types.Domain.{Domain}
use Rattle.pddl_syntax.specs.declared.types.Problem.{Problem}
use Rattle.pddl_syntax.specs.declared.types.Typed.{Typed}
use Rattle.pddl_syntax.specs.Words.{Name, is_same}
use Rattle.pddl_syntax.specs.Objects.{objects, range, has_listed_type}
use Rattle.type_checker.specs.Faults.{check_faults}
use Rattle.type_checker.proofs.Once.{objects_once}
use Rattle.lists.proofs.Items.{each_passes}
use Rattle.normal_task.specs.Lawful.{is_rising, is_object, is_range}
use Rattle.normal_task.specs.Normalised.{normal}
use Rattle.normal_task.specs.Numbers.{number_in, object_names, object_number, range_of}
use Rattle.normal_task.proofs.Alls.{all-images}
use Rattle.normal_task.proofs.Fits.{number-within}
use Rattle.normal_task.proofs.Scopes.{range-known}

-- ---- positions of names

pub number-first : (first : Name) (names : List Name) (name : Name) → is_same name first ≡ true → number_in (first ∷ names) name ≡ 0
number-first first names name same = ap (λ b. if not b then 1 + number_in names name else 0) same

pub number-behind : (first : Name) (names : List Name) (name : Name) → is_same name first ≡ false → number_in (first ∷ names) name ≡ suc (number_in names name)
number-behind first names name other =
    let next : 1 + number_in names name ≡ suc (number_in names name) = omega arith in
    ap (λ b. if not b then 1 + number_in names name else 0) other ∙ next

-- ---- rising lists

abbrev more_by_one : List ℕ → List ℕ
more_by_one numbers = map (λ (number : ℕ). suc number) numbers

rising-later : (numbers : List ℕ) → is_rising numbers ≡ true → is_rising (more_by_one numbers) ≡ true
rising-later [] is = refl
rising-later (number ∷ []) is = refl
rising-later (number ∷ next ∷ more) is =
    let parts = and_parts (nat_lt number next) (is_rising (next ∷ more)) is in
    let below = ltb-true number next parts.0 in
    and_from (nat_lt (suc number) (suc next)) (is_rising (more_by_one (next ∷ more))) (lt-ltb (suc number) (suc next) (omega (arith, below))) (rising-later (next ∷ more) parts.1)

rising-from_zero : (numbers : List ℕ) → is_rising numbers ≡ true → is_rising (0 ∷ more_by_one numbers) ≡ true
rising-from_zero [] is = refl
rising-from_zero (number ∷ more) is = and_from (nat_lt 0 (suc number)) (is_rising (more_by_one (number ∷ more))) (lt-ltb 0 (suc number) (omega arith)) (rising-later (number ∷ more) is)

abbrev name_of : Typed → Name
name_of object = object.name.name

abbrev numbers_of : (Typed → Bool) → List Name → List Typed → List ℕ
numbers_of test names list = map (number_in names) (map name_of (filter test list))

-- one more name in front moves the positions of the others on by one
numbers-behind : (test : Typed → Bool) (first : Name) (names : List Name) (list : List Typed) → AllByRecursion (λ other. is_same first other ≡ false) (map name_of list) →
    numbers_of test (first ∷ names) list ≡ more_by_one (numbers_of test names list)
numbers-behind test first names [] apart = refl
numbers-behind test first names (object ∷ list) apart = by (test object) (numbers-behind test first names list apart.1)
  where
    here : number_in (first ∷ names) object.name.name ≡ suc (number_in names object.name.name)
    here = number-behind first names object.name.name (nat_list_eq_equiv.symm object.name.name first ∙ apart.0)

    by : (b : Bool) → numbers_of test (first ∷ names) list ≡ more_by_one (numbers_of test names list) →
        map (number_in (first ∷ names)) (map name_of (if b then object ∷ filter test list else filter test list)) ≡ more_by_one (map (number_in names) (map name_of (if b then object ∷ filter test list else filter test list)))
    by true rest = ap (λ (number : ℕ). number ∷ numbers_of test (first ∷ names) list) here ∙ ap (λ (numbers : List ℕ). suc (number_in names object.name.name) ∷ numbers) rest
    by false rest = rest

-- the positions of those that pass a test rise
numbers-rise : (test : Typed → Bool) (list : List Typed) → IsDistinct is_same (map name_of list) → is_rising (numbers_of test (map name_of list) list) ≡ true
numbers-rise test [] distinct = refl
numbers-rise test (object ∷ list) distinct = by (test object) (numbers-rise test list (IsDistinct-tail is_same object.name.name (map name_of list) distinct))
  where
    names : List Name
    names = map name_of list

    behind : numbers_of test (object.name.name ∷ names) list ≡ more_by_one (numbers_of test names list)
    behind = numbers-behind test object.name.name names list (IsDistinct-head is_same object.name.name names distinct)

    by : (b : Bool) → is_rising (numbers_of test names list) ≡ true → is_rising (map (number_in (object.name.name ∷ names)) (map name_of (if b then object ∷ filter test list else filter test list))) ≡ true
    by true rest =
        ap (λ (number : ℕ). is_rising (number ∷ numbers_of test (object.name.name ∷ names) list)) (number-first object.name.name names object.name.name (nat_list_eq_equiv.refl object.name.name))
        ∙ ap (λ (numbers : List ℕ). is_rising (0 ∷ numbers)) behind
        ∙ rising-from_zero (numbers_of test names list) rest
    by false rest = ap (λ (numbers : List ℕ). is_rising numbers) behind ∙ rising-later (numbers_of test names list) rest

-- ---- the ranges of variables

module _ (domain : Domain) (problem : Problem) where
  pub object-is : (name : Name) → is_among is_same (object_names domain problem) name ≡ true → is_object (normal domain problem) (object_number domain problem name) ≡ true
  object-is name known = lt-ltb (object_number domain problem name) (length (object_names domain problem)) (number-within (object_names domain problem) name known)

  pub range-is : check_faults domain problem ≡ [] → (variable : Typed) → is_range (normal domain problem) (range_of domain problem variable) ≡ true
  range-is none variable =
      and_from (list_all (is_object (normal domain problem)) (range_of domain problem variable)) (is_rising (range_of domain problem variable))
      (all-images (is_among is_same (object_names domain problem)) (is_object (normal domain problem)) (object_number domain problem) object-is (range domain problem variable)
      (each_passes (is_among is_same (object_names domain problem)) (range domain problem variable) (range-known domain problem variable)))
      (numbers-rise (has_listed_type domain.types variable.types) (objects domain problem) (objects_once domain problem none))
