-- In a list in which no name stands twice, each name is new beside those before it.
use Rattle.std.proofs.Common.{◌≡◌, ℕ, ◌+◌, ◌<◌, ◌||◌, false, List, [], ◌∷◌, ◌++◌, map, take, drop, length, get_or, refl, sym, ap, ◌∙◌, subst, append_assoc}
use Rattle.std.specs.List.{AllByRecursion, IsDistinct, list_any}
use Rattle.std.proofs.lemmas.Cmp.{nat_list_eq_equiv}
use Rattle.std.proofs.lemmas.List.{take-append-drop, map-append}
use Rattle.lists.proofs.LoopSteps.{take_next}
use Rattle.names.specs.Names.{Name, is_same}
use Rattle.pddl_syntax.specs.declared.types.Domain.{Domain}
use Rattle.pddl_syntax.specs.declared.types.Head.{Head}
use Rattle.pddl_syntax.specs.declared.types.Problem.{Problem}
use Rattle.pddl_syntax.specs.declared.types.Typed.{Typed}
use Rattle.type_checker.specs.Faults.{check_faults}
use Rattle.type_checker.proofs.Once.{predicates_once, functions_once, objects_once}
use Rattle.normal_task.specs.Numbers.{head_names}

-- the first name differs from one behind it
behind : (first name : Name) (between more : List Name) → AllByRecursion (λ other. is_same first other ≡ false) (between ++ name ∷ more) → is_same first name ≡ false
behind first name [] more all = all.0
behind first name (other ∷ between) more all = behind first name between more all.1

pub new_name : (before more : List Name) (name : Name) → IsDistinct is_same (before ++ name ∷ more) → list_any (is_same name) before ≡ false
unfolding IsDistinct
new_name [] more name distinct = refl
new_name (first ∷ before) more name distinct =
    ap (λ b. b || list_any (is_same name) before) (nat_list_eq_equiv.symm name first ∙ behind first name before more distinct.0) ∙ new_name before more name distinct.1

pub left_distinct : (before more : List Name) → IsDistinct is_same (before ++ more) → IsDistinct is_same before
unfolding IsDistinct
left_distinct [] more distinct = tt
left_distinct (name ∷ before) more distinct = (apart before distinct.0, left_distinct before more distinct.1)
  where
    apart : (names : List Name) → AllByRecursion (λ other. is_same name other ≡ false) (names ++ more) → AllByRecursion (λ other. is_same name other ≡ false) names
    apart [] all = tt
    apart (other ∷ names) all = (all.0, apart names all.1)

-- one item more of a list whose items are named, behind names that are there
module _ {X : Type 0} (name_of : X → Name) (start : List Name) (xs : List X) (distinct : IsDistinct is_same (start ++ map name_of xs))
    (i : ℕ) (item : X) (within : i < length xs) (is : item ≡ get_or xs i item) (names : List Name) (are : names ≡ start ++ map name_of (take i xs)) where
  whole : xs ≡ take i xs ++ item ∷ drop (i + 1) xs
  whole =
      sym (take-append-drop (i + 1) xs) ∙ ap (λ (l : List X). l ++ drop (i + 1) xs) (take_next xs i item within is)
      ∙ append_assoc (take i xs) (item ∷ []) (drop (i + 1) xs)

  pub is_new : list_any (is_same (name_of item)) names ≡ false
  is_new =
      ap (list_any (is_same (name_of item))) are
      ∙ new_name (start ++ map name_of (take i xs)) (map name_of (drop (i + 1) xs)) (name_of item)
      (subst (IsDistinct is_same)
      (ap (λ (l : List X). start ++ map name_of l) whole ∙ ap (λ (l : List Name). start ++ l) (map-append name_of (take i xs) (item ∷ drop (i + 1) xs))
      ∙ sym (append_assoc start (map name_of (take i xs)) (name_of item ∷ map name_of (drop (i + 1) xs))))
      distinct)

-- ---- the names of a checked pair

module _ (domain : Domain) (problem : Problem) (none : check_faults domain problem ≡ []) where
  abbrev name_of : Typed → Name
  name_of object = object.name.name

  all_objects : IsDistinct is_same (map name_of domain.constants ++ map name_of problem.objects)
  all_objects = subst (IsDistinct is_same) (map-append name_of domain.constants problem.objects) (objects_once domain problem none)

  pub constants_new : (before : List Name) (constants : List Typed) → before ≡ [] → constants ≡ domain.constants → IsDistinct is_same (before ++ map (λ object. object.name.name) constants)
  constants_new before constants empty are =
      subst (IsDistinct is_same) (sym (ap (λ (l : List Name). l ++ map name_of constants) empty ∙ ap (map name_of) are)) (left_distinct (map name_of domain.constants) (map name_of problem.objects) all_objects)

  pub objects_new : (before after : List Name) (constants others : List Typed) → before ≡ [] → constants ≡ domain.constants → others ≡ problem.objects → after ≡ before ++ map (λ object. object.name.name) constants →
      IsDistinct is_same (after ++ map (λ object. object.name.name) others)
  objects_new before after constants others empty constants_are others_are grown =
      subst (IsDistinct is_same)
      (sym (ap (λ (l : List Name). l ++ map name_of others) (grown ∙ ap (λ (l : List Name). l ++ map name_of constants) empty ∙ ap (map name_of) constants_are) ∙ ap (λ (l : List Typed). map name_of domain.constants ++ map name_of l) others_are))
      all_objects

  pub predicates_new : (heads : List Head) → heads ≡ domain.predicates → IsDistinct is_same (head_names heads)
  predicates_new heads are = subst (λ (l : List Head). IsDistinct is_same (head_names l)) (sym are) (predicates_once domain problem none)

  pub functions_new : (heads : List Head) → heads ≡ domain.functions → IsDistinct is_same (head_names heads)
  functions_new heads are = subst (λ (l : List Head). IsDistinct is_same (head_names l)) (sym are) (functions_once domain problem none)
