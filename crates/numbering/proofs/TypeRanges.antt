-- The objects of listed types, by the types that are found below these.
use Rattle.std.proofs.Common.{◌≡◌, ℕ, Bool, ◌||◌, List, [], ◌∷◌, ◌++◌, map, length, refl, sym, ap, ◌∙◌}
use Rattle.std.specs.List.{list_any, filter}
use Rattle.std.proofs.lemmas.List.Elements.{filter_agree}
use Rattle.lists.proofs.Items.{same_any, any_or, any_swap}
use Rattle.pddl_syntax.specs.declared.types.Domain.{Domain}
use Rattle.pddl_syntax.specs.declared.types.Named.{Named}
use Rattle.pddl_syntax.specs.declared.types.Problem.{Problem}
use Rattle.pddl_syntax.specs.declared.types.Typed.{Typed}
use Rattle.pddl_syntax.specs.Words.{Name, is_same}
use Rattle.pddl_syntax.specs.Objects.{root, leads, has_type, has_listed_type}
use Rattle.numbering.specs.Below.{has, leads_to, has_type_among, is_any, range_of_types}
use Rattle.normal_task.specs.Numbers.{object_number}
use Rattle.numbering.proofs.Ranges.{ranged}

module _ (types : List Typed) (listed : List Named) (found : List Name) (below : (name : Name) → has found name ≡ leads_to types listed name) where
  -- some listed type is `object`, or one of the object's own types is found
  same_types : (object : Typed) → list_any (λ type. has_type types object type.name) listed ≡ (list_any (λ type. is_same type.name root) listed || list_any (λ own. has found own.name) object.types)
  same_types object =
      any_or (λ (type : Named). is_same type.name root) (λ (type : Named). list_any (λ (own : Named). leads types (length types) own.name type.name) object.types) listed
      ∙ ap (λ b. list_any (λ (type : Named). is_same type.name root) listed || b)
      (any_swap (λ (type own : Named). leads types (length types) own.name type.name) listed object.types
      ∙ same_any (λ (own : Named). leads_to types listed own.name) (λ (own : Named). has found own.name) object.types (λ own among. sym (below own.name)))

-- an object is kept alike by the types that are found
same_listed : (types : List Typed) (listed : List Named) (found : List Name) → ((name : Name) → has found name ≡ leads_to types listed name) → (object : Typed) →
    has_type_among (is_any listed) found object ≡ has_listed_type types listed object
same_listed types [] found below object = refl
same_listed types (type ∷ more) found below object = sym (same_types types (type ∷ more) found below object)

pub range_found : (domain : Domain) (problem : Problem) (types : List Typed) (listed : List Named) (found : List Name) (any : Bool) → types ≡ domain.types → ((name : Name) → has found name ≡ leads_to types listed name) → any ≡ is_any listed →
    (constants others : List Typed) → constants ≡ domain.constants → others ≡ problem.objects → (start middle end : List ℕ) → start ≡ [] →
    middle ≡ start ++ map (object_number domain problem) (map (λ object. object.name.name) (filter (has_type_among any found) constants)) →
    end ≡ middle ++ map (object_number domain problem) (map (λ object. object.name.name) (filter (has_type_among any found) others)) →
    end ≡ range_of_types domain problem listed
range_found domain problem types listed found any types_are below any_is constants others constants_are others_are start middle end none first second =
    ranged (object_number domain problem) (has_type_among any found) constants others start middle end none first second
    ∙ ap (λ (l : List Typed). map (object_number domain problem) (map (λ object. object.name.name) l))
    (filter_agree (has_type_among any found) (has_listed_type types listed) (λ object. ap (λ b. has_type_among b found object) any_is ∙ same_listed types listed found below object) (constants ++ others)
    ∙ ap (λ (t : List Typed). filter (has_listed_type t listed) (constants ++ others)) types_are
    ∙ ap (filter (has_listed_type domain.types listed)) (ap (λ (l : List Typed). l ++ others) constants_are ∙ ap (λ (l : List Typed). domain.constants ++ l) others_are))
