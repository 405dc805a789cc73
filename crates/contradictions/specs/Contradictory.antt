-- When a list of literals with equated terms is contradictory for an instance of a candidate. Terms are the places of literals: parameters, variables and objects.
use Rattle.std.specs.Prelude.{ℕ, Bool, false, not, ◌&&◌, ◌||◌, nat_eq, List, [], ◌∷◌, ◌++◌, get_or, if◌then◌else◌}
use Rattle.std.specs.Cmp.Lexicographic.{pointwise}
use Rattle.std.specs.List.{list_all, list_any, flat_map}
use Rattle.lists.specs.Members as members
use Rattle.normal_task.specs.declared.task.Literal.{Literal}
use Rattle.normal_task.specs.declared.task.Literal.TheVariants.{Holds, Equal}
use Rattle.normal_task.specs.declared.task.Place.{Place}
use Rattle.normal_task.specs.declared.task.Place.TheVariants.{Variable, Object}
use Rattle.contradictions.specs.declared.types.Candidate.{Candidate}
use Rattle.contradictions.specs.declared.types.Part.{Part}
use Rattle.contradictions.specs.Candidates.{at_positions}

-- ---- classes of terms

abbrev pub is_same_place : Place → Place → Bool
is_same_place (Variable number) (Variable other) = nat_eq number other
is_same_place (Variable number) (Object object) = false
is_same_place (Object object) (Variable number) = false
is_same_place (Object object) (Object other) = nat_eq object other

-- The two terms are in one class, where these pairs are equated: they are so by the later pairs, or the first pair links their classes.
abbrev pub in_one_class : List (Place × Place) → Place → Place → Bool
in_one_class [] x y = is_same_place x y
in_one_class (pair ∷ more) x y =
    in_one_class more x y
    || in_one_class more x pair.0 && in_one_class more pair.1 y
    || in_one_class more x pair.1 && in_one_class more pair.0 y

-- the pair that a positive equality equates
abbrev pub equality_of : Literal → List (Place × Place)
equality_of (Holds positive predicate places) = []
equality_of (Equal positive left right) = if positive then (left, right) ∷ [] else []

-- ---- contradictions

-- the objects that the term ranges over, where the parameters and variables range over these
abbrev pub objects_of : List (List ℕ) → Place → List ℕ
objects_of ranges (Variable number) = get_or ranges number (0 ∷ [])
objects_of ranges (Object object) = object ∷ []

-- the object is one of the list
abbrev pub is_among : List ℕ → ℕ → Bool
is_among objects object = members.is_among nat_eq objects object

abbrev pub terms_of : Literal → List Place
terms_of (Holds positive predicate places) = places
terms_of (Equal positive left right) = left ∷ right ∷ []

abbrev pub are_two_objects : Place → Place → Bool
are_two_objects (Variable number) y = false
are_two_objects (Object object) (Variable number) = false
are_two_objects (Object object) (Object other) = not (nat_eq object other)

-- `same` tells which terms are in one class.
module _ (same : Place → Place → Bool) where
  abbrev pub are_same_terms : List Place → List Place → Bool
  are_same_terms xs ys = pointwise same xs ys

  -- the first says that an atom is true, and the second that it is false
  abbrev pub is_denied_by : Literal → Literal → Bool
  is_denied_by (Holds positive predicate places) (Holds other_positive other other_places) =
      positive && not other_positive && nat_eq predicate other && are_same_terms places other_places
  is_denied_by (Holds positive predicate places) (Equal other_positive left right) = false
  is_denied_by (Equal positive left right) literal = false

  -- the literal says that two terms of one class aren't the same
  abbrev pub parts_a_class : Literal → Bool
  parts_a_class (Holds positive predicate places) = false
  parts_a_class (Equal positive left right) = not positive && same left right

  -- some term in the term's class doesn't range over the object
  abbrev pub is_lacked : List (List ℕ) → List Place → Place → ℕ → Bool
  is_lacked ranges terms term object = list_any (λ other. same term other && not (is_among (objects_of ranges other) object)) terms

  -- no object is one of each term in the term's class
  abbrev pub has_no_object : List (List ℕ) → List Place → Place → Bool
  has_no_object ranges terms term = list_all (is_lacked ranges terms term) (objects_of ranges term)

  -- the atom is one of the instance, by this part
  abbrev pub is_of_part : List Place → ℕ → List Place → Part → Bool
  is_of_part instance predicate places part = nat_eq part.predicate predicate && are_same_terms (at_positions (Object 0) part.places places) instance

  abbrev pub is_of_instance : Candidate → List Place → ℕ → List Place → Bool
  is_of_instance candidate instance predicate places = list_any (is_of_part instance predicate places) candidate.parts

  -- two positive atoms of the instance, of different predicates
  abbrev pub are_two_of_instance : Candidate → List Place → Literal → Literal → Bool
  are_two_of_instance candidate instance (Holds positive predicate places) (Holds other_positive other other_places) =
      positive && other_positive && not (nat_eq predicate other) && is_of_instance candidate instance predicate places && is_of_instance candidate instance other other_places
  are_two_of_instance candidate instance (Holds positive predicate places) (Equal other_positive left right) = false
  are_two_of_instance candidate instance (Equal positive left right) literal = false

  -- two literals are complementary, two different objects are in one class, two terms of one class must differ, two positive atoms of the instance have different predicates, or the terms of a class have no object in common
  abbrev pub has_contradiction : Candidate → List (List ℕ) → List Literal → List Place → List Place → Bool
  has_contradiction candidate ranges literals terms instance =
      list_any (λ literal. list_any (is_denied_by literal) literals) literals
      || list_any (λ x. list_any (λ y. are_two_objects x y && same x y) terms) terms
      || list_any parts_a_class literals
      || list_any (λ literal. list_any (are_two_of_instance candidate instance literal) literals) literals
      || list_any (has_no_object ranges terms) terms

-- all pairs that are equated, those of positive equalities too
abbrev pub all_pairs : List Literal → List (Place × Place) → List (Place × Place)
all_pairs literals equated = equated ++ flat_map equality_of literals

abbrev pub sides : Place × Place → List Place
sides pair = pair.0 ∷ pair.1 ∷ []

-- the terms that stand in the list, in the pairs or in the instance
abbrev pub standing : List Literal → List (Place × Place) → List Place → List Place
standing literals equated instance = flat_map terms_of literals ++ (flat_map sides equated ++ instance)

-- The literals, with these pairs of terms equated, are contradictory for the instance of the candidate that these terms name.
abbrev pub is_contradictory : Candidate → List (List ℕ) → List Literal → List (Place × Place) → List Place → Bool
is_contradictory candidate ranges literals equated instance =
    has_contradiction (in_one_class (all_pairs literals equated)) candidate ranges literals (standing literals equated instance) instance
