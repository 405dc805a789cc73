-- Words of private contracts: the tests of light and balanced over lists that the code has built, and the terms that it tries for a delete effect's own variables.
use Rattle.std.specs.Prelude.{ℕ, Bool, true, not, ◌&&◌, ◌||◌, ◌+◌, nat_eq, nat_lt, List, [], ◌∷◌, ◌++◌, map, zip, length, get_or, if◌then◌else◌}
use Rattle.std.specs.Cmp.Lexicographic.{pointwise}
use Rattle.std.specs.List.{list_all, list_any, flat_map, position}
use Rattle.std.specs.Option.{option_map_or}
use Rattle.normal_task.specs.declared.task.EffectRow.{EffectRow}
use Rattle.normal_task.specs.declared.task.Literal.{Literal}
use Rattle.normal_task.specs.declared.task.Literal.TheVariants.{Holds, Equal}
use Rattle.normal_task.specs.declared.task.Normal.{Normal}
use Rattle.normal_task.specs.declared.task.Place.{Place}
use Rattle.normal_task.specs.declared.task.Place.TheVariants.{Variable, Object}
use Rattle.normal_task.specs.declared.task.Schema.{Schema}
use Rattle.normal_task.specs.Meaning.{choices}
use Rattle.contradictions.specs.declared.types.Candidate.{Candidate}
use Rattle.contradictions.specs.Candidates.{at_positions}
use Rattle.contradictions.specs.Contradictory.{is_same_place, are_two_objects, in_one_class, all_pairs, are_same_terms, terms_of, is_contradictory}
use Rattle.contradictions.specs.GivenTerms.{with_terms, literal_with}
use Rattle.invariant_check.specs.Accepted.{apart_from, ranges_with, denied, is_listed, terms, fits}

-- ---- light

-- the place is a parameter or an object, and stays where variables of effects are renamed
abbrev pub is_kept : ℕ → Place → Bool
is_kept parameters (Variable number) = nat_lt number parameters
is_kept parameters (Object object) = true

abbrev pub are_kept : ℕ → List Place → List Place → Bool
are_kept parameters xs ys = pointwise (λ x y. is_same_place x y && is_kept parameters y) xs ys

-- both add the same atom, of parameters and objects
abbrev pub add_one_atom : Schema → EffectRow → EffectRow → Bool
add_one_atom schema e f = nat_eq e.predicate f.predicate && are_kept (length schema.parameters) e.places f.places

-- two different objects are given for one parameter of the candidate
abbrev pub name_two : List Place → List Place → Bool
name_two xs ys = list_any (λ pair. are_two_objects pair.0 pair.1) (zip xs ys)

-- the first atom is one with the second, or the two are never added together, where these terms of the two are equated
abbrev pub are_one_or_apart : Candidate → List (List ℕ) → List Literal → List (Place × Place) → List Place → ℕ → List Place → ℕ → List Place → Bool
are_one_or_apart candidate ranges literals equated instance predicate places other others =
    nat_eq predicate other && are_same_terms (in_one_class (all_pairs literals equated)) places others
    || is_contradictory candidate ranges literals equated instance

-- ---- balanced

-- The add effect, for the instance that these terms name, where these literals are required, never restores the atom of the predicate with these places.
abbrev pub leaves_deleted : Candidate → Schema → EffectRow → List Literal → List Place → ℕ → List Place → EffectRow → Bool
leaves_deleted candidate schema e required instance predicate places a =
    not a.adds || not (nat_eq a.predicate predicate)
    || is_contradictory candidate (ranges_with schema e a) (required ++ (a.condition ++ denied e ∷ [])) (zip a.places places) instance

-- the atom of the predicate with these places is one of the instance
abbrev pub is_at_instance : Candidate → List Place → ℕ → List Place → Bool
is_at_instance candidate instance predicate places =
    list_any (λ other. nat_eq other.predicate predicate && pointwise is_same_place (at_positions (Object 0) other.places places) instance) candidate.parts

-- ---- the terms that are tried for a variable

-- the place at the index, in a literal that says that an atom of the predicate is true
abbrev pub stated_at : ℕ → ℕ → Literal → List Place
stated_at predicate index (Holds positive other places) = if positive && nat_eq predicate other then get_or places index (Object 0) ∷ [] else []
stated_at predicate index (Equal positive left right) = []

-- an object of the range, for a variable that stands nowhere: any term that fits does
abbrev pub some_terms : Normal → List (List ℕ) → List ℕ → List Place
some_terms task ranges [] = terms task ranges
some_terms task ranges (object ∷ more) = if nat_lt object (length task.objects) then Object object ∷ [] else terms task ranges

-- what is tried for a variable of a delete effect on the predicate with these places
abbrev pub tried_for : Normal → List (List ℕ) → List Literal → ℕ → List Place → Place → List ℕ → List Place
tried_for task ranges required predicate places variable range =
    option_map_or (λ index. flat_map (stated_at predicate index) required) (position (is_same_place variable) places)
    (flat_map terms_of required ++ some_terms task ranges range)

-- what is tried for the variables with these ranges, which are numbered from this number on
abbrev pub tried : Normal → List (List ℕ) → List Literal → EffectRow → ℕ → List (List ℕ) → List (List Place)
tried task ranges required d number [] = []
tried task ranges required d number (range ∷ more) =
    tried_for task ranges required d.predicate d.places (Variable number) range ∷ tried task ranges required d (number + 1) more

-- it is a parameter, a variable or an object of the task, and all its objects are in the range
abbrev pub is_fitting : Normal → List (List ℕ) → Place → List ℕ → Bool
is_fitting task ranges (Variable number) range = nat_lt number (length ranges) && fits ranges range (Variable number)
is_fitting task ranges (Object object) range = nat_lt object (length task.objects) && fits ranges range (Object object)

abbrev pub are_fitting : Normal → List (List ℕ) → List Place → List (List ℕ) → Bool
are_fitting task ranges given variables = pointwise (is_fitting task ranges) given variables

-- the delete effect, with these terms for its own variables, balances the add effect
abbrev pub balances_given : Normal → Candidate → Schema → EffectRow → List Literal → List Place → EffectRow → List Place → Bool
balances_given task candidate schema e required instance d given =
    is_at_instance candidate instance d.predicate (map (with_terms (length schema.parameters) given) d.places)
    && is_listed required (Holds true d.predicate (map (with_terms (length schema.parameters) given) d.places))
    && list_all (is_listed required) (map (literal_with (length schema.parameters) given) d.condition)
    && are_fitting task (schema.parameters ++ e.variables) given d.variables
    && list_all (λ a. leaves_deleted candidate schema e required instance d.predicate (map (with_terms (length schema.parameters) given) d.places) (apart_from schema e a)) schema.effects

-- with some of the terms that are tried
abbrev pub balances_somehow : Normal → Candidate → Schema → EffectRow → List Literal → List Place → EffectRow → Bool
balances_somehow task candidate schema e required instance d =
    not d.adds && list_any (λ part. nat_eq part.predicate d.predicate) candidate.parts
    && list_any (balances_given task candidate schema e required instance d)
    (choices (tried task (schema.parameters ++ e.variables) required d (length schema.parameters) d.variables))
