-- When a candidate is light and balanced: the effects of a step then never raise an instance's weight above one (Helmert 2009, section 5).
use Rattle.std.specs.Prelude.{ℕ, Bool, true, false, not, ◌&&◌, ◌||◌, nat_eq, List, [], ◌∷◌, ◌++◌, map, length, filter, zip, if◌then◌else◌}
use Rattle.std.specs.Cmp.Lexicographic.{pointwise}
use Rattle.std.specs.List.{list_all, list_any, range_with_len}
use Rattle.normal_task.specs.declared.task.EffectRow.{EffectRow}
use Rattle.normal_task.specs.declared.task.Literal.{Literal}
use Rattle.normal_task.specs.declared.task.Literal.TheVariants.{Holds, Equal}
use Rattle.normal_task.specs.declared.task.Normal.{Normal}
use Rattle.normal_task.specs.declared.task.Place.{Place}
use Rattle.normal_task.specs.declared.task.Place.TheVariants.{Variable, Object}
use Rattle.normal_task.specs.declared.task.Schema.{Schema}
use Rattle.normal_task.specs.Parts.{moved, moved_place}
use Rattle.normal_task.specs.Meaning.{choices}
use Rattle.contradictions.specs.declared.types.Candidate.{Candidate}
use Rattle.contradictions.specs.declared.types.Part.{Part}
use Rattle.contradictions.specs.Candidates.{at_positions}
use Rattle.contradictions.specs.Contradictory.{is_same_place, is_among, in_one_class, objects_of, all_pairs, are_same_terms, is_contradictory}
use Rattle.contradictions.specs.GivenTerms.{with_terms, literal_with}

-- ---- add effects

-- the effect passes the test beside the part, if that is of its predicate
abbrev pub part_passes : (Part → EffectRow → Bool) → EffectRow → Part → Bool
part_passes test row part = not (nat_eq part.predicate row.predicate) || test part row

-- the effect, if it is an add on a predicate of the candidate, passes the test beside the part of its predicate
abbrev pub add_passes : Candidate → (Part → EffectRow → Bool) → EffectRow → Bool
add_passes candidate test row = not row.adds || list_all (part_passes test row) candidate.parts

-- each such effect of the schema does
abbrev pub each_add : Candidate → Schema → (Part → EffectRow → Bool) → Bool
each_add candidate schema test = list_all (add_passes candidate test) schema.effects

-- the instance whose atom the effect adds, by its terms
abbrev pub instance_of : Part → EffectRow → List Place
instance_of part row = at_positions (Object 0) part.places row.places

-- the row's atom is false
abbrev pub denied : EffectRow → Literal
denied row = Holds false row.predicate row.places

-- the second row, its variables renamed apart from those of the first: they are numbered behind these
abbrev pub apart_from : Schema → EffectRow → EffectRow → EffectRow
apart_from schema first row =
    record {
      variables = row.variables;
      condition = map (moved (length schema.parameters) (length first.variables)) row.condition;
      adds = row.adds;
      predicate = row.predicate;
      places = map (moved_place (length schema.parameters) (length first.variables)) row.places;
    }

-- the ranges of the schema's parameters, and of the variables of two rows that are renamed apart
abbrev pub ranges_with : Schema → EffectRow → EffectRow → List (List ℕ)
ranges_with schema e f = schema.parameters ++ (e.variables ++ f.variables)

-- ---- light

-- the precondition, both conditions and both negated atoms
abbrev pub both_added : Schema → EffectRow → EffectRow → List Literal
both_added schema e f = schema.condition ++ (e.condition ++ (f.condition ++ denied e ∷ denied f ∷ []))

-- with the instances of the two equated, their atoms are the same, or they never add two atoms together
abbrev pub are_light : Candidate → Schema → Part → EffectRow → Part → EffectRow → Bool
are_light candidate schema part e other f =
    nat_eq e.predicate f.predicate && are_same_terms (in_one_class (all_pairs (both_added schema e f) (zip (instance_of part e) (instance_of other f)))) e.places f.places
    || is_contradictory candidate (ranges_with schema e f) (both_added schema e f) (zip (instance_of part e) (instance_of other f)) (instance_of part e)

-- the second is renamed apart from the first
abbrev pub is_light_beside : Candidate → Schema → Part → EffectRow → Part → EffectRow → Bool
is_light_beside candidate schema part e other f = are_light candidate schema part e other (apart_from schema e f)

-- the add effect is light beside each add effect of the schema, itself among them
abbrev pub is_light_add : Candidate → Schema → Part → EffectRow → Bool
is_light_add candidate schema part e = each_add candidate schema (is_light_beside candidate schema part e)

abbrev pub is_light_in : Candidate → Schema → Bool
is_light_in candidate schema = each_add candidate schema (is_light_add candidate schema)

abbrev pub is_light : Normal → Candidate → Bool
is_light task candidate = list_all (is_light_in candidate) task.schemas

-- ---- balanced

-- the precondition joined with the row's condition: R(e)
abbrev pub required : Schema → EffectRow → List Literal
required schema e = schema.condition ++ e.condition

abbrev pub is_same_literal : Literal → Literal → Bool
is_same_literal (Holds positive predicate places) (Holds other_positive other other_places) =
    (if positive then other_positive else not other_positive) && nat_eq predicate other && pointwise is_same_place places other_places
is_same_literal (Holds positive predicate places) (Equal other_positive left right) = false
is_same_literal (Equal positive left right) (Holds other_positive other other_places) = false
is_same_literal (Equal positive left right) (Equal other_positive other_left other_right) =
    (if positive then other_positive else not other_positive) && is_same_place left other_left && is_same_place right other_right

abbrev pub is_listed : List Literal → Literal → Bool
is_listed literals literal = list_any (is_same_literal literal) literals

-- every term: the parameters and variables with these ranges, and the objects
abbrev pub terms : Normal → List (List ℕ) → List Place
terms task ranges = map Variable (range_with_len 0 (length ranges)) ++ map Object (range_with_len 0 (length task.objects))

-- all objects of the term are in the range
abbrev pub fits : List (List ℕ) → List ℕ → Place → Bool
fits ranges range term = list_all (is_among range) (objects_of ranges term)

-- the ways to give each own variable of the row a term that fits
abbrev pub fittings : Normal → List (List ℕ) → EffectRow → List (List Place)
fittings task ranges row = choices (map (λ range. filter (fits ranges range) (terms task ranges)) row.variables)

-- the row with these terms for its own variables
abbrev pub row_with : Schema → EffectRow → List Place → EffectRow
row_with schema row given =
    record {
      variables = [];
      condition = map (literal_with (length schema.parameters) given) row.condition;
      adds = row.adds;
      predicate = row.predicate;
      places = map (with_terms (length schema.parameters) given) row.places;
    }

-- R(e), the other row's condition, and e's negated atom
abbrev pub added_beside : Schema → EffectRow → EffectRow → List Literal
added_beside schema e a = required schema e ++ (a.condition ++ denied e ∷ [])

-- row `a` never adds the atom that `d` deletes
abbrev pub never_restores : Candidate → Schema → Part → EffectRow → EffectRow → EffectRow → Bool
never_restores candidate schema part e d a =
    not a.adds || not (nat_eq a.predicate d.predicate)
    || is_contradictory candidate (ranges_with schema e a) (added_beside schema e a) (zip a.places d.places) (instance_of part e)

-- The row deletes an atom of the instance to which `e` adds one: it is true and deleted where `e` adds, and never restored. No variable of its own is left in it.
abbrev pub balances : Candidate → Schema → Part → EffectRow → EffectRow → Bool
balances candidate schema part e d =
    not d.adds
    && list_any (λ other. nat_eq other.predicate d.predicate && pointwise is_same_place (instance_of other d) (instance_of part e)) candidate.parts
    && is_listed (required schema e) (Holds true d.predicate d.places)
    && list_all (is_listed (required schema e)) d.condition
    && list_all (λ a. never_restores candidate schema part e d (apart_from schema e a)) schema.effects

-- some delete effect balances e, with some terms for its own variables
abbrev pub has_balance : Normal → Candidate → Schema → Part → EffectRow → Bool
has_balance task candidate schema part e =
    list_any (λ d. list_any (λ given. balances candidate schema part e (row_with schema d given)) (fittings task (schema.parameters ++ e.variables) d)) schema.effects

-- e never adds a false atom, or some delete effect balances it
abbrev pub is_balanced_at : Normal → Candidate → Schema → Part → EffectRow → Bool
is_balanced_at task candidate schema part e =
    is_contradictory candidate (schema.parameters ++ e.variables) (required schema e ++ denied e ∷ []) [] (instance_of part e)
    || has_balance task candidate schema part e

abbrev pub is_balanced : Normal → Candidate → Bool
is_balanced task candidate = list_all (λ schema. each_add candidate schema (is_balanced_at task candidate schema)) task.schemas

-- ---- accepted

abbrev pub is_accepted : Normal → Candidate → Bool
is_accepted task candidate = is_light task candidate && is_balanced task candidate
