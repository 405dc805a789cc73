-- Types that are found below others: sets of types that grow by the entries of `:types`.
use Rattle.std.specs.Prelude.{◌≡◌, ℕ, Bool, true, false, not, ◌&&◌, ◌||◌, List, [], ◌∷◌, ◌++◌, map, length, if◌then◌else◌}
use Rattle.std.specs.List.{list_any, filter}
use Rattle.pddl_lexer.specs.Positions.{nowhere}
use Rattle.pddl_syntax.specs.declared.types.Domain.{Domain}
use Rattle.pddl_syntax.specs.declared.types.Named.{Named}
use Rattle.pddl_syntax.specs.declared.types.Problem.{Problem}
use Rattle.pddl_syntax.specs.declared.types.Typed.{Typed}
use Rattle.pddl_syntax.specs.Words.{Name, is_same}
use Rattle.pddl_syntax.specs.Objects.{root, leads, has_listed_type, objects}
use Rattle.normal_task.specs.Numbers.{object_number}

-- the type is found
abbrev pub has : List Name → Name → Bool
has found name = list_any (is_same name) found

-- the entry's type isn't found, and isn't `object`, but one of its supertypes is
abbrev pub is_next : List Name → Typed → Bool
is_next found entry = not (has found entry.name.name) && (not (is_same entry.name.name root) && list_any (λ parent. has found parent.name) entry.types)

-- the found types, and the entry's if it is next
abbrev pub with_next : List Name → Typed → List Name
with_next found entry = if is_next found entry then found ++ entry.name.name ∷ [] else found

-- a chain of entries leads from the type to a listed one
abbrev pub leads_to : List Typed → List Named → Name → Bool
leads_to entries listed name = list_any (λ type. leads entries (length entries) name type.name) listed

-- each found type leads to a listed one
abbrev pub AllLead : List Typed → List Named → List Name → Type 0
AllLead entries listed found = (name : Name) → has found name ≡ true → leads_to entries listed name ≡ true

-- what was found is found still, and the new ones lead where those before led
pub record Grows (entries : List Typed) (before after : List Name) : Type 0 where
  pub kept : (name : Name) → has before name ≡ true → has after name ≡ true
  pub lead : (listed : List Named) → AllLead entries listed before → AllLead entries listed after

-- no entry is next
abbrev pub IsClosed : List Typed → List Name → Type 0
IsClosed entries found = list_any (is_next found) entries ≡ false

-- how many entries have a type that isn't found
abbrev pub missing : List Typed → List Name → ℕ
missing entries found = length (filter (λ entry. not (has found entry.name.name)) entries)

-- any type will do: none is listed, or `object` is
abbrev pub is_any : List Named → Bool
is_any [] = true
is_any (type ∷ more) = list_any (λ listed. is_same listed.name root) (type ∷ more)

-- the type that is listed alone, where `object` stands for no type at all
abbrev pub one_type : List Named → List Name
one_type [] = root ∷ []
one_type (type ∷ []) = type.name ∷ []
one_type (type ∷ other ∷ more) = []

-- the object has a type among those found, or any type will do
abbrev pub has_type_among : Bool → List Name → Typed → Bool
has_type_among any found object = any || list_any (λ type. has found type.name) object.types

-- the numbers of the objects that have a listed type
abbrev pub range_of_types : Domain → Problem → List Named → List ℕ
range_of_types domain problem listed = map (object_number domain problem) (map (λ object. object.name.name) (filter (has_listed_type domain.types listed) (objects domain problem)))

-- the numbers of the objects of the type
abbrev pub objects_of_type : Domain → Problem → Name → List ℕ
objects_of_type domain problem type = range_of_types domain problem (record { name = type; at = nowhere } ∷ [])
