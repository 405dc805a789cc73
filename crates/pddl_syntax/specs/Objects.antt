-- The objects of a task, their types, and what variables stand for (PDDL 2.2, typing).
use Rattle.std.specs.Prelude.{ℕ, Bool, true, not, ◌&&◌, ◌||◌, List, [], ◌∷◌, ◌++◌, map, length, codes, if◌then◌else◌}
use Rattle.std.specs.Cmp.Lexicographic.{pointwise}
use Rattle.std.specs.List.{list_any, filter}
use Rattle.lists.specs.Choices as lists
use Rattle.pddl_syntax.specs.declared.types.Domain.{Domain}
use Rattle.pddl_syntax.specs.declared.types.Named.{Named}
use Rattle.pddl_syntax.specs.declared.types.Problem.{Problem}
use Rattle.pddl_syntax.specs.declared.types.Typed.{Typed}
use Rattle.pddl_syntax.specs.Words.{Name, is_same}
use Rattle.names.specs.Reachability.{Edges, reaches}

-- ---- types

-- the type that every object has
abbrev pub root : Name
root = codes "object"

-- the entry of `:types` puts its supertypes above the type; an entry for `object` puts none above it
abbrev pub declares : Typed → Name → Bool
declares entry type = is_same entry.name.name type && not (is_same type root)

-- the types and their supertypes as the edges of a graph; a type with two entries has the supertypes of both
abbrev pub some_supertype : List Typed → Edges
some_supertype types from passes = list_any (λ entry. declares entry from && list_any (λ parent. passes parent.name) entry.types) types

-- a chain of at most so many entries leads from one type up to another
abbrev pub leads : List Typed → ℕ → Name → Name → Bool
leads types = reaches (some_supertype types)

-- The object has the type: it is `object`, or some chain leads to it from a type with which the object is declared. A chain of more entries than there are adds nothing.
abbrev pub has_type : List Typed → Typed → Name → Bool
has_type types object type = is_same type root || list_any (λ own. leads types (length types) own.name type) object.types

-- the object has one of the listed types, where no type at all stands for `object`
abbrev pub has_listed_type : List Typed → List Named → Typed → Bool
has_listed_type types [] object = true
has_listed_type types (type ∷ more) object = list_any (λ listed. has_type types object listed.name) (type ∷ more)

-- ---- objects

-- the constants of the domain, and then the objects of the problem
abbrev pub objects : Domain → Problem → List Typed
objects domain problem = domain.constants ++ problem.objects

-- the objects that the variable ranges over: those of its type
abbrev pub range : Domain → Problem → Typed → List Name
range domain problem variable = map (λ object. object.name.name) (filter (has_listed_type domain.types variable.types) (objects domain problem))

-- every list with one object of its type for each variable
abbrev pub choices : Domain → Problem → List Typed → List (List Name)
choices domain problem variables = lists.choices (map (range domain problem) variables)

-- the names are one object of its type for each variable
abbrev pub is_choice : Domain → Problem → List Typed → List Name → Bool
is_choice domain problem variables names = list_any (pointwise is_same names) (choices domain problem variables)

-- ---- variables

-- a variable, and the object that it stands for
pub record Bound : Type 0 where
  pub variable : Name
  pub object : Name

-- what each variable stands for, the innermost first
abbrev pub Binding : Type 0
Binding = List Bound

-- inside a list of variables each stands for the object at its place, and what stands outside is kept behind them
abbrev pub bound : List Typed → List Name → Binding → Binding
bound [] names outer = outer
bound (variable ∷ more) [] outer = outer
bound (variable ∷ more) (name ∷ names) outer = bound more names (record { variable = variable.name.name; object = name } ∷ outer)

-- The object that the variable stands for: of several lists with the variable, the innermost counts. An unbound one stands for the empty name, which no object has.
abbrev pub object_at : Binding → Name → Name
object_at [] variable = []
object_at (first ∷ outer) variable = if is_same first.variable variable then first.object else object_at outer variable
