-- When a condition holds in a state (PDDL 2.2, goal descriptions and derived predicates).
use Rattle.std.specs.Prelude.{Bool, true, not, ◌&&◌, ◌||◌, List, [], map}
use Rattle.std.specs.Cmp.Lexicographic.{pointwise}
use Rattle.std.specs.List.{list_all, list_any}
use Rattle.planning.specs.Task as planning
use Rattle.pddl_syntax.specs.declared.types.Atom.{Atom}
use Rattle.pddl_syntax.specs.declared.types.Condition.{Condition, Condition-F, fold-Condition}
use Rattle.pddl_syntax.specs.declared.types.Derived.{Derived}
use Rattle.pddl_syntax.specs.declared.types.Domain.{Domain}
use Rattle.pddl_syntax.specs.declared.types.Problem.{Problem}
use Rattle.pddl_syntax.specs.declared.types.Term.{Term}
use Rattle.pddl_syntax.specs.declared.types.Term.TheVariants.{Variable, Object}
use Rattle.pddl_syntax.specs.Words.{Name, is_same}
use Rattle.pddl_syntax.specs.Objects.{Binding, bound, object_at, choices, is_choice}

-- ---- ground atoms and states

-- a predicate, or a function, with objects as its arguments
pub record GroundAtom : Type 0 where
  pub predicate : Name
  pub objects : List Name

-- the same predicate, with the same objects in the same order
abbrev pub is_same_atom : GroundAtom → GroundAtom → Bool
is_same_atom a b = is_same a.predicate b.predicate && pointwise is_same a.objects b.objects

-- a set of ground atoms
abbrev pub State : Type 0
State = planning.State GroundAtom

-- the object that the term names
abbrev pub object_of : Binding → Term → Name
object_of binding (Variable variable) = object_at binding variable.name
object_of binding (Object object) = object.name

-- the atom with the objects that its terms name
abbrev pub ground : Binding → Atom → GroundAtom
ground binding atom = record { predicate = atom.predicate.name; objects = map (object_of binding) atom.terms }

-- ---- conditions

-- One layer of a condition. In place of each condition inside stands its truth, which depends on the binding.
abbrev pub holds_step : Domain → Problem → State → Condition-F (Binding → Bool) → Binding → Bool
holds_step domain problem state (Condition-F.True at) binding = true
holds_step domain problem state (Condition-F.Atom atom) binding = state (ground binding atom)
holds_step domain problem state (Condition-F.Equal left right at) binding = is_same (object_of binding left) (object_of binding right)
holds_step domain problem state (Condition-F.Not inside at) binding = not (inside binding)
holds_step domain problem state (Condition-F.And members at) binding = list_all (λ member. member binding) members
holds_step domain problem state (Condition-F.Or members at) binding = list_any (λ member. member binding) members
holds_step domain problem state (Condition-F.Imply premise conclusion at) binding = not (premise binding) || conclusion binding
holds_step domain problem state (Condition-F.Forall variables inside at) binding =
    list_all (λ names. inside (bound variables names binding)) (choices domain problem variables)
holds_step domain problem state (Condition-F.Exists variables inside at) binding =
    list_any (λ names. inside (bound variables names binding)) (choices domain problem variables)

-- the condition holds under the binding, in a state that has the derived atoms too
abbrev pub holds : Domain → Problem → State → Condition → Binding → Bool
holds domain problem state = fold-Condition (Binding → Bool) (holds_step domain problem state)

-- ---- derived atoms

-- the predicate is derived: some axiom has it as its head. The other predicates are basic.
abbrev pub is_derived : Domain → Name → Bool
is_derived domain predicate = list_any (λ rule. is_same rule.head.name.name predicate) domain.axioms

-- the axiom gives the atom: it is for the atom's predicate, the atom's objects have the types of its head, and its body holds for them
abbrev pub derives : Domain → Problem → State → GroundAtom → Derived → Bool
derives domain problem state atom rule =
    is_same rule.head.name.name atom.predicate && is_choice domain problem rule.head.variables atom.objects
    && holds domain problem state rule.body (bound rule.head.variables atom.objects [])
