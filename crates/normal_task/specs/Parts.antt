-- The parts of a condition (Helmert 2009, section 4): negations are pushed to the atoms, each `forall` becomes the negation of a new derived atom, an `and` has every pairing of its members' parts, an `or` has its members' parts one after another, and the variables of an `exists` stand before those of the parts inside.
use Rattle.std.specs.Prelude.{ℕ, suc, ◌+◌, Bool, true, false, not, ◌&&◌, ◌||◌, nat_lt, List, [], ◌∷◌, ◌++◌, map, length, Option, Some, None, unwrap_or, if◌then◌else◌}
use Rattle.std.specs.List.{list_any, flat_map}
use Rattle.std.specs.Option.{option_map}
use Rattle.pddl_syntax.specs.declared.types.Condition.{Condition, Condition-F, fold-Condition}
use Rattle.pddl_syntax.specs.declared.types.Domain.{Domain}
use Rattle.pddl_syntax.specs.declared.types.Problem.{Problem}
use Rattle.pddl_syntax.specs.declared.types.Term.{Term}
use Rattle.pddl_syntax.specs.declared.types.Term.TheVariants as terms
use Rattle.pddl_syntax.specs.declared.types.Typed.{Typed}
use Rattle.pddl_syntax.specs.Words.{Name, is_same}
pub use Rattle.normal_task.specs.declared.parts.Part.{Part}
pub use Rattle.normal_task.specs.declared.parts.Fresh.{Fresh}
use Rattle.normal_task.specs.declared.task.Literal.{Literal}
use Rattle.normal_task.specs.declared.task.Literal.TheVariants.{Holds, Equal}
use Rattle.normal_task.specs.declared.task.Place.{Place}
use Rattle.normal_task.specs.declared.task.Place.TheVariants.{Variable, Object}
use Rattle.normal_task.specs.Numbers.{object_number, predicate_number, range_of, ranges_of}

-- ---- variables in scope

-- a variable of a list around a condition: its name, the objects that it ranges over, and its number
pub record Slot : Type 0 where
  pub variable : Name
  pub range : List ℕ
  pub place : ℕ

-- the variables of the lists around a condition, the innermost first
abbrev pub Scope : Type 0
Scope = List Slot

-- the variable that the name stands for: the innermost of that name
abbrev pub slot_of : Scope → Name → Option Slot
slot_of [] name = None
slot_of (slot ∷ outer) name = if is_same slot.variable name then Some slot else slot_of outer name

-- the scope with one more variable, of this number
abbrev pub with_slot : ℕ → Name → List ℕ → Scope → Scope
with_slot place variable range outer = record { variable = variable; range = range; place = place } ∷ outer

-- the scope inside a list of variables, which are numbered on from here
abbrev pub scope_inside : Domain → Problem → List Typed → ℕ → Scope → Scope
scope_inside domain problem [] place outer = outer
scope_inside domain problem (variable ∷ more) place outer =
    scope_inside domain problem more (suc place) (with_slot place variable.name.name (range_of domain problem variable) outer)

-- the variables, the outermost first, that the test asks for and that no inner variable of the same name hides
abbrev pub slots_for : (Name → Bool) → Scope → List Slot
slots_for asks [] = []
slots_for asks (slot ∷ outer) =
    slots_for (λ name. asks name && not (is_same slot.variable name)) outer ++ (if asks slot.variable then slot ∷ [] else [])

-- these variables alone, numbered in their order from here on
abbrev pub renumbered : List Slot → ℕ → Scope → Scope
renumbered [] place outer = outer
renumbered (slot ∷ more) place outer = renumbered more (suc place) (with_slot place slot.variable slot.range outer)

abbrev pub variable_at : Scope → Name → Place
variable_at scope name = Variable (unwrap_or (option_map (λ slot. slot.place) (slot_of scope name)) 0)

-- the place of the term
abbrev pub place_of : Domain → Problem → Scope → Term → Place
place_of domain problem scope (terms.Variable variable) = variable_at scope variable.name
place_of domain problem scope (terms.Object object) = Object (object_number domain problem object.name)

abbrev pub places_of : Domain → Problem → Scope → List Term → List Place
places_of domain problem scope list = map (place_of domain problem scope) list

-- ---- parts

-- what comes of something, and the new predicates that it needs, in the order of their numbers
pub record Made (A : Type 0) : Type 0 where
  pub items : List A
  pub fresh : List Fresh

-- what comes of some things one after another, where the new predicates of each are numbered on from those before
abbrev pub in_turn : {A : Type 0} → List (ℕ → Made A) → ℕ → Made A
in_turn {A} [] next = record { items = []; fresh = [] }
in_turn {A} (first ∷ more) next =
    record {
      items = (first next).items ++ (in_turn more (next + length (first next).fresh)).items;
      fresh = (first next).fresh ++ (in_turn more (next + length (first next).fresh)).fresh;
    }

-- The variables from the given number on are moved up, to make room for others.
abbrev pub moved_place : ℕ → ℕ → Place → Place
moved_place from by (Variable number) = Variable (if nat_lt number from then number else number + by)
moved_place from by (Object object) = Object object

abbrev pub moved : ℕ → ℕ → Literal → Literal
moved from by (Holds positive predicate places) = Holds positive predicate (map (moved_place from by) places)
moved from by (Equal positive left right) = Equal positive (moved_place from by left) (moved_place from by right)

-- two parts in one: the variables of the second stand behind those of the first
abbrev pub joined : ℕ → Part → Part → Part
joined around first second =
    record { variables = first.variables ++ second.variables; literals = first.literals ++ map (moved around (length first.variables)) second.literals }

-- every pairing, the second varying fastest
abbrev pub paired : ℕ → List Part → List Part → List Part
paired around firsts seconds = flat_map (λ first. map (joined around first) seconds) firsts

-- every pairing of the members' parts, where so many variables stand around them
abbrev pub all_of : ℕ → List (ℕ → Made Part) → ℕ → Made Part
all_of around [] next = record { items = record { variables = []; literals = [] } ∷ []; fresh = [] }
all_of around (first ∷ more) next =
    record {
      items = paired around (first next).items (all_of around more (next + length (first next).fresh)).items;
      fresh = (first next).fresh ++ (all_of around more (next + length (first next).fresh)).fresh;
    }

-- the part of one literal
abbrev pub only : Literal → Made Part
only literal = record { items = record { variables = []; literals = literal ∷ [] } ∷ []; fresh = [] }

abbrev pub with_variables : List (List ℕ) → Part → Part
with_variables variables part = record { variables = variables ++ part.variables; literals = part.literals }

-- ---- conditions

-- How a condition is cut, or its negation where it isn't `positive`: in this scope, with so many variables around it, and with this number for its first new predicate.
abbrev pub Cut : Type 0
Cut = (positive : Bool) → Scope → (around : ℕ) → (next : ℕ) → Made Part

-- what is known of a condition: its free variables, and how it is cut
pub record Known : Type 0 where
  pub is_free : Name → Bool
  pub cut : Cut

abbrev pub is_term_of : Name → Term → Bool
is_term_of name (terms.Variable variable) = is_same variable.name name
is_term_of name (terms.Object object) = false

abbrev pub is_listed : List Typed → Name → Bool
is_listed variables name = list_any (λ variable. is_same variable.name.name name) variables

-- one layer: whether the variable is free in it
abbrev pub is_free_step : Condition-F Known → Name → Bool
is_free_step (Condition-F.True at) name = false
is_free_step (Condition-F.Atom atom) name = list_any (is_term_of name) atom.terms
is_free_step (Condition-F.Equal left right at) name = is_term_of name left || is_term_of name right
is_free_step (Condition-F.Not inside at) name = inside.is_free name
is_free_step (Condition-F.And members at) name = list_any (λ member. member.is_free name) members
is_free_step (Condition-F.Or members at) name = list_any (λ member. member.is_free name) members
is_free_step (Condition-F.Imply premise conclusion at) name = premise.is_free name || conclusion.is_free name
is_free_step (Condition-F.Forall variables inside at) name = not (is_listed variables name) && inside.is_free name
is_free_step (Condition-F.Exists variables inside at) name = not (is_listed variables name) && inside.is_free name

module _ (domain : Domain) (problem : Problem) where
  -- the new predicates are numbered behind the declared ones
  abbrev pub fresh_number : ℕ → ℕ
  fresh_number next = length domain.predicates + next

  -- the inside, in the scope of the variables
  abbrev pub cut_inside : List Typed → Known → Cut
  cut_inside variables inside positive scope around next =
      inside.cut positive (scope_inside domain problem variables around scope) (around + length variables) next

  -- some objects of the variables make the inside true
  abbrev pub exists_inside : List Typed → Known → Cut
  exists_inside variables inside positive scope around next =
      record {
        items = map (with_variables (ranges_of domain problem variables)) (cut_inside variables inside positive scope around next).items;
        fresh = (cut_inside variables inside positive scope around next).fresh;
      }

  -- the free variables of a quantified condition that are in scope, the outermost first
  abbrev pub free_slots : List Typed → Known → Scope → List Slot
  free_slots variables inside scope = slots_for (λ name. not (is_listed variables name) && inside.is_free name) scope

  -- the negation of a new derived atom with these arguments, whose axioms have these parts
  abbrev pub denied : List Slot → (next : ℕ) → Made Part → Made Part
  denied arguments next body =
      record {
        items = record { variables = []; literals = Holds false (fresh_number next) (map (λ slot. Variable slot.place) arguments) ∷ [] } ∷ [];
        fresh = record { arguments = map (λ slot. slot.range) arguments; parts = body.items } ∷ body.fresh;
      }

  -- No objects of the variables make the inside true: a new derived atom, which is true where some do, is false. Its arguments are the free variables.
  abbrev pub none_inside : List Typed → Known → Cut
  none_inside variables inside positive scope around next =
      denied (free_slots variables inside scope) next
      (exists_inside variables inside positive (renumbered (free_slots variables inside scope) 0 []) (length (free_slots variables inside scope)) (suc next))

  -- one layer: how it is cut
  abbrev pub cut_step : Condition-F Known → Cut
  cut_step (Condition-F.True at) positive scope around next = if positive then all_of around [] next else in_turn [] next
  cut_step (Condition-F.Atom atom) positive scope around next =
      only (Holds positive (predicate_number domain atom.predicate.name) (places_of domain problem scope atom.terms))
  cut_step (Condition-F.Equal left right at) positive scope around next =
      only (Equal positive (place_of domain problem scope left) (place_of domain problem scope right))
  cut_step (Condition-F.Not inside at) positive scope around next = inside.cut (not positive) scope around next
  cut_step (Condition-F.And members at) positive scope around next =
      if positive then all_of around (map (λ member. member.cut true scope around) members) next
      else in_turn (map (λ member. member.cut false scope around) members) next
  cut_step (Condition-F.Or members at) positive scope around next =
      if positive then in_turn (map (λ member. member.cut true scope around) members) next
      else all_of around (map (λ member. member.cut false scope around) members) next
  cut_step (Condition-F.Imply premise conclusion at) positive scope around next =
      if positive then in_turn (premise.cut false scope around ∷ conclusion.cut true scope around ∷ []) next
      else all_of around (premise.cut true scope around ∷ conclusion.cut false scope around ∷ []) next
  cut_step (Condition-F.Forall variables inside at) positive scope around next =
      if positive then none_inside variables inside false scope around next else exists_inside variables inside false scope around next
  cut_step (Condition-F.Exists variables inside at) positive scope around next =
      if positive then exists_inside variables inside true scope around next else none_inside variables inside true scope around next

  abbrev pub known_step : Condition-F Known → Known
  known_step layer = record { is_free = is_free_step layer; cut = cut_step layer }

  abbrev pub known : Condition → Known
  known = fold-Condition Known known_step

  -- the parts of a condition, and the new predicates that they need
  abbrev pub parts : Condition → Cut
  parts condition = (known condition).cut
