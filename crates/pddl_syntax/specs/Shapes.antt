-- A list's own faults: at its `(`, at a word among its members, at a list where none may stand, or at a missing member.
-- Only the first of them counts. Members stand from left to right, and a missing member comes last.
use Rattle.std.specs.Prelude.{ℕ, Bool, true, false, not, ◌||◌, nat_le, List, [], ◌∷◌, Option, Some, None, Result, Ok, Err, codes, if◌then◌else◌}
use Rattle.pddl_lexer.specs.declared.position.At.{At}
use Rattle.pddl_lexer.specs.Members.{Members, NoMore, WordThen, ListThen, is_empty, is_list, position, word, inside, rest}
use Rattle.pddl_lexer.specs.declared.fault.Fault.{Fault}
use Rattle.pddl_lexer.specs.declared.fault.Kind.{Kind}
use Rattle.pddl_lexer.specs.declared.fault.Kind.TheVariants.{Shape, BadName, ReservedWord, NotWhole, NumberTooLarge, UnsupportedRequirement, UnsupportedSection, RepeatedSection}
use Rattle.pddl_lexer.specs.declared.fault.ShapePlace.{ShapePlace}
use Rattle.pddl_lexer.specs.declared.fault.ShapePlace.TheVariants as places
use Rattle.pddl_syntax.specs.declared.expected.Expected.{Expected}
use Rattle.pddl_syntax.specs.declared.expected.Expected.TheVariants.{List as AList, Name as AName, Symbol, Variable, Term, Number, Cost, Requirement}
use Rattle.pddl_syntax.specs.Words.{is_same, lowered, is_dash, is_word, is_one_of, is_name, is_variable, begins_with_question_mark, reserved, accepted, is_whole, largest}
use Rattle.lists.specs.Digits.{value_of}

abbrev pub fault : Kind → At → Fault
fault kind at = record { kind = kind; at = at }

abbrev pub malformed : ShapePlace → At → Fault
malformed place at = fault (Shape place) at

abbrev pub unsupported : At → Fault
unsupported at = fault UnsupportedSection at

abbrev pub repeated : At → Fault
repeated at = fault RepeatedSection at

-- the words are the same but for capitals
abbrev pub are_alike : List ℕ → List ℕ → Bool
are_alike bytes word = is_same (lowered word) (lowered bytes)

-- a place has no fault, or its first one
abbrev pub Check : Type 0
Check = Result (Unit {0}) Fault

abbrev pub passes : Check
passes = Ok tt

abbrev pub at_position : At → Option Kind → Check
at_position at None = passes
at_position at (Some kind) = Err (fault kind at)

-- the first fault of one place, or else that of the next
abbrev pub next : Check → Check → Check
next (Ok none) more = more
next (Err fault) more = Err fault

-- ---- one member

abbrev pub name_fault : List ℕ → Option Kind
name_fault bytes = if is_name bytes then None else Some BadName

abbrev pub number_fault : List ℕ → Option Kind
number_fault bytes = if is_whole bytes then (if nat_le (value_of bytes) largest then None else Some NumberTooLarge) else Some NotWhole

abbrev pub variable_fault : List ℕ → Option Kind
variable_fault bytes =
    if is_variable bytes then None
    else if begins_with_question_mark bytes then Some BadName
    else Some (Shape places.VariableList)

-- what is wrong with a word where this is expected
abbrev pub word_fault : Expected → List ℕ → Option Kind
word_fault (AList place) bytes = Some (Shape place)
word_fault (AName place) bytes = name_fault bytes
word_fault (Symbol place) bytes = if is_one_of reserved bytes then Some ReservedWord else name_fault bytes
word_fault Variable bytes = variable_fault bytes
word_fault Term bytes = if is_variable bytes then None else name_fault bytes
word_fault (Number place) bytes = number_fault bytes
word_fault Cost bytes = number_fault bytes
word_fault Requirement bytes = if is_one_of accepted bytes then None else Some UnsupportedRequirement

-- what is wrong with a list there
abbrev pub list_fault : Expected → Option Kind
list_fault (AList place) = None
list_fault (AName place) = Some (Shape place)
list_fault (Symbol place) = Some (Shape place)
list_fault Variable = Some (Shape places.VariableList)
list_fault Term = Some (Shape places.Term)
list_fault (Number place) = Some (Shape place)
list_fault Cost = None
list_fault Requirement = Some (Shape places.Section)

-- what is wrong with the first member
abbrev pub check_member : Expected → Members → Check
check_member expected m = at_position (position m) (if is_list m then list_fault expected else word_fault expected (word m))

-- ---- members of a list

-- the same is expected of each member
unfoldable pub check_all : Expected → Members → Check
check_all expected NoMore = passes
check_all expected (WordThen at word more) = next (check_member expected (WordThen at word more)) (check_all expected more)
check_all expected (ListThen at inside more) = next (check_member expected (ListThen at inside more)) (check_all expected more)

-- these are expected in turn, in a list of this place, at this position, and nothing after them
unfoldable pub check_exact : ShapePlace → At → List Expected → Members → Check
check_exact place at [] m = if is_empty m then passes else Err (malformed place (position m))
check_exact place at (expected ∷ more) m =
    if is_empty m then Err (malformed place at)
    else next (check_member expected m) (check_exact place at more (rest m))

-- (NAME ARGUMENT*), in a list of this place, at this position: an atom, or a function with its arguments
abbrev pub check_atom : Expected → ShapePlace → At → Members → Check
check_atom argument place at m =
    if is_empty m then Err (malformed place at)
    else next (check_member (Symbol place) m) (check_all argument (rest m))

-- ---- lists of names or variables with types

-- a variable may be of one of several types, in a list of their own; a name may not
abbrev pub takes_several_types : Expected → Bool
takes_several_types Variable = true
takes_several_types other = false

-- what is wrong with a list that stands where the type of such an item must. Behind variables it is looked at by itself.
abbrev pub type_list_fault : Expected → Members → Option Kind
type_list_fault item inside =
    if takes_several_types item then None
    else if is_word (codes "either") inside then Some UnsupportedSection
    else Some (Shape places.TypeName)

-- what is wrong with the type of such items that is the first member
abbrev pub check_type : Expected → Members → Check
check_type item m = at_position (position m) (if is_list m then type_list_fault item (inside m) else name_fault (word m))

-- (either NAME NAME*), at this position
abbrev pub check_either : At → Members → Check
check_either at m =
    if not (is_word (codes "either") m) || is_empty (rest m) then Err (malformed places.TypeName at)
    else check_all (AName places.TypeName) (rest m)

-- names or variables in groups, a group followed by `-` and its type, in a list of this place, at this position
unfoldable mutual
  pub check_typed : Expected → ShapePlace → At → Members → Check
  check_typed item place at NoMore = passes
  check_typed item place at (WordThen here word more) =
      if is_dash word then check_after_dash item place at more
      else next (check_member item (WordThen here word more)) (check_typed item place at more)
  check_typed item place at (ListThen here inside more) = next (check_member item (ListThen here inside more)) (check_typed item place at more)

  -- the same after a `-`
  pub check_after_dash : Expected → ShapePlace → At → Members → Check
  check_after_dash item place at NoMore = Err (malformed place at)
  check_after_dash item place at (WordThen here word more) = next (check_type item (WordThen here word more)) (check_typed item place at more)
  check_after_dash item place at (ListThen here inside more) = next (check_type item (ListThen here inside more)) (check_typed item place at more)

-- (NAME VARIABLE-LIST), at this position
abbrev pub check_head : At → Members → Check
check_head at m =
    if is_empty m then Err (malformed places.Head at)
    else next (check_member (Symbol places.Head) m) (check_typed Variable places.Head at (rest m))
