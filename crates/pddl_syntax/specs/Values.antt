-- What lists without faults say that have no conditions in them: names, arguments, and names with types.
use Rattle.std.specs.Prelude.{ℕ, List, [], ◌∷◌, Option, Some, None, if◌then◌else◌}
use Rattle.pddl_lexer.specs.declared.position.At.{At}
use Rattle.pddl_lexer.specs.Members.{Members, NoMore, WordThen, ListThen, is_list, position, word, inside, rest}
use Rattle.pddl_lexer.specs.declared.fault.Kind.TheVariants.{NumberTooLarge}
use Rattle.pddl_lexer.specs.declared.fault.ShapePlace.{ShapePlace}
use Rattle.pddl_lexer.specs.declared.fault.ShapePlace.TheVariants as places
use Rattle.pddl_syntax.specs.declared.expected.Expected.{Expected}
use Rattle.pddl_syntax.specs.declared.expected.Expected.TheVariants as expected
use Rattle.pddl_syntax.specs.declared.types.Atom.{Atom}
use Rattle.pddl_syntax.specs.declared.types.Head.{Head}
use Rattle.pddl_syntax.specs.declared.types.Named.{Named}
use Rattle.pddl_syntax.specs.declared.types.Term.{Term}
use Rattle.pddl_syntax.specs.declared.types.Term.TheVariants.{Variable, Object}
use Rattle.pddl_syntax.specs.declared.types.Typed.{Typed}
use Rattle.pddl_syntax.specs.Outcome.{Reading, Reads, made, both, own, refused, at_each}
use Rattle.pddl_syntax.specs.Shapes.{fault, check_atom, check_head, check_either, check_typed}
use Rattle.pddl_syntax.specs.Words.{is_dash, lowered, number_of, begins_with_question_mark}

abbrev pub named : Members → Named
named m = record { name = lowered (word m); at = position m }

-- an argument: a variable has its `?`
abbrev pub term : Members → Term
term m = if begins_with_question_mark (word m) then Variable (named m) else Object (named m)

abbrev pub atom_of : At → Members → Atom
atom_of at m = record { predicate = named m; terms = at_each term (rest m); at = at }

-- (NAME ARGUMENT*), in a list of this place, at this position
abbrev pub atom : Expected → ShapePlace → At → Members → Reading Atom
atom argument place at m = own (check_atom argument place at m) (Reads (atom_of at m))

-- the number here
abbrev pub number : Members → Reading ℕ
number m = number_or_fault (position m) (number_of (word m))
  where
    number_or_fault : At → Option ℕ → Reading ℕ
    number_or_fault at None = refused (fault NumberTooLarge at)
    number_or_fault at (Some number) = Reads number

-- ---- names or variables in groups, a group followed by `-` and its type

-- the type that is the first member, or the several types of an `either`
abbrev pub listed_types : Members → List Named
listed_types m = if is_list m then at_each named (rest (inside m)) else named m ∷ []

-- the types of the group that stands here; none where no `-` follows
abbrev pub group_types : Members → List Named
group_types NoMore = []
group_types (WordThen at word more) = if is_dash word then listed_types more else group_types more
group_types (ListThen at inside more) = group_types more

abbrev pub with_types : List Named → Named → Typed
with_types types name = record { name = name; types = types }

-- the types after a group that ends here; none at the end of the list
abbrev pub closing_types : Members → List Named
closing_types m = if is_dash (word m) then listed_types (rest m) else []

-- where the group that stands here ends: at a `-`, or at the end of the list
abbrev pub group_end : Members → Members
group_end NoMore = NoMore
group_end (WordThen at word more) = if is_dash word then WordThen at word more else group_end more
group_end (ListThen at inside more) = group_end more

-- Each name with the types of its group. A group may be empty; its types are then the types of nothing.
unfoldable mutual
  pub typed : Members → List Typed
  typed NoMore = []
  typed (WordThen at word more) =
      if is_dash word then typed_after_type more
      else with_types (group_types more) (named (WordThen at word more)) ∷ typed more
  typed (ListThen at inside more) = with_types (group_types more) (named (ListThen at inside more)) ∷ typed more

  pub typed_after_type : Members → List Typed
  typed_after_type NoMore = []
  typed_after_type (WordThen at word more) = typed more
  typed_after_type (ListThen at inside more) = typed more

-- NAME-LIST: the members of a section at this position
abbrev pub names : At → Members → Reading (List Typed)
names at m = own (check_typed (expected.Name places.NameList) places.Section at m) (Reads (typed m))

-- The lists in a list of variables. Each stands where a type must, and is `(either NAME NAME*)`.
abbrev pub eithers : Members → Reading (Unit {0})
eithers NoMore = Reads tt
eithers (WordThen at word more) = eithers more
eithers (ListThen at inside more) = both (λ one others. others) (own (check_either at inside) (Reads (tt {0}))) (eithers more)

-- (VARIABLE-LIST)
abbrev pub variables : Members → Reading (List Typed)
variables m = own (check_typed expected.Variable places.VariableList (position m) (inside m)) (made (λ none. typed (inside m)) (eithers (inside m)))

-- (NAME VARIABLE-LIST)
unfoldable pub head : Members → Reading Head
head m =
    own (check_head (position m) (inside m))
    (made (λ none. record { name = named (inside m); variables = typed (rest (inside m)) }) (eithers (rest (inside m))))
