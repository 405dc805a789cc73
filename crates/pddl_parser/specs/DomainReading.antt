-- The reading of a domain file (PDDL 2.2 and 3.1), or all its shape faults, in the order of the file: a list's own fault, and if it has
-- none those of its members from left to right.
pub use Rattle.pddl_parser.specs.declared.action.ActionKey.{ActionKey}
pub use Rattle.pddl_parser.specs.declared.action.ActionPart.{ActionPart}
pub use Rattle.pddl_parser.specs.declared.domain.DomainKey.{DomainKey}
pub use Rattle.pddl_parser.specs.declared.domain.DomainSection.{DomainSection}
pub use Rattle.pddl_syntax.specs.Reading.{check_file, title, section, sections}
use Rattle.std.specs.Prelude.{ℕ, Bool, true, false, ◌&&◌, List, [], ◌∷◌, ◌++◌, Option, Some, None, Result, Ok, Err, codes, if◌then◌else◌}
use Rattle.std.specs.List.{fold}
use Rattle.lists.specs.Members.{is_among}
use Rattle.pddl_lexer.specs.declared.position.At.{At}
use Rattle.pddl_lexer.specs.Members.{Members, NoMore, WordThen, ListThen, is_empty, is_list, position, word, inside, rest}
use Rattle.pddl_lexer.specs.declared.fault.Fault.{Fault}
use Rattle.pddl_lexer.specs.declared.fault.ShapePlace.{ShapePlace}
use Rattle.pddl_lexer.specs.declared.fault.ShapePlace.TheVariants as places
use Rattle.pddl_parser.specs.declared.action.ActionKey.TheVariants as keys
use Rattle.pddl_parser.specs.declared.action.ActionPart.TheVariants as parts
use Rattle.pddl_parser.specs.declared.domain.DomainKey.TheVariants as domain_keys
use Rattle.pddl_parser.specs.declared.domain.DomainSection.TheVariants as domain
use Rattle.pddl_syntax.specs.declared.expected.Expected.TheVariants as expected
use Rattle.pddl_syntax.specs.declared.types.Action.{Action}
use Rattle.pddl_syntax.specs.declared.types.Condition.TheVariants.{True}
use Rattle.pddl_syntax.specs.declared.types.Derived.{Derived}
use Rattle.pddl_syntax.specs.declared.types.Domain.{Domain}
use Rattle.pddl_syntax.specs.declared.types.Effect.TheVariants.{Nothing}
use Rattle.pddl_syntax.specs.declared.types.Head.{Head}
use Rattle.pddl_syntax.specs.Conditions.{condition}
use Rattle.pddl_syntax.specs.Effects.{effect}
use Rattle.pddl_syntax.specs.Outcome.{Reading, Reads, made, both, own, refused, every}
use Rattle.pddl_syntax.specs.Shapes.{Check, passes, next, unsupported, repeated, are_alike, malformed, check_exact, check_member, check_all}
use Rattle.pddl_syntax.specs.Values.{named, names, head, variables}
use Rattle.pddl_syntax.specs.Words.{Name, is_dash, spells, is_word, begins_with_colon}

-- ---- functions

-- `number`, after a `-` in `:functions`; the section stands at this position
abbrev pub check_number_type : At → Members → Check
check_number_type at m =
    if is_empty m then Err (malformed places.Section at)
    else if is_list m then Err (malformed places.TypeName (position m))
    else if is_word (codes "number") m then passes
    else Err (unsupported (position m))

-- Own faults of `(:functions F*)`: heads, directly after any of which `- number` may stand. `after` says whether a head stands directly before.
unfoldable mutual
  pub check_functions : At → (after : Bool) → Members → Check
  check_functions at after NoMore = passes
  check_functions at after (WordThen here word more) = if after && is_dash word then check_after_dash at more else Err (malformed places.Head here)
  check_functions at after (ListThen here inside more) = check_functions at true more

  pub check_after_dash : At → Members → Check
  check_after_dash at NoMore = check_number_type at NoMore
  check_after_dash at (WordThen here word more) = next (check_number_type at (WordThen here word more)) (check_functions at false more)
  check_after_dash at (ListThen here inside more) = next (check_number_type at (ListThen here inside more)) (check_functions at false more)

-- the heads among the members
unfoldable pub heads : Members → Reading (List Head)
heads NoMore = Reads []
heads (WordThen at word more) = heads more
heads (ListThen at inside more) = both (λ x xs. x ∷ xs) (head (ListThen at inside more)) (heads more)

-- ---- actions

abbrev pub action_key : List ℕ → Option ActionKey
action_key bytes =
    if spells (codes ":parameters") bytes then Some keys.Parameters
    else if spells (codes ":precondition") bytes then Some keys.Precondition
    else if spells (codes ":effect") bytes then Some keys.Effect
    else None

-- what stands after a key
abbrev pub value_place : ActionKey → ShapePlace
value_place keys.Parameters = places.VariableList
value_place keys.Precondition = places.Condition
value_place keys.Effect = places.Effect

-- a key at this position, which may be one of those before
abbrev pub new_key : (repeats : Bool) → At → Option ActionKey → Result ActionKey Fault
new_key repeats at None = Err (unsupported at)
new_key repeats at (Some key) = if repeats then Err (repeated at) else Ok key

-- the key here, after these keys
unfoldable pub key_here : List Name → Members → Result ActionKey Fault
key_here earlier m =
    if begins_with_colon (word m) then new_key (is_among are_alike earlier (word m)) (position m) (action_key (word m)) else Err (malformed places.Action (position m))

-- the value of a key that stands at this position
unfoldable pub check_key_value : ActionKey → At → Members → Check
check_key_value key at m =
    if is_empty m then Err (malformed places.Action at)
    else if is_list m then passes
    else Err (malformed (value_place key) (position m))

-- Own faults of an action from a key's place on, after these keys. Keys stand in any order, each at most once and with its value.
unfoldable mutual
  pub check_keys : List Name → Members → Check
  check_keys earlier NoMore = passes
  check_keys earlier (WordThen at word more) = check_keyed (earlier ++ word ∷ []) (key_here earlier (WordThen at word more)) at more
  check_keys earlier (ListThen at inside more) = check_keyed (earlier ++ [] ∷ []) (key_here earlier (ListThen at inside more)) at more

  -- the same after a key at this position, the last of these
  pub check_keyed : List Name → Result ActionKey Fault → At → Members → Check
  check_keyed earlier (Err fault) at m = Err fault
  check_keyed earlier (Ok key) at NoMore = check_key_value key at NoMore
  check_keyed earlier (Ok key) at (WordThen here word more) = next (check_key_value key at (WordThen here word more)) (check_keys earlier more)
  check_keyed earlier (Ok key) at (ListThen here inside more) = next (check_key_value key at (ListThen here inside more)) (check_keys earlier more)

abbrev pub check_action : At → Members → Check
check_action at m =
    if is_empty m then Err (malformed places.Action at)
    else next (check_member (expected.Name places.Action) m) (check_keys [] (rest m))

-- a key with its value, the first of these members
abbrev pub part : Option ActionKey → Members → Reading ActionPart
part None m = refused (unsupported (position m))
part (Some keys.Parameters) m = made parts.Parameters (variables m)
part (Some keys.Precondition) m = made parts.Precondition (condition m)
part (Some keys.Effect) m = made parts.Effect (effect m)

-- the keys with their values, in order: the words are keys, and the lists are values
unfoldable pub action_parts : Members → Reading (List ActionPart)
action_parts NoMore = Reads []
action_parts (WordThen at word more) = both (λ x xs. x ∷ xs) (part (action_key word) more) (action_parts more)
action_parts (ListThen at inside more) = action_parts more

abbrev pub with_part : Action → ActionPart → Action
with_part action (parts.Parameters variables) = record action { parameters = variables }
with_part action (parts.Precondition condition) = record action { precondition = condition }
with_part action (parts.Effect effect) = record action { effect = effect }

-- an action without keys, at this position: it has no parameters, and its precondition and effect are empty
abbrev pub bare_action : At → Members → Action
bare_action at m = record { name = named m; parameters = []; precondition = True at; effect = Nothing at }

-- (:action NAME [:parameters (VARIABLE-LIST)] [:precondition CONDITION] [:effect EFFECT]): the members after `:action`
unfoldable pub action : At → Members → Reading Action
action at m = own (check_action at m) (made (fold with_part (bare_action at m)) (action_parts (rest m)))

-- ---- axioms

-- (:derived HEAD CONDITION): the members after `:derived`
abbrev pub derived : At → Members → Reading Derived
derived at m =
    own (check_exact places.Section at (expected.List places.Head ∷ expected.List places.Condition ∷ []) m)
    (both (λ head body. record { head = head; body = body; at = at }) (head m) (condition (rest m)))

-- ---- domains

abbrev pub domain_key : List ℕ → Option DomainKey
domain_key bytes =
    if spells (codes ":requirements") bytes then Some domain_keys.Requirements
    else if spells (codes ":types") bytes then Some domain_keys.Types
    else if spells (codes ":constants") bytes then Some domain_keys.Constants
    else if spells (codes ":predicates") bytes then Some domain_keys.Predicates
    else if spells (codes ":functions") bytes then Some domain_keys.Functions
    else if spells (codes ":action") bytes then Some domain_keys.Action
    else if spells (codes ":derived") bytes then Some domain_keys.Derived
    else None

-- the members after the keyword of a section at this position
unfoldable pub domain_section_of : DomainKey → At → Members → Reading DomainSection
domain_section_of domain_keys.Requirements at m = own (check_all expected.Requirement m) (Reads domain.Requirements)
domain_section_of domain_keys.Types at m = made domain.Types (names at m)
domain_section_of domain_keys.Constants at m = made domain.Constants (names at m)
domain_section_of domain_keys.Predicates at m = made domain.Predicates (own (check_all (expected.List places.Head) m) (every head m))
domain_section_of domain_keys.Functions at m = made domain.Functions (own (check_functions at false m) (heads m))
domain_section_of domain_keys.Action at m = made domain.Action (action at m)
domain_section_of domain_keys.Derived at m = made domain.Derived (derived at m)

-- a section of a domain, after sections with these keywords
unfoldable pub domain_section : List Name → Members → Reading DomainSection
domain_section earlier m = section domain_key domain_section_of earlier m

abbrev pub with_domain_section : Domain → DomainSection → Domain
with_domain_section so_far domain.Requirements = so_far
with_domain_section so_far (domain.Types types) = record so_far { types = types }
with_domain_section so_far (domain.Constants constants) = record so_far { constants = constants }
with_domain_section so_far (domain.Predicates predicates) = record so_far { predicates = predicates }
with_domain_section so_far (domain.Functions functions) = record so_far { functions = functions }
with_domain_section so_far (domain.Action action) = record so_far { actions = so_far.actions ++ action ∷ [] }
with_domain_section so_far (domain.Derived axiom_section) = record so_far { axioms = so_far.axioms ++ axiom_section ∷ [] }

abbrev pub no_domain : Domain
no_domain = record { types = []; constants = []; predicates = []; functions = []; actions = []; axioms = [] }

-- (define (domain NAME) SECTION*)
unfoldable pub domain_reading : Members → Reading Domain
domain_reading m =
    own (check_file (position m) (inside m))
    (both (λ name found. fold with_domain_section no_domain found) (title (codes "domain") (rest (inside m))) (sections domain_section [] (rest (rest (inside m)))))
