-- Conditions (goal descriptions of PDDL 2.2), or their faults.
use Rattle.std.specs.Prelude.{ℕ, Bool, ◌||◌, List, [], ◌∷◌, drop, slice_index_or, codes, if◌then◌else◌}
use Rattle.pddl_lexer.specs.declared.position.At.{At}
use Rattle.pddl_lexer.specs.Positions.{nowhere}
use Rattle.pddl_lexer.specs.Members.{Members, NoMore, WordThen, ListThen, is_empty, is_list, position, word, inside, rest}
use Rattle.pddl_lexer.specs.declared.fault.ShapePlace.TheVariants as places
use Rattle.pddl_syntax.specs.declared.condition.ConditionHead.{ConditionHead}
use Rattle.pddl_syntax.specs.declared.condition.ConditionHead.TheVariants as heads
use Rattle.pddl_syntax.specs.declared.expected.Expected.TheVariants as expected
use Rattle.pddl_syntax.specs.declared.types.Condition.{Condition}
use Rattle.pddl_syntax.specs.declared.types.Condition.TheVariants.{True, Atom, Equal, Not, And, Or, Imply, Forall, Exists}
use Rattle.pddl_syntax.specs.Outcome.{Reading, Reads, made, both, own, refused, joined}
use Rattle.pddl_syntax.specs.Shapes.{unsupported, malformed, check_all, check_exact}
use Rattle.pddl_syntax.specs.Values.{term, atom, variables}
use Rattle.pddl_syntax.specs.Words.{spells}

-- a comparison of numbers, or a preference
abbrev pub is_unsupported : List ℕ → Bool
is_unsupported bytes =
    spells (codes "<") bytes || spells (codes ">") bytes || spells (codes "<=") bytes || spells (codes ">=") bytes || spells (codes "preference") bytes

-- what the first word of a condition says
abbrev pub condition_head : List ℕ → ConditionHead
condition_head bytes =
    if spells (codes "and") bytes then heads.And
    else if spells (codes "or") bytes then heads.Or
    else if spells (codes "not") bytes then heads.Not
    else if spells (codes "imply") bytes then heads.Imply
    else if spells (codes "forall") bytes then heads.Forall
    else if spells (codes "exists") bytes then heads.Exists
    else if spells (codes "=") bytes then heads.Equal
    else if is_unsupported bytes then heads.Unsupported
    else heads.Atom

-- A list with this head, at this position, with these members: `m` are those after the head, `members` those as conditions, `one` and `two` the first
-- and the second of them.
unfoldable pub by_head : ConditionHead → At → (whole m : Members) → (members : Reading (List Condition)) → (one two : Reading Condition) → Reading Condition
by_head heads.And at whole m members one two = made (λ conditions. And conditions at) (own (check_all (expected.List places.Condition) m) members)
by_head heads.Or at whole m members one two = made (λ conditions. Or conditions at) (own (check_all (expected.List places.Condition) m) members)
by_head heads.Not at whole m members one two =
    own (check_exact places.Condition at (expected.List places.Condition ∷ []) m) (made (λ condition. Not condition at) one)
by_head heads.Imply at whole m members one two =
    own (check_exact places.Condition at (expected.List places.Condition ∷ expected.List places.Condition ∷ []) m)
    (both (λ premise conclusion. Imply premise conclusion at) one two)
by_head heads.Forall at whole m members one two =
    own (check_exact places.Condition at (expected.List places.VariableList ∷ expected.List places.Condition ∷ []) m)
    (both (λ bound condition. Forall bound condition at) (variables m) two)
by_head heads.Exists at whole m members one two =
    own (check_exact places.Condition at (expected.List places.VariableList ∷ expected.List places.Condition ∷ []) m)
    (both (λ bound condition. Exists bound condition at) (variables m) two)
by_head heads.Equal at whole m members one two =
    own (check_exact places.Condition at (expected.Term ∷ expected.Term ∷ []) m) (Reads (Equal (term m) (term (rest m)) at))
by_head heads.Unsupported at whole m members one two = refused (unsupported at)
by_head heads.Atom at whole m members one two = made Atom (atom expected.Term places.Condition at whole)

-- a list at this position; `members`, `one` and `two` are what its members after the first are as conditions
abbrev pub condition_list : At → Members → (members : Reading (List Condition)) → (one two : Reading Condition) → Reading Condition
condition_list at inside members one two =
    if is_empty inside then Reads (True at)
    else if is_list inside then refused (malformed places.Condition (position inside))
    else by_head (condition_head (word inside)) at inside (rest inside) members one two

-- where no condition stands; the faults of the list around it say so
abbrev pub no_condition : Reading Condition
no_condition = refused (malformed places.Condition nowhere)

-- the condition at a position
abbrev pub condition_at : List (Reading Condition) → ℕ → Reading Condition
condition_at readings position = slice_index_or readings position no_condition

-- each member as a condition
unfoldable pub conditions : Members → List (Reading Condition)
conditions NoMore = []
conditions (WordThen at word more) = refused (malformed places.Condition at) ∷ conditions more
conditions (ListThen at inside more) =
    condition_list at inside (joined (drop 1 (conditions inside))) (condition_at (conditions inside) 1) (condition_at (conditions inside) 2) ∷ conditions more

-- the first member as a condition
unfoldable pub condition : Members → Reading Condition
condition m = condition_at (conditions m) 0
