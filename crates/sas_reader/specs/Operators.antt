-- The section of the operators.
use Rattle.std.specs.Prelude.{ℕ, Bool, true, not, ◌&&◌, ◌||◌, ◌==◌, nat_le, nat_eq, List, [], ◌∷◌, map, length, codes, Option, Some, None, is_some}
use Rattle.std.specs.List.{list_any, find, flat_map, range_with_len}
use Rattle.std.specs.Option.{option_map, option_map_or, option_eq}
use Rattle.sas_task.specs.declared.parts.Pair.{Pair}
use Rattle.sas_task.specs.declared.parts.Effect.{Effect}
use Rattle.sas_task.specs.declared.parts.Operator.{Operator}
use Rattle.sas_task.specs.Output.{Line}
use Rattle.sas_task.specs.Task.{Task}
use Rattle.sas_task.specs.Valid.{layer_of}
use Rattle.sas_reader.specs.Forms.{◌>>=◌, ◌>>◌, Form, given, passing, next_line, fixed, line, listed}
use Rattle.sas_reader.specs.Numbers.{number, number_or_none, number_line}
use Rattle.sas_reader.specs.Contexts.{is_value}
use Rattle.sas_reader.specs.Words.{is_name, less_space}
use Rattle.sas_reader.specs.Pairs.{value, effect_conditions, conditions}

-- an operator's name, which may have one space more at its end
unfoldable pub name : Form Line
name = next_line >>= λ written. passing (is_name (less_space written)) (less_space written)

-- what an effect line tells: the effect, and the value that the operator requires of its variable, if it requires one
abbrev pub Told : Type 0
Told = Effect × Option ℕ

-- what earlier effect lines say of the value that the operator requires of the variable, if one is on it
abbrev pub told_before : List Told → ℕ → Option (Option ℕ)
told_before earlier var = option_map (λ t. t.1) (find (λ t. t.0.var == var) earlier)

-- the variable isn't in the prevail list, and earlier effect lines on it require the same value
abbrev pub may_change : List Pair → List Told → ℕ → Option ℕ → Bool
may_change prevail earlier var required =
    not (list_any (λ p. p.var == var) prevail) && option_map_or (λ before. option_eq nat_eq before required) (told_before earlier var) true

-- -1 for none, or a value of the variable
unfoldable pub required_value : Task → ℕ → Form (Option ℕ)
required_value task var = number_or_none >>= λ required. passing (option_map_or (is_value task var) required true) required

-- The conditions, the variable, the value that is required of it, and the new value. The variable isn't derived.
unfoldable pub effect : Task → List Pair → List Told → Form Told
effect task prevail earlier =
    effect_conditions task
    >>= λ pairs. number
    >>= λ var. required_value task var
    >>= λ required. value task var
    >>= λ after. passing (not (is_some (layer_of task var)) && may_change prevail earlier var required) (record { conditions = pairs; var = var; after = after }, required)

-- at most 2,147,483,647, and 1 where operators have no costs of their own
unfoldable pub cost : Bool → Form ℕ
cost metric = number_line >>= λ cost. passing (nat_le cost 2147483647 && (metric || (cost == 1))) cost

-- the value that a prevail condition or an effect line requires of the variable
abbrev pub required_of : List Pair → List Told → ℕ → Option ℕ
required_of prevail told var =
    option_map_or (λ p. Some p.val) (find (λ p. p.var == var) prevail) (option_map_or (λ required. required) (told_before told var) None)

abbrev pub pair_if : ℕ → Option ℕ → List Pair
pair_if var None = []
pair_if var (Some val) = record { var = var; val = val } ∷ []

-- each variable of which a value is required, in order, with that value
abbrev pub required : ℕ → List Pair → List Told → List Pair
required variables prevail told = flat_map (λ var. pair_if var (required_of prevail told var)) (range_with_len 0 variables)

-- the name, the prevail conditions, the effects, a line for each, and the cost
unfoldable pub operator : Bool → Task → Form Operator
operator metric task =
    fixed (codes "begin_operator")
    >> name
    >>= λ name. conditions task
    >>= λ prevail. number_line
    >>= λ count. listed (λ earlier. line (effect task prevail earlier)) count []
    >>= λ told. cost metric
    >>= λ cost. fixed (codes "end_operator")
    >> given (record { name = name; conditions = required (length task.variables) prevail told; effects = map (λ t. t.0) told; cost = cost })

unfoldable pub operators : Bool → Task → Form (List Operator)
operators metric task = number_line >>= λ count. listed (λ _. operator metric task) count []

-- the operator, with one space less at the end of its name if it has one
abbrev pub spared : Operator → Operator
spared o = record { name = less_space o.name; conditions = o.conditions; effects = o.effects; cost = o.cost }
