-- What an operator's conditions leave of its effects, and the operators of an action.
use Rattle.std.specs.Prelude.{Bool, ◌==◌, ◌&&◌, not, List, ◌++◌, map}
use Rattle.std.specs.List.{list_any, filter}
use Rattle.sas_task.specs.declared.parts.Pair.{Pair}
use Rattle.sas_task.specs.declared.parts.Effect.{Effect}
use Rattle.sas_task.specs.declared.parts.Operator.{Operator}
use Rattle.reached_task.specs.declared.types.ReachedAction.{ReachedAction}
use Rattle.sas_task.specs.Pairs.{pair}
use Rattle.fdr_effects.specs.Places.{Cover, last_value}
use Rattle.fdr_effects.specs.Split.{split}
use Rattle.fdr_effects.specs.Effects.{effects_of}

-- whether the list has the pair
abbrev pub among : List Pair → Pair → Bool
among pairs p = list_any (λ q. (q.var == p.var) && (q.val == p.val)) pairs

-- whether the list gives the pair's variable another value
abbrev pub excludes : List Pair → Pair → Bool
excludes pairs p = list_any (λ q. (q.var == p.var) && not (q.val == p.val)) pairs

-- whether the operator's conditions leave the effect something to do: they don't make it impossible, and they and its own conditions don't fix its value already
abbrev pub is_of_use : List Pair → Effect → Bool
is_of_use conditions e =
    not (list_any (excludes conditions) e.conditions) && not (among (conditions ++ e.conditions) (pair e.var e.after))

-- the effect without the conditions that the operator's conditions make true
abbrev pub less_known : List Pair → Effect → Effect
less_known conditions e = record { conditions = filter (λ p. not (among conditions p)) e.conditions; var = e.var; after = e.after }

-- whether some effect gives the variable of the pair its value
abbrev pub is_given : List Effect → Pair → Bool
is_given effects p = list_any (λ e. (e.var == p.var) && (e.after == p.val)) effects

-- whether a condition of the effect can go: its variable is the effect's own and has two values, it is the other value, and no effect of the operator gives that
abbrev pub can_go : Cover → List Effect → Effect → Pair → Bool
can_go cover effects e p =
    (p.var == e.var) && ((last_value cover e.var == 1) && (not (p.val == e.after) && not (is_given effects p)))

abbrev pub less_idle : Cover → List Effect → Effect → Effect
less_idle cover effects e = record { conditions = filter (λ p. not (can_go cover effects e p)) e.conditions; var = e.var; after = e.after }

-- what is left of the effects of an operator with these conditions
abbrev pub effects_left : List Pair → List Effect → List Effect
effects_left conditions effects = map (less_known conditions) (filter (is_of_use conditions) effects)

abbrev pub simplified : Cover → List Pair → List Effect → List Effect
simplified cover conditions effects =
    let left = effects_left conditions effects in
    map (less_idle cover left) left

-- one operator for each member of the split of the action's condition
abbrev pub operators_at : Cover → ReachedAction → List Operator
operators_at cover action =
    map (λ m. record { name = action.name; conditions = m; effects = simplified cover m (effects_of cover action.effects); cost = action.cost }) (split cover action.condition)
