-- Tasks and candidates for worked examples.
use Rattle.std.specs.Prelude.{ℕ, true, false, Some, None, List, [], ◌∷◌, map}
use Rattle.std.specs.List.{range_with_len}
use Rattle.normal_task.specs.declared.task.CostRow.TheVariants.{Number}
use Rattle.normal_task.specs.declared.task.EffectRow.{EffectRow}
use Rattle.normal_task.specs.declared.task.GroundAtom.{GroundAtom}
use Rattle.normal_task.specs.declared.task.Literal.{Literal}
use Rattle.normal_task.specs.declared.task.Literal.TheVariants.{Holds}
use Rattle.normal_task.specs.declared.task.Normal.{Normal}
use Rattle.normal_task.specs.declared.task.Place.{Place}
use Rattle.normal_task.specs.declared.task.Place.TheVariants.{Variable, Object}
use Rattle.normal_task.specs.declared.task.PredicateRow.{PredicateRow}
use Rattle.normal_task.specs.declared.task.Schema.{Schema}
use Rattle.contradictions.specs.declared.types.Candidate.{Candidate}
use Rattle.contradictions.specs.declared.types.Part.{Part}
use Rattle.invariant_check.specs.Names.{of_parts}

-- ---- literals and effects

-- the predicate p or q is true, or false, of the terms
abbrev pub p : List Place → Literal
p terms = Holds true 0 terms

abbrev pub not_p : List Place → Literal
not_p terms = Holds false 0 terms

abbrev pub q : List Place → Literal
q terms = Holds true 1 terms

abbrev pub not_q : List Place → Literal
not_q terms = Holds false 1 terms

-- r, which has no arguments, is true, or false
abbrev pub r : Literal
r = Holds true 2 []

abbrev pub not_r : Literal
not_r = Holds false 2 []

-- variables, and the objects a and b
abbrev pub x : Place
x = Variable 0

abbrev pub y : Place
y = Variable 1

abbrev pub z : Place
z = Variable 2

abbrev pub a : Place
a = Object 0

abbrev pub b : Place
b = Object 1

-- the range with both objects
abbrev pub both_objects : List ℕ
both_objects = 0 ∷ 1 ∷ []

-- an effect on a predicate, for all objects of its variables, where the condition holds
abbrev pub adds : List (List ℕ) → List Literal → ℕ → List Place → EffectRow
adds variables condition predicate places = record { variables = variables; condition = condition; adds = true; predicate = predicate; places = places }

abbrev pub deletes : List (List ℕ) → List Literal → ℕ → List Place → EffectRow
deletes variables condition predicate places = record { variables = variables; condition = condition; adds = false; predicate = predicate; places = places }

abbrev pub action : List (List ℕ) → List Literal → List EffectRow → Schema
action parameters condition effects = record { action = []; shown = 0; parameters = parameters; condition = condition; effects = effects; cost = Number 1 }

-- a predicate that effects change
abbrev pub changing_row : ℕ → PredicateRow
changing_row arity = record { name = []; arity = arity; derived = false; fixed = false }

-- a task with these objects, and with predicates of these arities
abbrev pub task : List (List ℕ) → List ℕ → List Schema → Normal
task objects arities schemas =
    record { objects = objects; predicates = map changing_row arities; schemas = schemas; axioms = []; init = []; values = []; goal = []; metric = false }

-- one of two objects with the predicates p, q and r of this arity
abbrev pub with_schemas : ℕ → List Schema → Normal
with_schemas arity schemas = task ([] ∷ [] ∷ []) (arity ∷ arity ∷ arity ∷ []) schemas

-- ---- candidates

-- every place of the predicate is a parameter
abbrev pub whole : ℕ → ℕ → Part
whole arity predicate = record { predicate = predicate; places = range_with_len 0 arity; counted = None }

-- the predicate of one argument, which is counted
abbrev pub counting : ℕ → Part
counting predicate = record { predicate = predicate; places = []; counted = Some 0 }

-- {p} and {p, q} of predicates without arguments, and {p(x), q(x)}
abbrev pub only_p : Candidate
only_p = of_parts 0 (whole 0 0 ∷ [])

abbrev pub p_and_q : Candidate
p_and_q = of_parts 0 (whole 0 0 ∷ whole 0 1 ∷ [])

abbrev pub p_and_q_of_one : Candidate
p_and_q_of_one = of_parts 1 (whole 1 0 ∷ whole 1 1 ∷ [])

-- {p} of one argument, which is counted
abbrev pub counted_p : Candidate
counted_p = of_parts 0 (counting 0 ∷ [])

-- the atom of the predicate with this object
abbrev pub of_object : ℕ → ℕ → GroundAtom
of_object predicate object = record { predicate = predicate; objects = object ∷ [] }

-- ---- tasks with one action

-- an action of p, q and r without arguments
abbrev pub one_action : List Literal → List EffectRow → Normal
one_action condition effects = with_schemas 0 (action [] condition effects ∷ [])

-- an action with one parameter, or two, over both objects
abbrev pub action_of_one : List Literal → List EffectRow → Normal
action_of_one condition effects = with_schemas 1 (action (both_objects ∷ []) condition effects ∷ [])

abbrev pub action_of_two : List Literal → List EffectRow → Normal
action_of_two condition effects = with_schemas 1 (action (both_objects ∷ both_objects ∷ []) condition effects ∷ [])

-- what is off is turned on
abbrev pub switch : Normal
switch = task [] (0 ∷ 0 ∷ []) (action [] (q [] ∷ []) (adds [] [] 0 [] ∷ deletes [] [] 1 [] ∷ []) ∷ [])

-- where q(x) holds, it is deleted, and p(x) and q(y) are added
abbrev pub back : Normal
back =
    task ([] ∷ [] ∷ []) (1 ∷ 1 ∷ []) (action (both_objects ∷ both_objects ∷ []) (q (x ∷ []) ∷ []) (adds [] [] 0 (x ∷ []) ∷ deletes [] [] 1 (x ∷ []) ∷ adds [] [] 1 (y ∷ []) ∷ []) ∷ [])

-- q is deleted by two actions, and p is added by the second effect of the second and by the third
abbrev pub late : Normal
late =
    with_schemas 0
    (action [] (q [] ∷ []) (deletes [] [] 1 [] ∷ [])
    ∷ action [] (q [] ∷ []) (deletes [] [] 1 [] ∷ adds [] [] 0 [] ∷ [])
    ∷ action [] [] (adds [] [] 0 [] ∷ [])
    ∷ [])

abbrev pub predicates_of : Candidate → List ℕ
predicates_of candidate = map (λ part. part.predicate) candidate.parts
