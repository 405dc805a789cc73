-- A small lawful task, and one that is refused for each thing that makes a task lawful.
use Rattle.std.specs.Prelude.{ℕ, Bool, true, false, List, [], ◌∷◌, ◌++◌, codes}
use Rattle.pddl_syntax.specs.Words.{Name}
use Rattle.normal_task.specs.declared.task.AxiomRow.{AxiomRow}
use Rattle.normal_task.specs.declared.task.CostRow.{CostRow}
use Rattle.normal_task.specs.declared.task.CostRow.TheVariants as costs
use Rattle.normal_task.specs.declared.task.EffectRow.{EffectRow}
use Rattle.normal_task.specs.declared.task.GroundAtom.{GroundAtom}
use Rattle.normal_task.specs.declared.task.Literal.{Literal}
use Rattle.normal_task.specs.declared.task.Literal.TheVariants.{Holds, Equal}
use Rattle.normal_task.specs.declared.task.Normal.{Normal}
use Rattle.normal_task.specs.declared.task.Place.TheVariants.{Variable, Object}
use Rattle.normal_task.specs.declared.task.PredicateRow.{PredicateRow}
use Rattle.normal_task.specs.declared.task.Schema.{Schema}
use Rattle.normal_task.specs.declared.task.ValueRow.{ValueRow}
use Rattle.normal_task.specs.Lawful.{IsLawful}
use Rattle.normal_task.specs.Meaning.{atom_of}

abbrev pub predicate : Name → ℕ → Bool → Bool → PredicateRow
predicate name arity derived fixed = record { name = name; arity = arity; derived = derived; fixed = fixed }

-- a basic predicate, a derived one and a fixed one
abbrev pub predicates : List PredicateRow
predicates = predicate (codes "p") 1 false false ∷ predicate (codes "q") 1 true false ∷ predicate (codes "r") 1 false true ∷ []

-- the first predicate is added for each object but that of the action
abbrev pub spread : EffectRow
spread = record { variables = (0 ∷ 1 ∷ []) ∷ []; condition = Equal false (Variable 0) (Variable 1) ∷ []; adds = true; predicate = 0; places = Variable 1 ∷ [] }

-- an action over one object, on which its cost depends
abbrev pub go : Schema
go = record { action = codes "go"; shown = 1; parameters = (0 ∷ 1 ∷ []) ∷ []; condition = []; effects = spread ∷ []; cost = costs.Term 0 (Variable 0 ∷ []) }

-- an object has the second predicate where it has the first
abbrev pub follows : AxiomRow
follows = record { predicate = 1; shown = 1; parameters = (0 ∷ 1 ∷ []) ∷ []; condition = Holds true 0 (Variable 0 ∷ []) ∷ [] }

-- what the action costs for an object
abbrev pub price : (object value : ℕ) → ValueRow
price object value = record { function = 0; objects = object ∷ []; value = value }

abbrev pub small : Normal
small =
    record {
      objects = codes "a" ∷ codes "b" ∷ [];
      predicates = predicates;
      schemas = go ∷ [];
      axioms = follows ∷ [];
      init = atom_of 0 (1 ∷ []) ∷ [];
      values = price 0 3 ∷ [];
      goal = Holds true 1 (Object 0 ∷ []) ∷ [];
      metric = true;
    }

-- ---- the task with one part changed

abbrev pub with_object : Name → Normal
with_object name = record (small) { objects = codes "a" ∷ name ∷ [] }

abbrev pub with_predicate : PredicateRow → Normal
with_predicate row = record (small) { predicates = predicates ++ row ∷ [] }

abbrev pub with_schema : Schema → Normal
with_schema schema = record (small) { schemas = schema ∷ [] }

abbrev pub with_parameter : List ℕ → Normal
with_parameter range = with_schema (record (go) { parameters = range ∷ [] })

abbrev pub with_condition : Literal → Normal
with_condition literal = with_schema (record (go) { condition = literal ∷ [] })

abbrev pub with_effect : EffectRow → Normal
with_effect effect = with_schema (record (go) { effects = effect ∷ [] })

abbrev pub with_cost : CostRow → Normal
with_cost cost = with_schema (record (go) { cost = cost })

abbrev pub with_rule : AxiomRow → Normal
with_rule rule = record (small) { axioms = rule ∷ [] }

abbrev pub with_init : List GroundAtom → Normal
with_init init = record (small) { init = init }

abbrev pub with_values : List ValueRow → Normal
with_values values = record (small) { values = values }

-- none of these is lawful, each for one thing alone
pub record IsRefused : Type 0 where
  -- names without a byte, with a byte below 33, and with one above 126
  pub no_byte : ¬ IsLawful (with_object [])
  pub low_byte : ¬ IsLawful (with_object (codes "b c"))
  pub high_byte : ¬ IsLawful (with_object (127 ∷ []))
  pub predicate_name : ¬ IsLawful (with_predicate (predicate (codes "s t") 1 false false))
  pub derived_and_fixed : ¬ IsLawful (with_predicate (predicate (codes "s") 1 true true))
  -- actions: their names, and what they show and range over
  pub action_name : ¬ IsLawful (with_schema (record (go) { action = codes "go on" }))
  pub shown : ¬ IsLawful (with_schema (record (go) { shown = 2 }))
  pub range_object : ¬ IsLawful (with_parameter (0 ∷ 2 ∷ []))
  pub falling_range : ¬ IsLawful (with_parameter (1 ∷ 0 ∷ []))
  pub repeating_range : ¬ IsLawful (with_parameter (0 ∷ 1 ∷ 1 ∷ []))
  -- literals: a predicate that isn't there, another number of arguments, a variable or an object that isn't there
  pub literal_predicate : ¬ IsLawful (with_condition (Holds true 3 (Variable 0 ∷ [])))
  pub literal_arity : ¬ IsLawful (with_condition (Holds true 0 []))
  pub literal_variable : ¬ IsLawful (with_condition (Holds true 0 (Variable 1 ∷ [])))
  pub literal_object : ¬ IsLawful (with_condition (Holds true 0 (Object 2 ∷ [])))
  pub left_side : ¬ IsLawful (with_condition (Equal true (Variable 1) (Variable 0)))
  pub right_side : ¬ IsLawful (with_condition (Equal true (Variable 0) (Variable 1)))
  -- effects
  pub effect_range : ¬ IsLawful (with_effect (record (spread) { variables = (1 ∷ 0 ∷ []) ∷ [] }))
  pub effect_condition : ¬ IsLawful (with_effect (record (spread) { condition = Equal false (Variable 0) (Variable 2) ∷ [] }))
  pub effect_place : ¬ IsLawful (with_effect (record (spread) { places = Variable 2 ∷ [] }))
  pub effect_arity : ¬ IsLawful (with_effect (record (spread) { places = [] }))
  pub effect_on_derived : ¬ IsLawful (with_effect (record (spread) { predicate = 1 }))
  pub effect_on_fixed : ¬ IsLawful (with_effect (record (spread) { predicate = 2 }))
  -- costs: too great, other than 1 or that of a term without the metric, and of a variable that isn't there
  pub great_cost : ¬ IsLawful (with_cost (costs.Number 2147483648))
  pub unit_cost : ¬ IsLawful (record (with_cost (costs.Number 2)) { metric = false })
  pub cost_of_term : ¬ IsLawful (record (small) { metric = false })
  pub cost_place : ¬ IsLawful (with_cost (costs.Term 0 (Variable 1 ∷ [])))
  -- axioms: more arguments than parameters, other than the predicate has, and one for a basic predicate
  pub rule_shown : ¬ IsLawful (with_rule (record (follows) { parameters = []; condition = [] }))
  pub rule_range : ¬ IsLawful (with_rule (record (follows) { parameters = (1 ∷ 0 ∷ []) ∷ [] }))
  pub rule_condition : ¬ IsLawful (with_rule (record (follows) { condition = Holds true 0 (Variable 1 ∷ []) ∷ [] }))
  pub rule_arity : ¬ IsLawful (with_rule (record (follows) { shown = 0 }))
  pub rule_for_basic : ¬ IsLawful (with_rule (record (follows) { predicate = 0 }))
  -- the start
  pub init_object : ¬ IsLawful (with_init (atom_of 0 (2 ∷ []) ∷ []))
  pub init_arity : ¬ IsLawful (with_init (atom_of 0 [] ∷ []))
  pub init_derived : ¬ IsLawful (with_init (atom_of 1 (0 ∷ []) ∷ []))
  pub init_once : ¬ IsLawful (with_init (atom_of 0 (1 ∷ []) ∷ atom_of 0 (1 ∷ []) ∷ []))
  pub value_object : ¬ IsLawful (with_values (price 2 3 ∷ []))
  pub great_value : ¬ IsLawful (with_values (price 0 2147483648 ∷ []))
  pub values_once : ¬ IsLawful (with_values (price 0 3 ∷ price 1 3 ∷ price 1 4 ∷ []))
  -- a goal over a variable
  pub goal : ¬ IsLawful (record (small) { goal = Holds true 1 (Variable 0 ∷ []) ∷ [] })
  -- a predicate that is derived where it is false
  pub falls : ¬ IsLawful (with_rule (record (follows) { condition = Holds false 1 (Variable 0 ∷ []) ∷ [] }))
