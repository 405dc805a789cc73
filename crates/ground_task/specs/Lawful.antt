-- When a ground task is lawful: its numbers are positions, its atoms have the arities of their predicates and none is static, and no derived predicate depends on itself.
use Rattle.std.specs.Prelude.{◌≡◌, ℕ, Bool, true, false, not, ◌&&◌, ◌||◌, ◌==◌, nat_lt, nat_le, length, unwrap_or, slice_get}
use Rattle.std.specs.List.{list_all}
use Rattle.std.specs.Option.{option_map}
use Rattle.lists.specs.Names.{is_name}
use Rattle.normal_task.specs.declared.task.GroundAtom.{GroundAtom}
use Rattle.normal_task.specs.declared.task.PredicateRow.{PredicateRow}
use Rattle.normal_task.specs.Lawful.{most, is_word, differ}
use Rattle.normal_task.specs.Meaning.{is_same_atom}
use Rattle.ground_task.specs.declared.types.Cond.{Cond}
use Rattle.ground_task.specs.declared.types.GoalRow.{GoalRow}
use Rattle.ground_task.specs.declared.types.GoalRow.TheVariants.{Never, All}
use Rattle.ground_task.specs.declared.types.Ground.{Ground}
use Rattle.ground_task.specs.declared.types.GroundAction.{GroundAction}
use Rattle.ground_task.specs.declared.types.GroundAxiom.{GroundAxiom}
use Rattle.ground_task.specs.declared.types.GroundEffect.{GroundEffect}
use Rattle.ground_task.specs.GroundTask.{is_derived}

module _ (task : Ground) where
  -- the number is the position of an object
  abbrev pub is_object : ℕ → Bool
  is_object number = nat_lt number (length task.objects)

  -- the predicate is one of the task's, and its row passes the test
  abbrev pub is_predicate : (PredicateRow → Bool) → ℕ → Bool
  is_predicate test number = unwrap_or (option_map test (slice_get task.normal_predicates number)) false

  -- the atom has the task's objects, as many as its predicate's arity, and its predicate isn't static and passes the test
  abbrev pub is_atom : (PredicateRow → Bool) → GroundAtom → Bool
  is_atom test atom =
      list_all is_object atom.objects && is_predicate (λ row. (row.arity == length atom.objects && not row.fixed) && test row) atom.predicate

  -- such an atom that actions may change
  abbrev pub is_basic_atom : GroundAtom → Bool
  is_basic_atom = is_atom (λ row. not row.derived)

  -- such an atom that axioms make true
  abbrev pub is_derived_atom : GroundAtom → Bool
  is_derived_atom = is_atom (λ row. row.derived)

  -- each literal is on an atom of the task
  abbrev pub is_condition : Cond GroundAtom → Bool
  is_condition condition = list_all (is_atom (λ row. true)) condition.positive && list_all (is_atom (λ row. true)) condition.negative

  -- an effect is on a basic atom
  abbrev pub is_effect : GroundEffect → Bool
  is_effect effect = is_condition effect.condition && is_basic_atom effect.atom

  -- costs count only with the metric, and aren't too great
  abbrev pub is_cost : ℕ → Bool
  is_cost cost = nat_le cost most && (task.metric || cost == 1)

  -- an action has a name, a cost, and literals and effects on atoms of the task
  abbrev pub is_action : GroundAction → Bool
  is_action action = is_name action.name && is_condition action.condition && list_all is_effect action.effects && is_cost action.cost

  -- an axiom is for a derived atom
  abbrev pub is_axiom : GroundAxiom → Bool
  is_axiom rule = is_derived_atom rule.atom && is_condition rule.condition

  -- a goal's literals are on atoms of the task
  abbrev pub is_goal : GoalRow GroundAtom → Bool
  is_goal Never = true
  is_goal (All condition) = is_condition condition

  -- the atom is basic, or its predicate has a lower rank than this one
  abbrev pub is_below : (ℕ → ℕ) → ℕ → GroundAtom → Bool
  is_below rank predicate atom = not (is_derived task.normal_predicates atom) || nat_lt (rank atom.predicate) (rank predicate)

  -- each derived atom that the axiom's condition asks for has a predicate of lower rank than the axiom's own
  abbrev pub asks_below : (ℕ → ℕ) → GroundAxiom → Bool
  asks_below rank rule =
      list_all (is_below rank rule.atom.predicate) rule.condition.positive && list_all (is_below rank rule.atom.predicate) rule.condition.negative

  -- the ground task is lawful
  pub record IsLawful : Type 0 where
    pub objects : list_all is_word task.objects ≡ true
    pub predicates : list_all (λ row. is_word row.name && not (row.derived && row.fixed)) task.normal_predicates ≡ true
    pub init : list_all is_basic_atom task.init ≡ true
    pub init_once : differ is_same_atom task.init ≡ true
    pub actions : list_all is_action task.actions ≡ true
    pub axioms : list_all is_axiom task.axioms ≡ true
    pub goal : is_goal task.goal ≡ true
    -- no derived predicate depends on itself: some rank falls from each axiom's predicate to the derived ones that its condition asks for
    pub rank : ℕ → ℕ
    pub falls : list_all (asks_below rank) task.axioms ≡ true
