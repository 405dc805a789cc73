-- When a normal task is lawful: its numbers are positions, its atoms have the arities of their predicates, and no derived predicate depends on itself.
use Rattle.std.specs.Prelude.{◌≡◌, ℕ, ◌+◌, Bool, true, false, not, ◌&&◌, ◌||◌, ◌==◌, nat_lt, nat_le, List, [], ◌∷◌, length, Option, Some, None, slice_get}
use Rattle.std.specs.List.{list_all, list_any}
use Rattle.pddl_syntax.specs.Words.{Name}
use Rattle.normal_task.specs.declared.task.AxiomRow.{AxiomRow}
use Rattle.normal_task.specs.declared.task.CostRow.{CostRow}
use Rattle.normal_task.specs.declared.task.CostRow.TheVariants as costs
use Rattle.normal_task.specs.declared.task.EffectRow.{EffectRow}
use Rattle.normal_task.specs.declared.task.GroundAtom.{GroundAtom}
use Rattle.normal_task.specs.declared.task.Literal.{Literal}
use Rattle.normal_task.specs.declared.task.Literal.TheVariants.{Holds, Equal}
use Rattle.normal_task.specs.declared.task.Normal.{Normal}
use Rattle.normal_task.specs.declared.task.Place.{Place}
use Rattle.normal_task.specs.declared.task.Place.TheVariants.{Variable, Object}
use Rattle.normal_task.specs.declared.task.PredicateRow.{PredicateRow}
use Rattle.normal_task.specs.declared.task.Schema.{Schema}
use Rattle.normal_task.specs.declared.task.ValueRow.{ValueRow}
use Rattle.normal_task.specs.Meaning.{is_derived, is_same_atom, is_same_value}

-- the greatest cost or value
abbrev pub most : ℕ
most = 2147483647

-- at least one byte, each from 33 to 126
abbrev pub is_word : Name → Bool
is_word [] = false
is_word (byte ∷ more) = list_all (λ b. nat_le 33 b && nat_le b 126) (byte ∷ more)

-- the numbers rise
abbrev pub is_rising : List ℕ → Bool
is_rising [] = true
is_rising (number ∷ []) = true
is_rising (number ∷ next ∷ more) = nat_lt number next && is_rising (next ∷ more)

-- no two items of the list are the same
abbrev pub differ : {A : Type 0} → (A → A → Bool) → List A → Bool
differ {A} same [] = true
differ {A} same (item ∷ more) = not (list_any (same item) more) && differ same more

module _ (task : Normal) where
  abbrev pub is_object : ℕ → Bool
  is_object number = nat_lt number (length task.objects)

  -- a list of objects that something ranges over
  abbrev pub is_range : List ℕ → Bool
  is_range objects = list_all is_object objects && is_rising objects

  -- the predicate's row passes the test
  abbrev pub has_row : (PredicateRow → Bool) → Option PredicateRow → Bool
  has_row test None = false
  has_row test (Some row) = test row

  -- the predicate is one of the task's, and its row passes the test
  abbrev pub is_predicate : (PredicateRow → Bool) → ℕ → Bool
  is_predicate test number = has_row test (slice_get task.predicates number)

  abbrev pub has_arity : ℕ → PredicateRow → Bool
  has_arity count row = row.arity == count

  -- a place, among so many parameters and variables
  abbrev pub is_place : ℕ → Place → Bool
  is_place bound (Variable number) = nat_lt number bound
  is_place bound (Object object) = is_object object

  abbrev pub is_literal : ℕ → Literal → Bool
  is_literal bound (Holds positive predicate places) = is_predicate (has_arity (length places)) predicate && list_all (is_place bound) places
  is_literal bound (Equal positive left right) = is_place bound left && is_place bound right

  abbrev pub is_effect : ℕ → EffectRow → Bool
  is_effect parameters row =
      list_all is_range row.variables && list_all (is_literal (parameters + length row.variables)) row.condition
      && list_all (is_place (parameters + length row.variables)) row.places
      && is_predicate (λ declared. has_arity (length row.places) declared && not declared.derived && not declared.fixed) row.predicate

  -- costs count only with the metric
  abbrev pub is_cost : ℕ → CostRow → Bool
  is_cost bound (costs.Number number) = nat_le number most && (task.metric || number == 1)
  is_cost bound (costs.Term function places) = task.metric && list_all (is_place bound) places

  abbrev pub is_schema : Schema → Bool
  is_schema schema =
      is_word schema.action && nat_le schema.shown (length schema.parameters) && list_all is_range schema.parameters
      && list_all (is_literal (length schema.parameters)) schema.condition && list_all (is_effect (length schema.parameters)) schema.effects
      && is_cost (length schema.parameters) schema.cost

  abbrev pub is_axiom : AxiomRow → Bool
  is_axiom rule =
      nat_le rule.shown (length rule.parameters) && list_all is_range rule.parameters && list_all (is_literal (length rule.parameters)) rule.condition
      && is_predicate (λ declared. has_arity rule.shown declared && declared.derived) rule.predicate

  abbrev pub is_init : GroundAtom → Bool
  is_init atom = list_all is_object atom.objects && is_predicate (λ declared. has_arity (length atom.objects) declared && not declared.derived) atom.predicate

  abbrev pub is_value : ValueRow → Bool
  is_value row = list_all is_object row.objects && nat_le row.value most

  -- the literal asks for no derived predicate, or for one of a lower rank
  abbrev pub is_below : (ℕ → ℕ) → ℕ → Literal → Bool
  is_below rank predicate (Holds positive other places) = not (is_derived task other) || nat_lt (rank other) (rank predicate)
  is_below rank predicate (Equal positive left right) = true

  pub record IsLawful : Type 0 where
    pub objects : list_all is_word task.objects ≡ true
    pub predicates : list_all (λ row. is_word row.name && not (row.derived && row.fixed)) task.predicates ≡ true
    pub schemas : list_all is_schema task.schemas ≡ true
    pub axioms : list_all is_axiom task.axioms ≡ true
    pub init : list_all is_init task.init ≡ true
    pub init_once : differ is_same_atom task.init ≡ true
    pub values : list_all is_value task.values ≡ true
    pub values_once : differ is_same_value task.values ≡ true
    pub goal : list_all (is_literal 0) task.goal ≡ true
    -- no derived predicate depends on itself: some rank falls from each axiom's predicate to those that its condition asks for
    pub rank : ℕ → ℕ
    pub falls : list_all (λ rule. list_all (is_below rank rule.predicate) rule.condition) task.axioms ≡ true
