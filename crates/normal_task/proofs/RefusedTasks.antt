-- The small task is lawful, and those that differ from it in one place aren't.
use Rattle.std.proofs.Common.{refl, arith}
use Rattle.std.proofs.lemmas.Bool.{false≢true, le-ltb}
use Rattle.normal_task.specs.Lawful.{IsLawful}
use Rattle.normal_task.specs.Refused.{small, IsRefused}

pub small_lawful : IsLawful small
small_lawful = record {
  objects = refl;
  predicates = refl;
  schemas = refl;
  axioms = refl;
  init = refl;
  init_once = refl;
  values = refl;
  values_once = refl;
  goal = refl;
  rank = λ predicate. 0;
  falls = refl;
}

pub refused : IsRefused
refused = record {
  no_byte = λ lawful. false≢true lawful.objects;
  low_byte = λ lawful. false≢true lawful.objects;
  high_byte = λ lawful. false≢true lawful.objects;
  predicate_name = λ lawful. false≢true lawful.predicates;
  derived_and_fixed = λ lawful. false≢true lawful.predicates;
  action_name = λ lawful. false≢true lawful.schemas;
  shown = λ lawful. false≢true lawful.schemas;
  range_object = λ lawful. false≢true lawful.schemas;
  falling_range = λ lawful. false≢true lawful.schemas;
  repeating_range = λ lawful. false≢true lawful.schemas;
  literal_predicate = λ lawful. false≢true lawful.schemas;
  literal_arity = λ lawful. false≢true lawful.schemas;
  literal_variable = λ lawful. false≢true lawful.schemas;
  literal_object = λ lawful. false≢true lawful.schemas;
  left_side = λ lawful. false≢true lawful.schemas;
  right_side = λ lawful. false≢true lawful.schemas;
  effect_range = λ lawful. false≢true lawful.schemas;
  effect_condition = λ lawful. false≢true lawful.schemas;
  effect_place = λ lawful. false≢true lawful.schemas;
  effect_arity = λ lawful. false≢true lawful.schemas;
  effect_on_derived = λ lawful. false≢true lawful.schemas;
  effect_on_fixed = λ lawful. false≢true lawful.schemas;
  great_cost = λ lawful. false≢true lawful.schemas;
  unit_cost = λ lawful. false≢true lawful.schemas;
  cost_of_term = λ lawful. false≢true lawful.schemas;
  cost_place = λ lawful. false≢true lawful.schemas;
  rule_shown = λ lawful. false≢true lawful.axioms;
  rule_range = λ lawful. false≢true lawful.axioms;
  rule_condition = λ lawful. false≢true lawful.axioms;
  rule_arity = λ lawful. false≢true lawful.axioms;
  rule_for_basic = λ lawful. false≢true lawful.axioms;
  init_object = λ lawful. false≢true lawful.init;
  init_arity = λ lawful. false≢true lawful.init;
  init_derived = λ lawful. false≢true lawful.init;
  init_once = λ lawful. false≢true lawful.init_once;
  value_object = λ lawful. false≢true lawful.values;
  great_value = λ lawful. false≢true lawful.values;
  values_once = λ lawful. false≢true lawful.values_once;
  goal = λ lawful. false≢true lawful.goal;
  falls = λ lawful. false≢true (rw (le-ltb (lawful.rank 1) (lawful.rank 1) (omega arith)) at lawful.falls);
}
