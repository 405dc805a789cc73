use Rattle.std.proofs.Common.{refl, arith}
use Rattle.std.proofs.lemmas.Bool.{false≢true, le-ltb}
use Rattle.ground_task.proofs.laws.lawful_examples.Goals as goal

pub returns-clause-lawful : goal.returns-clause-lawful
returns-clause-lawful c =
    record { objects = refl; predicates = refl; init = refl; init_once = refl; actions = refl; axioms = refl; goal = refl; rank = λ predicate. predicate; falls = refl }

pub returns-clause-refused : goal.returns-clause-refused
returns-clause-refused c = record {
  object_name = λ lawful. false≢true lawful.objects;
  predicate_name = λ lawful. false≢true lawful.predicates;
  derived_and_static = λ lawful. false≢true lawful.predicates;
  atom_object = λ lawful. false≢true lawful.init;
  atom_predicate = λ lawful. false≢true lawful.init;
  atom_arity = λ lawful. false≢true lawful.init;
  static_atom = λ lawful. false≢true lawful.init;
  derived_atom = λ lawful. false≢true lawful.init;
  init_once = λ lawful. false≢true lawful.init_once;
  action_name = λ lawful. false≢true lawful.actions;
  positive_literal = λ lawful. false≢true lawful.actions;
  negative_literal = λ lawful. false≢true lawful.actions;
  effect_condition = λ lawful. false≢true lawful.actions;
  effect_on_derived = λ lawful. false≢true lawful.actions;
  great_cost = λ lawful. false≢true lawful.actions;
  unit_cost = λ lawful. false≢true lawful.actions;
  rule_for_basic = λ lawful. false≢true lawful.axioms;
  rule_condition = λ lawful. false≢true lawful.axioms;
  falls = λ lawful. false≢true (rw (le-ltb (lawful.rank 1) (lawful.rank 1) (omega arith)) at lawful.falls);
  falls_where_false = λ lawful. false≢true (rw (le-ltb (lawful.rank 1) (lawful.rank 1) (omega arith)) at lawful.falls);
  goal = λ lawful. false≢true lawful.goal;
}
