use Rattle.type_checker.proofs.Once.{predicates_once, functions_once, actions_once, objects_once}
use Rattle.type_checker.proofs.laws.declared_once.Goals as goal

pub returns : goal.returns
returns c = record {
  predicates = predicates_once;
  functions = functions_once;
  actions = actions_once;
  objects = objects_once;
}
