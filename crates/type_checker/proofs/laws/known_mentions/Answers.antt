use Rattle.type_checker.proofs.Basic.{written_basic}
use Rattle.type_checker.proofs.Bound.{all_bound}
use Rattle.type_checker.proofs.Declared.{predicates_declared, functions_declared, objects_known}
use Rattle.type_checker.proofs.laws.known_mentions.Goals as goal

pub returns : goal.returns
returns c = record {
  predicates = predicates_declared;
  functions = functions_declared;
  objects = objects_known;
  bound = all_bound;
  basic = written_basic;
}
