-- The rows of declared predicates.
use Rattle.std.specs.Prelude.{List, not, ◌&&◌, length}
use Rattle.std.specs.List.{list_any}
use Rattle.pddl_syntax.specs.declared.types.Head.{Head}
use Rattle.pddl_syntax.specs.Words.{Name, is_same}
use Rattle.normal_task.specs.declared.task.PredicateRow.{PredicateRow}

-- the row of a declared predicate, beside the names of derived predicates and of those that effects are on
abbrev pub row_of : List Name → List Name → Head → PredicateRow
row_of derived changed head =
    record {
      name = head.name.name;
      arity = length head.variables;
      derived = list_any (is_same head.name.name) derived;
      fixed = not (list_any (is_same head.name.name) derived) && not (list_any (is_same head.name.name) changed);
    }
