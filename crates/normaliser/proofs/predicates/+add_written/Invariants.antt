use Rattle.std.proofs.Common.{◌≡◌, ◌||◌, map, take}
use Rattle.std.specs.List.{list_any}
use Rattle.pddl_syntax.specs.Words.{Name, is_same}
use Rattle.normaliser.specs.IsWritten.{is_written}
use Rattle.normaliser.proofs.predicates.+add_written.Given as goal

abbrev pub invariant-add_all_written-loop-member : goal.invariant-add_all_written-loop-member
invariant-add_all_written-loop-member l =
    (name : Name) → list_any (is_same name) l.names ≡ (list_any (λ member. member name) (map is_written (take l.member-index l.members)) || list_any (is_same name) l.initial.names)
