use Rattle.std.proofs.Common.{◌≡◌, ◌++◌, map, take}
use Rattle.std.specs.List.{filter}
use Rattle.numbering.specs.Below.{has_type_among}
use Rattle.normal_task.specs.Numbers as spec
use Rattle.numbering.proofs.numbering.ObjectTables.push_numbers.Given as goal

abbrev pub invariant-loop-object : goal.invariant-loop-object
invariant-loop-object l =
    l.numbers.items ≡ l.initial.numbers.items ++ map (spec.object_number l.self.domain l.self.problem) (map (λ object. object.name.name) (filter (has_type_among l.is_any l.below) (take l.object-index l.objects)))
