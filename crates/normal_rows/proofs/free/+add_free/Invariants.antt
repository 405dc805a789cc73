use Rattle.std.proofs.Common.{◌≡◌, map, take}
use Rattle.std.specs.List.{list_any}
use Rattle.normal_task.specs.Parts as spec
use Rattle.normal_rows.specs.Free.{AddsUnbound}
use Rattle.normal_rows.proofs.free.+add_free.Given as goal

abbrev pub invariant-add_free_of_all-loop-member : goal.invariant-add_free_of_all-loop-member
invariant-add_free_of_all-loop-member l = record {
  bound : l.bound ≡ l.initial.bound;
  free : AddsUnbound (λ name. list_any (λ member. member.is_free name) (map (spec.known l.numbering.domain l.numbering.problem) (take l.member-index l.members))) l.initial.bound l.initial.free l.free;
}
