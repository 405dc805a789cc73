use Rattle.std.proofs.Common.{take}
use Rattle.std.specs.List.{list_any}
use Rattle.normal_task.specs.Parts.{is_term_of}
use Rattle.normal_rows.specs.Free.{AddsUnbound}
use Rattle.normal_rows.proofs.free.add_terms.Given as goal

abbrev pub invariant-loop-term : goal.invariant-loop-term
invariant-loop-term l = AddsUnbound (λ name. list_any (is_term_of name) (take l.term-index l.terms)) l.bound l.initial.free l.free
