-- The facts of a task. Words of contracts of the search: no clause of a pass cites them.
use Rattle.std.specs.Prelude.{ℕ, ◌+◌, ◌==◌, ◌&&◌, Bool, false, List, map, length, slice_get, slice_index, slice_index_or, if◌then◌else◌}
use Rattle.std.specs.List.{range_with_len, flat_map}
use Rattle.std.specs.Option.{option_map_or}
use Rattle.sas_task.specs.declared.parts.Pair.{Pair}
use Rattle.sas_task.specs.Task.{Task}
use Rattle.sas_task.specs.Pairs.{pair}
use Rattle.sas_restriction.specs.Choice.{variable_at}

-- those of a variable
abbrev pub facts_at : Task → ℕ → List Pair
facts_at task var = map (pair var) (range_with_len 0 (length (variable_at task var).facts))

-- those of the variables below a number
abbrev pub facts_below : Task → ℕ → List Pair
facts_below task count = flat_map (facts_at task) (range_with_len 0 count)

abbrev pub all_facts : Task → List Pair
all_facts task = facts_below task (length task.variables)

-- how many come before each variable's own
abbrev pub starts : Task → List ℕ
starts task = map (λ var. length (facts_below task var)) (range_with_len 0 (length task.variables))

abbrev pub initial_facts : Task → List Pair
initial_facts task = map (λ var. pair var (slice_index task.state var)) (range_with_len 0 (length task.variables))

-- whether the fact stands at the place
abbrev pub is_at : List Pair → ℕ → Pair → Bool
is_at facts place p = option_map_or (λ q. (q.var == p.var) && (q.val == p.val)) (slice_get facts place) false

-- a fact's number, or how many facts there are
abbrev pub number : List Pair → List ℕ → Pair → ℕ
number facts starts p = if is_at facts (slice_index_or starts p.var 0 + p.val) p then slice_index_or starts p.var 0 + p.val else length facts
