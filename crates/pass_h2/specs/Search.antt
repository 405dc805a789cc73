-- The search for the possible pairs. Words of private contracts: no public clause cites them.
use Rattle.std.specs.Prelude.{ℕ, Bool, true, false, not, List, map, filter, fold, length, slice_get, if◌then◌else◌}
use Rattle.std.specs.List.{range_with_len}
use Rattle.std.specs.Option.{option_map_or}
use Rattle.sas_task.specs.declared.parts.Operator.{Operator}
use Rattle.sas_task.specs.Task.{Task}
use Rattle.sas_task.specs.Effects.{changes, fact_of}
use Rattle.pass_possible.specs.Possible.{is_possible}
use Rattle.pass_h2.specs.Facts.{initial_facts}
use Rattle.pass_h2.specs.MarkLists.{common, without, places}
use Rattle.pass_h2.specs.Finds.{Finds, numbers, row, marked_or, found, with_mark, nothing, settled, is_woken_at}

-- with one pair of numbers more, if it has a place that has no mark
abbrev pub with_pair : Finds → ℕ → ℕ → Finds
with_pair finds i j = if marked_or true finds i j then finds else with_mark finds i j

-- with a fact and each of others, by their numbers
abbrev pub with_each : ℕ → Finds → List ℕ → Finds
with_each i finds others = fold (λ f j. with_pair f i j) finds others

-- with each of some facts, one after the other, and the facts that are chosen for it
abbrev pub with_chosen : (Finds → ℕ → List ℕ) → Finds → List ℕ → Finds
with_chosen chosen finds facts = fold (λ f i. with_each i f (chosen f i)) finds facts

-- with each of some facts and each of others
abbrev pub with_all : List ℕ → Finds → List ℕ → Finds
with_all others finds facts = with_chosen (λ f i. others) finds facts

-- whether the operator changes the variable of the fact with this number
abbrev pub changes_fact : Finds → Operator → ℕ → Bool
changes_fact finds o i = option_map_or (λ p. changes o p.var) (slice_get finds.facts i) false

-- marks of the facts that are marked with themselves and with each of these conditions
abbrev pub beside : Finds → List ℕ → List Bool
beside finds conditions = fold (λ marks j. common marks (row finds j)) finds.alone conditions

-- those of them that the operator leaves as they are and that aren't marked yet with this fact
abbrev pub new_beside : Operator → List Bool → Finds → ℕ → List ℕ
new_beside o marks finds i = filter (λ j. not (changes_fact finds o j)) (places (without marks (row finds i)))

-- the facts that its effects make true
abbrev pub made : Finds → Operator → List ℕ
made finds o = numbers finds (map fact_of o.effects)

-- with the pairs that a possible operator leads to
abbrev pub led_to : Finds → Operator → Finds
led_to finds o = with_chosen (new_beside o (beside finds (numbers finds o.conditions))) (with_all (made finds o) finds (made finds o)) (made finds o)

-- with those that an operator leads to, if it is possible
abbrev pub looked : Finds → Operator → Finds
looked finds o = if is_possible (found finds) o then led_to finds o else finds

-- with what the operator at a place leads to
abbrev pub looked_at : List Operator → Finds → ℕ → Finds
looked_at operators finds place = option_map_or (looked finds) (slice_get operators place) finds

-- the places of the operators that are to be looked at
abbrev pub woken : List Operator → Finds → List ℕ
woken operators finds = filter (is_woken_at operators finds) (range_with_len 0 (length operators))

-- with the pairs of facts of the written state
abbrev pub initial_pairs : Task → Finds
initial_pairs task = with_all (numbers (nothing task) (initial_facts task)) (nothing task) (numbers (nothing task) (initial_facts task))

-- once the operators at these places are looked at
abbrev pub turned : List Operator → Finds → List ℕ → Finds
turned operators finds queue = fold (looked_at operators) (settled finds) queue
