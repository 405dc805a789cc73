-- Which pairs of facts are found. Words of contracts of the search: no clause of a pass cites them.
use Rattle.std.specs.Prelude.{ℕ, Bool, true, false, ◌==◌, List, [], map, length, replicate, slice_get, slice_set, slice_index_or, if◌then◌else◌}
use Rattle.std.specs.List.{list_any}
use Rattle.std.specs.Option.{option_map_or}
use Rattle.sas_task.specs.declared.parts.Pair.{Pair}
use Rattle.sas_task.specs.declared.parts.Operator.{Operator}
use Rattle.sas_task.specs.Task.{Task}
use Rattle.pass_possible.specs.Possible.{Pairs}
use Rattle.pass_h2.specs.Facts.{number, all_facts, starts}

-- facts with the numbers at which they begin, a row of marks for each fact, with a place for each fact, which facts are marked with themselves, and which got a mark of late
pub record Finds : Type 0 where
  pub facts : List Pair
  pub starts : List ℕ
  pub rows : List (List Bool)
  pub alone : List Bool
  pub touched : List Bool

abbrev pub number_in : Finds → Pair → ℕ
number_in finds p = number finds.facts finds.starts p

abbrev pub numbers : Finds → List Pair → List ℕ
numbers finds facts = map (number_in finds) facts

-- what stands in a row at a place, or this where nothing does
abbrev pub mark_or : Bool → List (List Bool) → ℕ → ℕ → Bool
mark_or other rows row place = slice_index_or (slice_index_or rows row []) place other

-- the row of the fact with this number
abbrev pub row : Finds → ℕ → List Bool
row finds i = slice_index_or finds.rows i []

-- what stands at the pair of facts with these numbers, or this where one of them is no fact's number
abbrev pub marked_or : Bool → Finds → ℕ → ℕ → Bool
marked_or other finds i j = mark_or other finds.rows i j

-- whether the pair is found
abbrev pub found : Finds → Pairs
found finds p q = marked_or false finds (number_in finds p) (number_in finds q)

-- rows with a mark more
abbrev pub with_place : List (List Bool) → ℕ → ℕ → List (List Bool)
with_place rows row place = slice_set rows row (slice_set (slice_index_or rows row []) place true)

-- with one pair more: it is marked in the rows of both facts
abbrev pub with_mark : Finds → ℕ → ℕ → Finds
with_mark finds i j =
    record {
      facts = finds.facts;
      starts = finds.starts;
      rows = with_place (with_place finds.rows i j) j i;
      alone = if i == j then slice_set finds.alone i true else finds.alone;
      touched = slice_set (slice_set finds.touched i true) j true;
    }

-- so many rows with so many places
abbrev pub open_rows : ℕ → List (List Bool)
open_rows count = replicate count (replicate count false)

-- no pair is found
abbrev pub nothing : Task → Finds
nothing task =
    record {
      facts = all_facts task;
      starts = starts task;
      rows = open_rows (length (all_facts task));
      alone = replicate (length (all_facts task)) false;
      touched = replicate (length (all_facts task)) false;
    }

-- the same pairs, none of late
abbrev pub settled : Finds → Finds
settled finds = record { facts = finds.facts; starts = finds.starts; rows = finds.rows; alone = finds.alone; touched = replicate (length finds.facts) false }

abbrev pub is_touched : Finds → Pair → Bool
is_touched finds p = slice_index_or finds.touched (number_in finds p) false

-- whether a pair that the operator needs may have been found of late
abbrev pub is_woken : Finds → Operator → Bool
is_woken finds o = if length o.conditions == 0 then list_any (λ mark. mark) finds.touched else list_any (is_touched finds) o.conditions

abbrev pub is_woken_at : List Operator → Finds → ℕ → Bool
is_woken_at operators finds place = option_map_or (is_woken finds) (slice_get operators place) false
