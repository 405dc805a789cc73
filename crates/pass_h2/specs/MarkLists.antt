-- Lists of marks. Words of contracts of the search: no clause of a pass cites them.
use Rattle.std.specs.Prelude.{ℕ, Bool, false, ◌&&◌, not, List, map, filter, length, min, slice_index_or}
use Rattle.std.specs.List.{range_with_len}

-- the marks that stand in both lists
abbrev pub common : List Bool → List Bool → List Bool
common front back = map (λ i. slice_index_or front i false && slice_index_or back i false) (range_with_len 0 (min (length front) (length back)))

-- the marks of the first that don't stand in the second
abbrev pub without : List Bool → List Bool → List Bool
without front back = map (λ i. slice_index_or front i false && not (slice_index_or back i false)) (range_with_len 0 (min (length front) (length back)))

-- the places that have a mark
abbrev pub places : List Bool → List ℕ
places marks = filter (λ i. slice_index_or marks i false) (range_with_len 0 (length marks))
