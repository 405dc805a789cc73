-- Classes of terms, told by merges: each leads one class into another. Words of contracts.
use Rattle.std.specs.Prelude.{◌≡◌, ℕ, Bool, List, ◌++◌, map, fold, if◌then◌else◌}
use Rattle.normal_task.specs.declared.task.Place.{Place}
use Rattle.contradictions.specs.declared.ranges.Ranges.{Ranges}
use Rattle.contradictions.specs.declared.terms.TermPair.{TermPair}
use Rattle.contradictions.specs.Contradictory.{is_same_place, in_one_class}

abbrev pub as_pair : TermPair → Place × Place
as_pair pair = (pair.left, pair.right)

abbrev pub pair_of : Place × Place → TermPair
pair_of pair = record { left = pair.0; right = pair.1 }

-- the leader after one more merge
abbrev pub led : Place → TermPair → Place
led leader merge = if is_same_place leader merge.left then merge.right else leader

abbrev pub leader : List TermPair → Place → Place
leader merges term = fold led term merges

abbrev pub have_one_leader : List TermPair → Place → Place → Bool
have_one_leader merges x y = is_same_place (leader merges x) (leader merges y)

-- the merge that joins the classes of the pair's terms
abbrev pub merge_of : List TermPair → TermPair → TermPair
merge_of merges pair = record { left = leader merges pair.left; right = leader merges pair.right }

-- two terms have one leader where they are in one class
abbrev pub TellClasses : List TermPair → List TermPair → Type 0
TellClasses merges pairs = (x y : Place) → have_one_leader merges x y ≡ in_one_class (map as_pair pairs) x y

-- the ranges of the parameters, and those of the variables of two effects behind them
abbrev pub all_ranges : Ranges → List (List ℕ)
all_ranges ranges = ranges.parameters.now ++ (ranges.first.now ++ ranges.second.now)
