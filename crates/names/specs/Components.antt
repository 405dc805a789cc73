-- Numbers that lead to each other by arcs, as two searches found them: one along the arcs, and one against them.
use Rattle.std.specs.Prelude.{◌≡◌, ℕ, ◌<◌, Bool, true, ◌&&◌, ◌||◌, nat_eq, nat_lt, List, length, Option, Some, None, slice_index_or}
use Rattle.std.specs.List.{list_all}
use Rattle.names.specs.Arcs.{arc_at}
use Rattle.names.specs.declared.arcs.Arc.{Arc}
use Rattle.names.specs.declared.components.Place.{Place}

-- what stands for a place that isn't there
abbrev pub no_place : Place
no_place = record { root = 0; order = 0; arc = 0 }

abbrev pub place_or : Option Place → Place
place_or None = no_place
place_or (Some place) = place

-- the place of a number in a search
abbrev pub place_at : List (Option Place) → ℕ → Place
place_at places number = place_or (slice_index_or places number None)

-- the two numbers have one root
abbrev pub has_one_root : List (Option Place) → ℕ → ℕ → Bool
has_one_root places number other = nat_eq (place_at places number).root (place_at places other).root

-- when the search came to the number's root
abbrev pub rank : List (Option Place) → ℕ → ℕ
rank places number = (place_at places (place_at places number).root).order

-- The arc stays at its root, or leads to one that was found later.
abbrev pub leads_on : ℕ → List (Option Place) → Arc → Bool
leads_on count against arc =
    nat_lt arc.from count && (nat_lt arc.to count && (has_one_root against arc.from arc.to || nat_lt (rank against arc.from) (rank against arc.to)))

-- The place was found by an arc that leads from it to one that was found earlier, of the same root.
abbrev pub leads_to_root : List Arc → List (Option Place) → ℕ → Bool
leads_to_root arcs against number =
    nat_lt (place_at against number).arc (length arcs)
    && (nat_eq (arc_at arcs (place_at against number).arc).from number
    && (has_one_root against (arc_at arcs (place_at against number).arc).to number
    && nat_lt (place_at against (arc_at arcs (place_at against number).arc).to).order (place_at against number).order))

-- The place was found by an arc that leads to it from one that was found earlier, of the same root.
abbrev pub is_led_to : List Arc → List (Option Place) → List (Option Place) → ℕ → Bool
is_led_to arcs against along number =
    nat_lt (place_at along number).arc (length arcs)
    && (nat_eq (arc_at arcs (place_at along number).arc).to number
    && (has_one_root against (arc_at arcs (place_at along number).arc).from number
    && nat_lt (place_at along (arc_at arcs (place_at along number).arc).from).order (place_at along number).order))

-- the number is its own root, or leads to it and is led to from it
abbrev pub is_joined : List Arc → List (Option Place) → List (Option Place) → ℕ → Bool
is_joined arcs against along number =
    nat_eq (place_at against number).root number || (leads_to_root arcs against number && is_led_to arcs against along number)

-- the two searches show which numbers lead to each other
pub record IsShown (count : ℕ) (arcs : List Arc) (against along : List (Option Place)) : Type 0 where
  pub on : list_all (leads_on count against) arcs ≡ true
  pub joined : (number : ℕ) → number < count → is_joined arcs against along number ≡ true
