-- The groups that are written, by the places of their facts.
use Rattle.std.specs.Prelude.{ℕ, Bool, false, ◌==◌, ◌&&◌, nat_eq, nat_le, List, map, length, slice_index}
use Rattle.std.specs.List.{filter, flat_map, range_with_len}
use Rattle.std.specs.Option.{option_map_or}
use Rattle.lists.specs.Members.{is_among}
use Rattle.sas_task.specs.declared.parts.Group.{Group}
use Rattle.sas_task.specs.Pairs.{pair}
use Rattle.fdr_effects.specs.Places.{Cover, set_of, first_place, last_value}

-- whether the value of the variable stands for a fact of the group, at the fact's first place
abbrev pub is_groups : Cover → List ℕ → ℕ → ℕ → Bool
is_groups cover group var val =
    let fact = slice_index (set_of cover var) val in
    is_among nat_eq group fact && option_map_or (λ p. p.var == var) (first_place cover fact) false

-- the group's facts, each by its first place
abbrev pub group_of : Cover → List ℕ → Group
group_of cover group =
    record { facts = flat_map (λ var. map (pair var) (filter (is_groups cover group var) (range_with_len 0 (last_value cover var)))) (range_with_len 0 (length cover)) }

-- the groups of at least two facts
abbrev pub groups_of : Cover → List (List ℕ) → List Group
groups_of cover groups = map (group_of cover) (filter (λ group. nat_le 2 (length group)) groups)
