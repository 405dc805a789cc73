-- What is tried for a variable, and for one variable more.
use Rattle.std.proofs.Common.{◌≡◌, ℕ, ◌+◌, List, ◌++◌, Some, None, ap}
use Rattle.std.specs.Prelude.{Option}
use Rattle.std.specs.List.{flat_map, position}
use Rattle.std.specs.Option.{option_map_or}
use Rattle.normal_task.specs.declared.task.Literal.{Literal}
use Rattle.normal_task.specs.declared.task.Normal.{Normal}
use Rattle.normal_task.specs.declared.task.Place.{Place}
use Rattle.contradictions.specs.Contradictory.{is_same_place, terms_of}
use Rattle.invariant_check.specs.Attempts.{stated_at, some_terms, tried_for}

module _ (task : Normal) (ranges : List (List ℕ)) (required : List Literal) where
  module _ (predicate : ℕ) (places : List Place) (variable : Place) (range : List ℕ) where
    abbrev by-place : Option ℕ → List Place
    by-place at = option_map_or (λ index. flat_map (stated_at predicate index) required) at (flat_map terms_of required ++ some_terms task ranges range)

    pub tried_at : (index : ℕ) → position (is_same_place variable) places ≡ Some index → tried_for task ranges required predicate places variable range ≡ flat_map (stated_at predicate index) required
    tried_at index is = ap by-place is

    pub tried_nowhere : position (is_same_place variable) places ≡ None → tried_for task ranges required predicate places variable range ≡ flat_map terms_of required ++ some_terms task ranges range
    tried_nowhere is = ap by-place is
