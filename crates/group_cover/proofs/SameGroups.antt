-- The cover depends only on which groups there are.
use Rattle.std.proofs.Common.{◌≡◌, ℕ, Bool, List, [], ◌∷◌, ◌++◌, nat_lt, sym, ◌∙◌}
use Rattle.std.specs.List.{list_any}
use Rattle.lists.proofs.Items.{among_contains, contains_among, same_items_any}
use Rattle.lists.specs.SameMembers.{SameMembers}
use Rattle.group_cover.specs.Cover.{count, is_before, IsBest, IsPart, AreParts, NoneIsLeft, IsCover}
use Rattle.group_cover.specs.Laws.{OneCoverOfSame}
use Rattle.group_cover.proofs.One.{one_cover}

module _ (groups others : List (List ℕ)) (same : SameMembers groups others) where
  any-same : (test : List ℕ → Bool) → list_any test groups ≡ list_any test others
  any-same test =
      same_items_any test groups others
      (λ g in'. among_contains others g ((same g).0 (contains_among groups g in')))
      (λ g in'. among_contains groups g ((same g).1 (contains_among others g in')))

  best : (sets : List (List ℕ)) (group : List ℕ) → IsBest groups sets group → IsBest others sets group
  best sets group is =
      record { of_groups = (same group).0 is.of_groups; several = is.several; first = sym (any-same (λ other. is_before sets other group)) ∙ is.first }

  part : (full : Bool) (sets : List (List ℕ)) (set : List ℕ) → IsPart full groups sets set → IsPart full others sets set
  part full sets set is = record { group = is.group; best = best sets is.group is.best; part = is.part }

  parts : (full : Bool) (before sets : List (List ℕ)) → AreParts full groups before sets → AreParts full others before sets
  parts full before [] are = are
  parts full before (set ∷ more) are = (part full before set are.0, parts full (before ++ set ∷ []) more are.1)

  none-left : (sets : List (List ℕ)) → NoneIsLeft groups sets → NoneIsLeft others sets
  none-left sets none = sym (any-same (λ group. nat_lt 1 (count sets group))) ∙ none

  cover : (full : Bool) (facts : ℕ) (sets : List (List ℕ)) → IsCover full facts groups sets → IsCover full facts others sets
  cover full facts sets is = record { parts = is.parts; in_turn = parts full [] is.parts is.in_turn; none_left = none-left is.parts is.none_left; whole = is.whole }

pub one_cover_of_same : OneCoverOfSame
one_cover_of_same full facts groups others sets sets' same one other = one_cover full facts others sets sets' (cover groups others same full facts sets one) other
