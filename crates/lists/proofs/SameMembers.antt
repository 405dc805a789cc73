-- Lists with the same members.
use Rattle.std.proofs.Common.{Bool, List, map, filter, subst}
use Rattle.std.specs.Prelude.{IsPermutation}
use Rattle.std.specs.List.{Contains}
use Rattle.std.proofs.lemmas.List.Sorted.{IsPermutation-sym, Contains-permutation}
use Rattle.lists.proofs.Members.{member_map, map_member, member_filter, filter_member}
use Rattle.lists.specs.SameMembers.{SameMembers}

-- each member of the first list is one of the second
abbrev pub IsPartOf : {X : Type 0} → List X → List X → Type 0
IsPartOf {X} xs ys = (x : X) → Contains xs x → Contains ys x

pub turned_round : {X : Type 0} (xs ys : List X) → SameMembers xs ys → SameMembers ys xs
turned_round xs ys same x = ((same x).1, (same x).0)

map_part : {X Y : Type 0} (f : X → Y) (xs ys : List X) → IsPartOf xs ys → IsPartOf (map f xs) (map f ys)
map_part f xs ys part y in' = let from = map_member f xs y in' in subst (λ z. Contains (map f ys) z) from.2 (member_map f ys from.0 (part from.0 from.1))

filter_part : {X : Type 0} (p : X → Bool) (xs ys : List X) → IsPartOf xs ys → IsPartOf (filter p xs) (filter p ys)
filter_part p xs ys part x in' = let from = filter_member p xs x in' in member_filter p ys x (part x from.0) from.1

pub mapped : {X Y : Type 0} (f : X → Y) (xs ys : List X) → SameMembers xs ys → SameMembers (map f xs) (map f ys)
mapped f xs ys same y = (map_part f xs ys (λ x. (same x).0) y, map_part f ys xs (λ x. (same x).1) y)

pub filtered : {X : Type 0} (p : X → Bool) (xs ys : List X) → SameMembers xs ys → SameMembers (filter p xs) (filter p ys)
filtered p xs ys same x = (filter_part p xs ys (λ z. (same z).0) x, filter_part p ys xs (λ z. (same z).1) x)

-- permutations of two lists with the same members have the same members
pub permuted : {X : Type 0} (xs ys xs' ys' : List X) → IsPermutation xs xs' → IsPermutation ys ys' → SameMembers xs ys → SameMembers xs' ys'
permuted xs ys xs' ys' moved moved' same x = (
  (λ in'. Contains-permutation ys ys' x moved' ((same x).0 (Contains-permutation xs' xs x (IsPermutation-sym xs xs' moved) in'))),
  (λ in'. Contains-permutation xs xs' x moved ((same x).1 (Contains-permutation ys' ys x (IsPermutation-sym ys ys' moved') in'))),
)
