-- The covers meet what the encoding asks.
use Rattle.std.proofs.Common.{◌≡◌, not, ℕ, ◌<◌, ◌≤◌, Bool, true, false, List, [], ◌∷◌, ◌++◌, map, length, refl, sym, ap, ◌∙◌, subst, inl, inr, arith}
use Rattle.std.specs.List.{Contains, All, range_with_len}
use Rattle.std.specs.List.Sorted.{IsStrictlyIncreasing}
use Rattle.std.proofs.lemmas.Bool.{both_ways, cases_eq, cases_lt}
use Rattle.std.proofs.lemmas.List.Elements.{All-contains, All-from_get_or, Contains-get_or}
use Rattle.std.proofs.lemmas.List.FromFn.{length-map-range_with_len, get_or-map-range_with_len}
use Rattle.lists.proofs.Members.{no_member, member_first, filter_every, all_from_members, member_single}
use Rattle.reached_task.specs.declared.types.Reached.{Reached}
use Rattle.reached_task.specs.ReachedTask.{is_derived}
use Rattle.fdr_effects.specs.Places.{Cover, set_of}
use Rattle.reached_task.specs.Exclusive.{IsExclusive}
use Rattle.fdr_encoder.specs.Covers.{singles, IsGroupCover, MakesVariables, IsBasicGroup}
use Rattle.group_cover.specs.Cover.{IsCover, AreParts, uncovered, single, is_covered}
use Rattle.group_cover.proofs.Parts.{covers_all, share_as_groups, lie_inside, are_filled, are_sorted, are_facts}

-- a set of fewer than two facts is the one fact that it has
one_fact : (set : List ℕ) (f : ℕ) → Contains set f → length set < 2 → set ≡ f ∷ []
one_fact [] f in' small = absurd (no_member f in')
one_fact (g ∷ []) f in' small = ap (λ h. h ∷ []) (member_single g f in')
one_fact (g ∷ h ∷ set) f in' small = absurd (omega arith)

-- each large set lies inside a group
abbrev LieIn : List (List ℕ) → Cover → Type 0
LieIn groups cover = (var : ℕ) → var < length cover → 2 ≤ length (set_of cover var) → (group : List ℕ) × Contains groups group × ((fact : ℕ) → Contains (set_of cover var) fact → Contains group fact)

exclusive_sets : (reached : Reached) (groups : List (List ℕ)) (cover : Cover) → All (IsExclusive reached) groups → LieIn groups cover → All (IsExclusive reached) cover
exclusive_sets reached groups cover exclusive inside =
    All-from_get_or (IsExclusive reached) cover [] (λ var below state reachable. elim (cases_lt (length (set_of cover var)) 2) [
      | inl small ↦ λ f g f-in g-in f-true g-true. member_single f g (subst (λ l. Contains l g) (one_fact (set_of cover var) f f-in small) g-in)
      | inr large ↦
          let group = inside var below large in
          λ f g f-in g-in f-true g-true. All-contains (IsExclusive reached) groups group.0 exclusive group.1 state reachable f g (group.2 f f-in) (group.2 g g-in) f-true g-true
    ])

pub exclusive_from_groups : (reached : Reached) (groups : List (List ℕ)) (cover : Cover) → All (IsExclusive reached) groups → IsGroupCover (length reached.facts) groups cover → All (IsExclusive reached) cover
exclusive_from_groups reached groups cover exclusive is = exclusive_sets reached groups cover exclusive is.inside

pub exclusive_by_groups : (full : Bool) (reached : Reached) (groups : List (List ℕ)) (cover : Cover) → All (IsExclusive reached) groups → IsCover full (length reached.facts) groups cover → All (IsExclusive reached) cover
exclusive_by_groups full reached groups cover exclusive is =
    exclusive_sets reached groups cover exclusive (λ var low large.
    let group = lie_inside full (length reached.facts) groups cover is (set_of cover var) (Contains-get_or cover var [] low) large in
    (group.group, group.of_groups, group.inside))

pub cover_from_groups : (reached : Reached) (groups : List (List ℕ)) (cover : Cover) → All (IsBasicGroup reached) groups → IsGroupCover (length reached.facts) groups cover → MakesVariables reached cover
cover_from_groups reached groups cover are-groups is =
    record {
      has_all = is.has_all;
      alone = alone;
      once = λ var other fact below other-below in' other-in derived. elim (cases_eq var other) [
        | inl same ↦ same
        | inr apart ↦ let group = is.shared var other fact below other-below apart in' other-in in absurd (both_ways (is_derived reached.facts fact) (basic group.0 group.1 fact group.2) derived)
      ];
    }
  where
    basic : (group : List ℕ) → Contains groups group → (f : ℕ) → Contains group f → is_derived reached.facts f ≡ false
    basic group in' f f-in = All-contains (λ f. is_derived reached.facts f ≡ false) group f (All-contains (IsBasicGroup reached) groups group are-groups in').basic f-in

    alone : (var fact : ℕ) → var < length cover → Contains (set_of cover var) fact → is_derived reached.facts fact ≡ true → set_of cover var ≡ fact ∷ []
    alone var fact below in' derived =
        elim (cases_lt (length (set_of cover var)) 2) [
          | inl small ↦ one_fact (set_of cover var) fact in' small
          | inr large ↦
              let group = is.inside var below large in
              absurd (both_ways (is_derived reached.facts fact) (basic group.0 group.1 fact (group.2 fact in')) derived)
        ]

-- the cover of facts by groups of facts
pub cover_of_groups : (full : Bool) (facts : ℕ) (groups : List (List ℕ)) (cover : Cover) → IsCover full facts groups cover → ((group : List ℕ) → Contains groups group → (f : ℕ) → Contains group f → f < facts) → IsGroupCover facts groups cover
cover_of_groups full facts groups cover is below =
    record {
      has_all = record {
        are_facts = λ var fact low in'. are_facts full facts groups cover is below (set_of cover var) (set_in var low) fact in';
        filled = λ var low. let some = are_filled full facts groups cover is (set_of cover var) (set_in var low) in omega arith;
        covered = λ fact low. let at = covers_all full facts groups cover is fact low in (at.0, at.1.within, at.1.in_set);
      };
      inside = λ var low large. let group = lie_inside full facts groups cover is (set_of cover var) (set_in var low) large in (group.group, group.of_groups, group.inside);
      shared = λ var other fact low low' apart in' in''.
          (set_of cover var, share_as_groups full facts groups cover is fact var other apart (record { within = low; in_set = in' }) (record { within = low'; in_set = in'' }), in');
    }
  where
    set_in : (var : ℕ) → var < length cover → Contains cover (set_of cover var)
    set_in var low = Contains-get_or cover var [] low

-- what groups lend to the cover by them
module _ (full : Bool) (reached : Reached) (groups : List (List ℕ)) (cover : Cover) (are-groups : All (IsBasicGroup reached) groups) (is : IsCover full (length reached.facts) groups cover) where
  group_facts : (group : List ℕ) → Contains groups group → (f : ℕ) → Contains group f → f < length reached.facts
  group_facts group in' f f-in = All-contains (λ f. f < length reached.facts) group f (All-contains (IsBasicGroup reached) groups group are-groups in').facts f-in

  pub covered_by_groups : MakesVariables reached cover
  covered_by_groups = cover_from_groups reached groups cover are-groups (cover_of_groups full (length reached.facts) groups cover is group_facts)

  pub sets_apart : All IsStrictlyIncreasing cover
  sets_apart = all_from_members IsStrictlyIncreasing cover (are_sorted full (length reached.facts) groups cover is (λ group in'. (All-contains (IsBasicGroup reached) groups group are-groups in').sorted))

  pub sets_of_facts : All (λ set. All (λ fact. fact < length reached.facts) set) cover
  sets_of_facts =
      all_from_members (λ set. All (λ fact. fact < length reached.facts) set) cover (λ set in'.
      all_from_members (λ fact. fact < length reached.facts) set (are_facts full (length reached.facts) groups cover is group_facts set in'))

-- single facts
module _ (facts : ℕ) where
  pub singles_count : length (singles facts) ≡ facts
  singles_count = length-map-range_with_len (λ fact. fact ∷ []) 0 facts

  pub single_at : (var : ℕ) → var < facts → set_of (singles facts) var ≡ var ∷ []
  single_at var below = get_or-map-range_with_len (λ fact. fact ∷ []) 0 facts var var [] below (omega arith)

  at_count : (var : ℕ) → var < length (singles facts) → var < facts
  at_count var below = subst (λ k. var < k) singles_count below

  single_member : (var fact : ℕ) → var < length (singles facts) → Contains (set_of (singles facts) var) fact → var ≡ fact
  single_member var fact below in' = member_single var fact (subst (λ l. Contains l fact) (single_at var (at_count var below)) in')

  singles_cover : IsGroupCover facts [] (singles facts)
  singles_cover =
      record {
        has_all = record {
          are_facts = λ var fact below in'. subst (λ f. f < facts) (single_member var fact below in') (at_count var below);
          filled = λ var below. let one = single_at var (at_count var below) in subst (λ l. 0 < length l) (sym one) (omega arith);
          covered = λ fact below. (fact, subst (λ k. fact < k) (sym singles_count) below, subst (λ l. Contains l fact) (sym (single_at fact below)) (member_first fact []));
        };
        inside = λ var below large. let one : length (set_of (singles facts) var) ≡ 1 = ap (λ (l : List ℕ). length l) (single_at var (at_count var below)) in absurd (omega (arith, one, large));
        shared = λ var other fact below other-below apart in' other-in. absurd (apart (single_member var fact below in' ∙ sym (single_member other fact other-below other-in)));
      }

pub singles_are_cover : (reached : Reached) → MakesVariables reached (singles (length reached.facts))
singles_are_cover reached = cover_from_groups reached [] (singles (length reached.facts)) (λ k d below. absurd (omega arith)) (singles_cover (length reached.facts))

pub singles_exclusive : (reached : Reached) → All (IsExclusive reached) (singles (length reached.facts))
singles_exclusive reached = exclusive_from_groups reached [] (singles (length reached.facts)) (λ k d below. absurd (omega arith)) (singles_cover (length reached.facts))

-- without groups the cover has the single facts
no_parts : (full : Bool) (parts : List (List ℕ)) → AreParts full [] [] parts → parts ≡ []
no_parts full [] are = refl
no_parts full (set ∷ parts) are = absurd (no_member are.0.group are.0.best.of_groups)

pub cover_without_groups : (full : Bool) (facts : ℕ) (cover : Cover) → IsCover full facts [] cover → cover ≡ singles facts
cover_without_groups full facts cover is =
    is.whole
    ∙ ap (λ (parts : List (List ℕ)). parts ++ map single (uncovered parts (range_with_len 0 facts))) (no_parts full is.parts is.in_turn)
    ∙ ap (map single) (filter_every (λ fact. not (is_covered [] fact)) (range_with_len 0 facts) (λ fact in'. refl))
