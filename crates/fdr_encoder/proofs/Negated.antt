-- Some choice of negated literals holds exactly where none of the lists does.
use Rattle.std.proofs.Common.{◌≡◌, ℕ, Bool, true, false, not, List, [], ◌∷◌, ◌++◌, map, refl, sym, ◌∙◌, subst, inl, inr}
use Rattle.std.specs.List.{Contains, list_all}
use Rattle.std.proofs.lemmas.Bool.{and_parts, and_from, and_cases, not-true, not-false, not_from_false, both_ways, false_from_ne_true, true≢false}
use Rattle.std.proofs.lemmas.List.Elements.{Contains-append_left, Contains-append_right, Contains-append_cases}
use Rattle.std.proofs.lemmas.List.Folds.{list_all-append}
use Rattle.lists.proofs.Members.{no_member, member_first, member_later, member_cases, member_flat_map, flat_map_member, all_pass, member_map, map_member, member_single}
use Rattle.ground_task.specs.declared.types.Cond.{Cond}
use Rattle.ground_task.specs.Literals.{holds}
use Rattle.planning.specs.Task.{State}
use Rattle.fdr_effects.specs.Effects.{no_literals, is_true, is_false, both, negations, negated_choices}
use Rattle.fdr_effects.specs.Places.{Cover}
use Rattle.fdr_effects.proofs.Placed.{Stands, AllStand}

-- where not all pass, one fails
pub some_fails : {X : Type 0} (p : X → Bool) (xs : List X) → list_all p xs ≡ false → (x : X) × Contains xs x × (p x ≡ false)
some_fails p [] h = absurd (true≢false h)
some_fails p (y ∷ xs) h =
    elim (and_cases (p y) (list_all p xs) h) [
      | inl here ↦ (y, member_first y xs, here)
      | inr later ↦ let r = some_fails p xs later in (r.0, member_later y r.0 xs r.1, r.2)
    ]

module _ (full : State ℕ) where
  -- the literals of both lists hold where those of each do
  pub both_on : (a b : Cond ℕ) → holds full a ≡ true → holds full b ≡ true → holds full (both a b) ≡ true
  both_on a b on-a on-b =
      let x = and_parts (list_all full a.positive) (list_all (λ f. not (full f)) a.negative) on-a in
      let y = and_parts (list_all full b.positive) (list_all (λ f. not (full f)) b.negative) on-b in
      and_from _ _ (list_all-append full a.positive b.positive ∙ and_from _ _ x.0 y.0) (list_all-append (λ f. not (full f)) a.negative b.negative ∙ and_from _ _ x.1 y.1)

  pub both_back : (a b : Cond ℕ) → holds full (both a b) ≡ true → (holds full a ≡ true) × (holds full b ≡ true)
  both_back a b on =
      let parts = and_parts (list_all full (a.positive ++ b.positive)) (list_all (λ f. not (full f)) (a.negative ++ b.negative)) on in
      let x = and_parts (list_all full a.positive) (list_all full b.positive) (sym (list_all-append full a.positive b.positive) ∙ parts.0) in
      let y = and_parts (list_all (λ f. not (full f)) a.negative) (list_all (λ f. not (full f)) b.negative) (sym (list_all-append (λ f. not (full f)) a.negative b.negative) ∙ parts.1) in
      (and_from _ _ x.0 y.0, and_from _ _ x.1 y.1)

  pub is_true_on : (f : ℕ) → full f ≡ true → holds full (is_true f) ≡ true
  is_true_on f is = and_from _ _ (and_from (full f) true is refl) refl

  pub is_true_back : (f : ℕ) → holds full (is_true f) ≡ true → full f ≡ true
  is_true_back f on = (and_parts (full f) true (and_parts (list_all full (f ∷ [])) true on).0).0

  is_false_on : (f : ℕ) → full f ≡ false → holds full (is_false f) ≡ true
  is_false_on f is = and_from true _ refl (and_from (not (full f)) true (not_from_false (full f) is) refl)

  is_false_back : (f : ℕ) → holds full (is_false f) ≡ true → full f ≡ false
  is_false_back f on = not-true (full f) (and_parts (not (full f)) true (and_parts true (list_all (λ g. not (full g)) (f ∷ [])) on).1).0

  -- some negation holds where the literals don't
  negation_on : (c : Cond ℕ) → holds full c ≡ false → (one : Cond ℕ) × Contains (negations c) one × (holds full one ≡ true)
  negation_on c fails =
      elim (and_cases (list_all full c.positive) (list_all (λ f. not (full f)) c.negative) fails) [
        | inl pos ↦
            let f = some_fails full c.positive pos in
            (is_false f.0, Contains-append_left (map is_false c.positive) (map is_true c.negative) (is_false f.0) (member_map is_false c.positive f.0 f.1), is_false_on f.0 f.2)
        | inr neg ↦
            let f = some_fails (λ g. not (full g)) c.negative neg in
            (is_true f.0, Contains-append_right (map is_false c.positive) (map is_true c.negative) (is_true f.0) (member_map is_true c.negative f.0 f.1), is_true_on f.0 (not-false (full f.0) f.2))
      ]

  negation_back : (c one : Cond ℕ) → Contains (negations c) one → holds full one ≡ true → holds full c ≡ false
  negation_back c one in' on =
      false_from_ne_true (holds full c) (λ is.
      let parts = and_parts (list_all full c.positive) (list_all (λ f. not (full f)) c.negative) is in
      elim (Contains-append_cases (map is_false c.positive) (map is_true c.negative) one in') [
        | inl pos ↦
            let f = map_member is_false c.positive one pos in
            both_ways (full f.0) (is_false_back f.0 (subst (λ q. holds full q ≡ true) (sym f.2) on)) (all_pass full c.positive f.0 parts.0 f.1)
        | inr neg ↦
            let f = map_member is_true c.negative one neg in
            both_ways (full f.0) (not-true (full f.0) (all_pass (λ g. not (full g)) c.negative f.0 parts.1 f.1)) (is_true_back f.0 (subst (λ q. holds full q ≡ true) (sym f.2) on))
      ])

  pub choices_on : (lists : List (Cond ℕ)) → ((c : Cond ℕ) → Contains lists c → holds full c ≡ false) → (choice : Cond ℕ) × Contains (negated_choices lists) choice × (holds full choice ≡ true)
  choices_on [] fail = (no_literals, member_first no_literals [], refl)
  choices_on (c ∷ lists) fail =
      let rest = choices_on lists (λ d in'. fail d (member_later c d lists in')) in
      let one = negation_on c (fail c (member_first c lists)) in (
        both one.0 rest.0,
        member_flat_map (λ n. map (both n) (negated_choices lists)) (negations c) one.0 (both one.0 rest.0) one.1 (member_map (both one.0) (negated_choices lists) rest.0 rest.1),
        both_on one.0 rest.0 one.2 rest.2,
      )

  pub choices_back : (lists : List (Cond ℕ)) (choice : Cond ℕ) → Contains (negated_choices lists) choice → holds full choice ≡ true → (c : Cond ℕ) → Contains lists c → holds full c ≡ false
  choices_back [] choice in' on c none = absurd (no_member c none)
  choices_back (d ∷ lists) choice in' on c here =
      let one = flat_map_member (λ n. map (both n) (negated_choices lists)) (negations d) choice in' in
      let rest = map_member (both one.0) (negated_choices lists) choice one.2 in
      let parts = both_back one.0 rest.0 (subst (λ q. holds full q ≡ true) (sym rest.2) on) in
      elim (member_cases d c lists here) [
        | inl same ↦ subst (λ q. holds full q ≡ false) same (negation_back d one.0 one.1 parts.0)
        | inr later ↦ choices_back lists rest.0 rest.1 parts.1 c later
      ]

-- the facts of choices stand where those of the lists do
module _ (cover : Cover) where
  pub both_stand : (a b : Cond ℕ) → AllStand cover a → AllStand cover b → AllStand cover (both a b)
  both_stand a b on-a on-b =
      record {
        positive = λ f in'. elim (Contains-append_cases a.positive b.positive f in') [ inl x ↦ on-a.positive f x | inr y ↦ on-b.positive f y ];
        negative = λ f in'. elim (Contains-append_cases a.negative b.negative f in') [ inl x ↦ on-a.negative f x | inr y ↦ on-b.negative f y ];
      }

  pub is_true_stands : (f : ℕ) → Stands cover f → AllStand cover (is_true f)
  is_true_stands f stands =
      record { positive = λ g in'. subst (Stands cover) (member_single f g in') stands; negative = λ g none. absurd (no_member g none) }

  is_false_stands : (f : ℕ) → Stands cover f → AllStand cover (is_false f)
  is_false_stands f stands =
      record { positive = λ g none. absurd (no_member g none); negative = λ g in'. subst (Stands cover) (member_single f g in') stands }

  negations_stand : (c one : Cond ℕ) → AllStand cover c → Contains (negations c) one → AllStand cover one
  negations_stand c one on in' =
      elim (Contains-append_cases (map is_false c.positive) (map is_true c.negative) one in') [
        | inl pos ↦ let f = map_member is_false c.positive one pos in subst (AllStand cover) f.2 (is_false_stands f.0 (on.positive f.0 f.1))
        | inr neg ↦ let f = map_member is_true c.negative one neg in subst (AllStand cover) f.2 (is_true_stands f.0 (on.negative f.0 f.1))
      ]

  pub choices_stand : (lists : List (Cond ℕ)) → ((c : Cond ℕ) → Contains lists c → AllStand cover c) → (choice : Cond ℕ) → Contains (negated_choices lists) choice → AllStand cover choice
  choices_stand [] on choice in' =
      subst (AllStand cover) (member_single no_literals choice in') (record { positive = λ f none. absurd (no_member f none); negative = λ f none. absurd (no_member f none) })
  choices_stand (c ∷ lists) on choice in' =
      let one = flat_map_member (λ n. map (both n) (negated_choices lists)) (negations c) choice in' in
      let rest = map_member (both one.0) (negated_choices lists) choice one.2 in
      subst (AllStand cover) rest.2
      (both_stand one.0 rest.0 (negations_stand c one.0 (on c (member_first c lists)) one.1) (choices_stand lists (λ d here. on d (member_later c d lists here)) rest.0 rest.1))
