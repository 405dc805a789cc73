-- Choices that can't stand beside the cause set nothing, nor do they with more literals.
use Rattle.std.proofs.Common.{◌≡◌, ℕ, ◌+◌, ◌<◌, Bool, true, false, cond, not, eqb, List, [], ◌∷◌, ◌++◌, append-nil, append_assoc, get_or, take, map, ◌⊎◌, inl, inr, length, refl, sym, ap, ◌∙◌, subst, arith}
use Rattle.std.specs.Prelude.{◌==◌, ◌&&◌, ◌||◌}
use Rattle.std.specs.List.{Contains, filter, flat_map, list_any, list_all}
use Rattle.std.proofs.lemmas.Bool.{and_parts, or_cases, eqb-true}
use Rattle.std.proofs.lemmas.List.{map-append, nil_from_length, take_more}
use Rattle.std.proofs.lemmas.List.Elements.{filter-append, Contains-append_cases}
use Rattle.std.proofs.lemmas.Simd.{map-map}
use Rattle.lists.proofs.Items.{contains_among, filter_no, same_flat_map}
use Rattle.lists.proofs.Members.{no_member, member_cases, member_single, map_member, any_member, all_pass, filter_none, flat_map_member}
use Rattle.sas_task.specs.declared.parts.Pair.{Pair}
use Rattle.sas_task.specs.declared.parts.Effect.{Effect}
use Rattle.ground_task.specs.declared.types.Cond.{Cond}
use Rattle.fdr_effects.specs.declared.literals.Literal.{Literal}
use Rattle.sas_task.specs.Pairs.{pair}
use Rattle.fdr_effects.specs.Places.{Cover, last_value}
use Rattle.fdr_effects.specs.Split.{split}
use Rattle.fdr_effects.specs.Effects.{both, no_literals, is_false, negations, negated_choices, sets_where}
use Rattle.fdr_effects.specs.Standing.{AreWithin, AreForced, is_alone, forced_by, Over, alone, turned, can_stand, standing, chosen, rules_out, is_contradicted, shows}
use Rattle.fdr_effects.proofs.NegatedChoices.{choices_more}
use Rattle.fdr_effects.proofs.Contradicted.{within_itself, within_more, within_front, within_back, within_joined, within_fact, ruled_out, none_with_more, same_split}

cant_stand : (cover : Cover) (all : Cond ℕ) → split cover all ≡ [] → can_stand cover all ≡ false
cant_stand cover all none = ap (λ (ms : List (List Pair)). not (eqb (length ms) 0)) none

none_split : (cover : Cover) (all : Cond ℕ) → can_stand cover all ≡ false → split cover all ≡ []
none_split cover all fails = nil_from_length (split cover all) (eqb-true (length (split cover all)) 0 (is_true' (eqb (length (split cover all)) 0) fails))
  where
    is_true' : (b : Bool) → not b ≡ false → b ≡ true
    is_true' true is = refl
    is_true' false is = absurd cc

still_fails : (cover : Cover) (few all : Cond ℕ) → AreWithin few all → can_stand cover few ≡ false → can_stand cover all ≡ false
still_fails cover few all within fails = cant_stand cover all (none_with_more cover few all within (none_split cover few fails))

within_both : (cause few all : Cond ℕ) → AreWithin few all → AreWithin (both cause few) (both cause all)
within_both cause few all within =
    within_joined cause few (both cause all) (within_front cause all) (within_more few all (both cause all) within (within_back cause all))

-- the negation of each literal
turned_are : (literals : Cond ℕ) → negations literals ≡ map alone (turned literals)
turned_are literals =
    let no : ℕ → Literal = λ fact. record { fact = fact; truth = false } in
    let yes' : ℕ → Literal = λ fact. record { fact = fact; truth = true } in
    sym (map-append alone (map no literals.positive) (map yes' literals.negative) ∙ ap (λ l. l ++ map alone (map yes' literals.negative)) (map-map alone no literals.positive) ∙ ap (λ l. map is_false literals.positive ++ l) (map-map alone yes' literals.negative))

-- a choice has a negated literal of each condition
has_one : (conditions : List (Cond ℕ)) (choice : Cond ℕ) → Contains (negated_choices conditions) choice → (literals : Cond ℕ) → Contains conditions literals → (one : Literal) × Contains (turned literals) one × AreWithin (alone one) choice
has_one [] choice in' literals none = absurd (no_member literals none)
has_one (first ∷ conditions) choice in' literals among =
    let front = flat_map_member (λ one. map (both one) (negated_choices conditions)) (negations first) choice in' in
    let back = map_member (both front.0) (negated_choices conditions) choice front.2 in
    by_case front.0 front.1 back.0 back.2 (has_one conditions back.0 back.1 literals) (member_cases first literals conditions among)
  where
    by_case : (a : Cond ℕ) → Contains (negations first) a → (rest : Cond ℕ) → both a rest ≡ choice → (Contains conditions literals → (one : Literal) × Contains (turned literals) one × AreWithin (alone one) rest) → (first ≡ literals) ⊎ Contains conditions literals → (one : Literal) × Contains (turned literals) one × AreWithin (alone one) choice
    by_case a a-in rest is later (inl same) =
        let one = map_member alone (turned first) a (subst (λ l. Contains l a) (turned_are first) a-in) in
        (one.0, subst (λ l. Contains (turned l) one.0) same one.1, subst (AreWithin (alone one.0)) is (subst (λ b. AreWithin b (both a rest)) (sym one.2) (within_front a rest)))
    by_case a a-in rest is later (inr among') =
        let one = later among' in
        (one.0, one.1, subst (AreWithin (alone one.0)) is (within_more (alone one.0) rest (both a rest) one.2 (within_back a rest)))

-- ---- the literals that are forced

one_item : (facts : List ℕ) → length facts ≡ 1 → (fact : ℕ) × (facts ≡ fact ∷ [])
one_item [] is = absurd (omega arith)
one_item (fact ∷ []) is = (fact, refl)
one_item (fact ∷ other ∷ facts) is = absurd (omega arith)

-- the literal that is alone, negated, is the one that can be chosen
alone_is : (positive negative : List ℕ) → (((length positive == 1) && (length negative == 0)) || ((length positive == 0) && (length negative == 1))) ≡ true →
    (one : Literal) → Contains (turned record { positive = positive; negative = negative }) one → alone one ≡ record { positive = negative; negative = positive }
alone_is positive negative is one in' =
    elim (or_cases ((length positive == 1) && (length negative == 0)) ((length positive == 0) && (length negative == 1)) is) [
      | inl asked ↦
          let parts = and_parts (length positive == 1) (length negative == 0) asked in
          let fact = one_item positive (eqb-true (length positive) 1 parts.0) in
          wanted fact.0 positive negative fact.1 (nil_from_length negative (eqb-true (length negative) 0 parts.1)) in'
      | inr barred ↦
          let parts = and_parts (length positive == 0) (length negative == 1) barred in
          let fact = one_item negative (eqb-true (length negative) 1 parts.1) in
          unwanted fact.0 positive negative (nil_from_length positive (eqb-true (length positive) 0 parts.0)) fact.1 in'
    ]
  where
    wanted : (fact : ℕ) (ps ns : List ℕ) → ps ≡ fact ∷ [] → ns ≡ [] → Contains (turned record { positive = ps; negative = ns }) one → alone one ≡ record { positive = ns; negative = ps }
    wanted fact ps ns are none in' =
        let here = subst (λ (l : List ℕ). Contains (turned record { positive = fact ∷ []; negative = l }) one) none (subst (λ (l : List ℕ). Contains (turned record { positive = l; negative = ns }) one) are in') in
        ap alone (sym (member_single record { fact = fact; truth = false } one here)) ∙ (λ i. record { positive = sym none i; negative = sym are i })

    unwanted : (fact : ℕ) (ps ns : List ℕ) → ps ≡ [] → ns ≡ fact ∷ [] → Contains (turned record { positive = ps; negative = ns }) one → alone one ≡ record { positive = ns; negative = ps }
    unwanted fact ps ns none are in' =
        let here = subst (λ (l : List ℕ). Contains (turned record { positive = []; negative = l }) one) are (subst (λ (l : List ℕ). Contains (turned record { positive = l; negative = ns }) one) none in') in
        ap alone (sym (member_single record { fact = fact; truth = true } one here)) ∙ (λ i. record { positive = sym are i; negative = sym none i })

pub cause_forced : (cause : Cond ℕ) (conditions : List (Cond ℕ)) → AreForced cause conditions cause
cause_forced cause conditions = record { with_cause = within_itself cause; in_each = λ choice in'. within_front cause choice }

pub forced_more : (cause : Cond ℕ) (conditions : List (Cond ℕ)) (all literals : Cond ℕ) → AreForced cause conditions all → Contains conditions literals → AreForced cause conditions (both all (forced_by literals))
forced_more cause conditions all literals are among = record {
  with_cause = within_more cause all (both all (forced_by literals)) are.with_cause (within_front all (forced_by literals));
  in_each = λ choice in'. within_joined all (forced_by literals) (both cause choice) (are.in_each choice in') (within_more (forced_by literals) choice (both cause choice) (in_choice choice (has_one conditions choice in' literals among) (is_alone literals) refl) (within_back cause choice));
}
  where
    in_choice : (choice : Cond ℕ) → (one : Literal) × Contains (turned literals) one × AreWithin (alone one) choice → (b : Bool) → is_alone literals ≡ b → AreWithin (cond b record { positive = literals.negative; negative = literals.positive } no_literals) choice
    in_choice choice one true is = subst (λ l. AreWithin l choice) (alone_is literals.positive literals.negative is one.0 one.1) one.2
    in_choice choice one false is = record { positive = λ f none. absurd (no_member f none); negative = λ f none. absurd (no_member f none) }

-- so a cause with them sets the same
pub chosen_alike : (cover : Cover) (cause : Cond ℕ) (conditions : List (Cond ℕ)) (all : Cond ℕ) (var : ℕ) → AreForced cause conditions all → chosen cover all var conditions ≡ chosen cover cause var conditions
chosen_alike cover cause conditions all var are =
    same_flat_map (λ choice. sets_where cover (pair var (last_value cover var)) (both all choice)) (λ choice. sets_where cover (pair var (last_value cover var)) (both cause choice)) (negated_choices conditions) (λ choice in'.
    ap (map (λ m. record { conditions = m; var = var; after = last_value cover var }))
    (same_split cover (both all choice) (both cause choice)
    (within_joined all choice (both cause choice) (are.in_each choice (contains_among (negated_choices conditions) choice in')) (within_back cause choice))
    (within_joined cause choice (both all choice) (within_more cause all (both all choice) are.with_cause (within_front all choice)) (within_back all choice))))

-- without rivals there is the cause alone
pub chosen_alone : (cover : Cover) (cause : Cond ℕ) (var : ℕ) → chosen cover cause var [] ≡ sets_where cover (pair var (last_value cover var)) cause
chosen_alone cover cause var =
    let pos = append-nil cause.positive in
    let neg = append-nil cause.negative in
    append-nil (sets_where cover (pair var (last_value cover var)) (both cause no_literals)) ∙ ap (sets_where cover (pair var (last_value cover var))) (λ i. record { positive = pos i; negative = neg i })

-- ---- choices that can't stand

module _ (cover : Cover) (cause : Cond ℕ) where
  abbrev over : Over
  over = record { cover = cover; literals = cause }

  abbrev stands : Cond ℕ → Bool
  stands choice = can_stand cover (both cause choice)

  abbrev sets : ℕ → Cond ℕ → List Effect
  sets var choice = sets_where cover (pair var (last_value cover var)) (both cause choice)

  -- what can't stand sets nothing
  pub all_set : (var : ℕ) (choices : List (Cond ℕ)) → flat_map (sets var) choices ≡ flat_map (sets var) (standing cover cause choices)
  all_set var [] = refl
  all_set var (choice ∷ choices) = by_case (stands choice) refl (all_set var choices)
    where
      by_case : (b : Bool) → stands choice ≡ b → flat_map (sets var) choices ≡ flat_map (sets var) (standing cover cause choices) →
          flat_map (sets var) (choice ∷ choices) ≡ flat_map (sets var) (cond b (choice ∷ standing cover cause choices) (standing cover cause choices))
      by_case true is more = ap (λ l. sets var choice ++ l) more
      by_case false is more =
          ap (λ (ms : List (List Pair)). map (λ m. record { conditions = m; var = var; after = last_value cover var }) ms ++ flat_map (sets var) choices) (none_split cover (both cause choice) is) ∙ more

  pub none_chosen : (var : ℕ) (conditions : List (Cond ℕ)) → standing cover cause (negated_choices conditions) ≡ [] → chosen cover cause var conditions ≡ []
  none_chosen var conditions none = all_set var (negated_choices conditions) ∙ ap (flat_map (sets var)) none

  pub chosen_are : (var : ℕ) (conditions choices : List (Cond ℕ)) → standing cover cause choices ≡ standing cover cause (negated_choices conditions) → flat_map (sets var) choices ≡ chosen cover cause var conditions
  chosen_are var conditions choices same = all_set var choices ∙ ap (flat_map (sets var)) same ∙ sym (all_set var (negated_choices conditions))

  pub one_more : (choice : Cond ℕ) (all : List (Cond ℕ)) → standing cover cause (all ++ choice ∷ []) ≡ standing cover cause all ++ standing cover cause (choice ∷ [])
  one_more choice all = filter-append stands all (choice ∷ [])

  pub dropped : (choice : Cond ℕ) (all : List (Cond ℕ)) → can_stand cover choice ≡ false → standing cover cause all ≡ standing cover cause all ++ standing cover cause (choice ∷ [])
  dropped choice all fails =
      sym (ap (λ l. standing cover cause all ++ l) (filter_no stands choice [] (still_fails cover choice (both cause choice) (within_back cause choice) fails)) ∙ append-nil (standing cover cause all))

  abbrev joined : Cond ℕ → Literal → Cond ℕ
  joined choice one = both choice (alone one)

  pub next_copy : (choice : Cond ℕ) (ones : List Literal) (i : ℕ) (d : Literal) (x : Cond ℕ) (old mid new : List (Cond ℕ)) →
      standing cover cause new ≡ standing cover cause mid ++ standing cover cause (x ∷ []) → x ≡ both choice (alone (get_or ones i d)) → i < length ones →
      standing cover cause mid ≡ standing cover cause old ++ standing cover cause (map (λ one. both choice (alone one)) (take i ones)) →
      standing cover cause new ≡ standing cover cause old ++ standing cover cause (map (λ one. both choice (alone one)) (take (i + 1) ones))
  next_copy choice ones i d x old mid new added is within held =
      let o = get_or ones i d in
      added
      ∙ ap (λ y. standing cover cause mid ++ standing cover cause (y ∷ [])) is
      ∙ ap (λ l. l ++ standing cover cause (joined choice o ∷ [])) held
      ∙ append_assoc (standing cover cause old) (standing cover cause (map (joined choice) (take i ones))) (standing cover cause (joined choice o ∷ []))
      ∙ ap (λ l. standing cover cause old ++ l) (sym (ap (standing cover cause) (ap (map (joined choice)) (take_more ones i d within) ∙ map-append (joined choice) (take i ones) (o ∷ [])) ∙ one_more (joined choice o) (map (joined choice) (take i ones))))

  pub one_copy : (choice : Cond ℕ) (ones : List Literal) (d : Literal) (x : Cond ℕ) (old new : List (Cond ℕ)) → new ≡ old ++ x ∷ [] → x ≡ both choice (alone (get_or ones 0 d)) → 0 < length ones → length ones < 2 →
      standing cover cause new ≡ standing cover cause old ++ standing cover cause (map (λ one. both choice (alone one)) ones)
  one_copy choice [] d x old new made is low high = absurd (omega arith)
  one_copy choice (one ∷ []) d x old new made is low high = ap (standing cover cause) made ∙ one_more x old ∙ ap (λ y. standing cover cause old ++ standing cover cause (y ∷ [])) is
  one_copy choice (one ∷ two ∷ ones) d x old new made is low high = absurd (omega arith)

  -- ---- one rival more

  abbrev grown : List (Cond ℕ) → Cond ℕ → List (Cond ℕ)
  grown ones choice = map (λ one. both choice one) ones

  -- a literal that the cause rules out is in no choice that can stand
  pub ones_left : (choice : Cond ℕ) (ones : List Literal) → standing cover cause (map (λ one. both choice (alone one)) (filter (λ one. not (rules_out over one)) ones)) ≡ standing cover cause (map (λ one. both choice (alone one)) ones)
  ones_left choice [] = refl
  ones_left choice (one ∷ ones) = by_case (rules_out over one) refl (ones_left choice ones)
    where
      fails : rules_out over one ≡ true → stands (joined choice one) ≡ false
      fails out =
          cant_stand cover (both cause (joined choice one))
          (ruled_out cover cause (both cause (joined choice one)) (within_front cause (joined choice one)) one
          (within_more (alone one) (joined choice one) (both cause (joined choice one)) (within_back choice (alone one)) (within_back cause (joined choice one))) out)

      by_case : (b : Bool) → rules_out over one ≡ b → standing cover cause (map (joined choice) (filter (λ one. not (rules_out over one)) ones)) ≡ standing cover cause (map (joined choice) ones) →
          standing cover cause (map (joined choice) (cond (not b) (one ∷ filter (λ one. not (rules_out over one)) ones) (filter (λ one. not (rules_out over one)) ones))) ≡ standing cover cause (map (joined choice) (one ∷ ones))
      by_case true out more = more ∙ sym (filter_no stands (joined choice one) (map (joined choice) ones) (fails out))
      by_case false out more = ap (λ (l : List (Cond ℕ)). cond (stands (joined choice one)) (joined choice one ∷ l) l) more

  pub with_each : (choice : Cond ℕ) (literals : Cond ℕ) → standing cover cause (map (λ one. both choice (alone one)) (filter (λ one. not (rules_out over one)) (turned literals))) ≡ standing cover cause (map (λ one. both choice one) (negations literals))
  with_each choice literals =
      ones_left choice (turned literals)
      ∙ ap (standing cover cause) (sym (map-map (both choice) alone (turned literals)) ∙ ap (map (both choice)) (sym (turned_are literals)))

  -- what a choice that can't stand is extended to can't stand either
  extended : (ones : List (Cond ℕ)) (choices : List (Cond ℕ)) →
      standing cover cause (flat_map (λ choice. map (λ one. both choice one) ones) choices) ≡ flat_map (λ choice. standing cover cause (map (λ one. both choice one) ones)) (standing cover cause choices)
  extended ones [] = refl
  extended ones (choice ∷ choices) = by_case (stands choice) refl (extended ones choices)
    where
      by_case : (b : Bool) → stands choice ≡ b → standing cover cause (flat_map (grown ones) choices) ≡ flat_map (λ choice. standing cover cause (grown ones choice)) (standing cover cause choices) →
          standing cover cause (grown ones choice ++ flat_map (grown ones) choices) ≡ flat_map (λ choice. standing cover cause (grown ones choice)) (cond b (choice ∷ standing cover cause choices) (standing cover cause choices))
      by_case true is more = filter-append stands (grown ones choice) (flat_map (grown ones) choices) ∙ ap (λ l. standing cover cause (grown ones choice) ++ l) more
      by_case false is more =
          filter-append stands (grown ones choice) (flat_map (grown ones) choices)
          ∙ ap (λ l. l ++ standing cover cause (flat_map (grown ones) choices)) (filter_none stands (grown ones choice) (λ y in'.
          let one = map_member (λ one. both choice one) ones y in' in
          still_fails cover (both cause choice) (both cause y) (subst (λ z. AreWithin (both cause choice) (both cause z)) one.2 (within_both cause choice (both choice one.0) (within_front choice one.0))) is))
          ∙ more

  -- so they may be dropped before
  pub next_choices : (conditions : List (Cond ℕ)) (last : Cond ℕ) (choices : List (Cond ℕ)) → standing cover cause choices ≡ standing cover cause (negated_choices conditions) →
      standing cover cause (flat_map (λ choice. map (λ one. both choice one) (negations last)) choices) ≡ standing cover cause (negated_choices (conditions ++ last ∷ []))
  next_choices conditions last choices same =
      extended (negations last) choices
      ∙ ap (flat_map (λ choice. standing cover cause (map (λ one. both choice one) (negations last)))) same
      ∙ sym (extended (negations last) (negated_choices conditions))
      ∙ ap (standing cover cause) (sym (choices_more conditions last))

  -- ---- where none can stand

  pub contradicted : is_contradicted over ≡ true → can_stand cover cause ≡ false
  contradicted is =
      let fact = any_member (λ fact. rules_out over record { fact = fact; truth = true }) cause.positive is in
      cant_stand cover cause (ruled_out cover cause cause (within_itself cause) record { fact = fact.0; truth = true } (within_fact cause fact.0 fact.1) fact.2)

  pub none_beside : can_stand cover cause ≡ false → (choices : List (Cond ℕ)) → standing cover cause choices ≡ []
  none_beside fails choices = filter_none stands choices (λ choice in'. still_fails cover cause (both cause choice) (within_front cause choice) fails)

  each_ruled_out : (literals : Cond ℕ) → shows over literals ≡ true → (one : Literal) → Contains (turned literals) one → rules_out over one ≡ true
  each_ruled_out literals shown one in' =
      let no : ℕ → Literal = λ fact. record { fact = fact; truth = false } in
      let yes' : ℕ → Literal = λ fact. record { fact = fact; truth = true } in
      let parts = and_parts (list_all (λ fact. rules_out over (no fact)) literals.positive) (list_all (λ fact. rules_out over (yes' fact)) literals.negative) shown in
      elim (Contains-append_cases (map no literals.positive) (map yes' literals.negative) one in') [
        | inl a ↦ let fact = map_member no literals.positive one a in subst (λ o. rules_out over o ≡ true) fact.2 (all_pass (λ f. rules_out over (no f)) literals.positive fact.0 parts.0 fact.1)
        | inr b ↦ let fact = map_member yes' literals.negative one b in subst (λ o. rules_out over o ≡ true) fact.2 (all_pass (λ f. rules_out over (yes' f)) literals.negative fact.0 parts.1 fact.1)
      ]

  -- a rival fires wherever the cause holds
  pub none_beside_shown : (conditions : List (Cond ℕ)) → list_any (shows over) conditions ≡ true → standing cover cause (negated_choices conditions) ≡ []
  none_beside_shown conditions shown =
      let literals = any_member (shows over) conditions shown in
      filter_none stands (negated_choices conditions) (λ choice in'.
      let one = has_one conditions choice in' literals.0 literals.1 in
      cant_stand cover (both cause choice)
      (ruled_out cover cause (both cause choice) (within_front cause choice) one.0 (within_more (alone one.0) choice (both cause choice) one.2 (within_back cause choice))
      (each_ruled_out literals.0 literals.2 one.0 one.1)))
