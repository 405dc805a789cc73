-- The kinds of names, one after another.
use Rattle.std.proofs.Common.{◌≡◌, Bool, true, false, not, cond, eqb, ℕ, ◌+◌, ◌<◌, ◌≤◌, List, [], ◌∷◌, ◌++◌, map, drop, length, get_or, Option, Some, None, option_map, refl, sym, ap, ◌∙◌, subst, append-nil}
use Rattle.std.specs.List.{slice_split}
use Rattle.std.proofs.lemmas.Option.{none-some, same_Some}
use Rattle.std.proofs.lemmas.List.{append_assoc, length-map, get_or-map, drop_all, at_drop_more}
use Rattle.pass_book.specs.declared.kind.PassKind.{PassKind}
use Rattle.pass_book.specs.Passes.{is_held, first_missing}
use Rattle.translator.specs.Asked.{kind_named, if_one_held, kind_held, put_first, kinds_named, kinds_of}

-- the kinds so far, and behind them those that follow, if there are some
abbrev pub behind : List PassKind → Option (List PassKind) → Option (List PassKind)
behind kinds later = option_map (λ rest. kinds ++ rest) later

module _ {X : Type 0} (held : List PassKind) (name_of : X → List ℕ) (items : List X) where
  abbrev names : List (List ℕ)
  names = map name_of items

  pub nothing_yet : kinds_named held names ≡ behind [] (kinds_named held names)
  nothing_yet = by_cases (kinds_named held names)
    where
      by_cases : (o : Option (List PassKind)) → o ≡ behind [] o
      by_cases (Some kinds) = refl
      by_cases None = refl

  -- the next name's kind, and those of the names behind it
  next : (i : ℕ) (d : X) → i < length items → kinds_named held (drop i names) ≡ put_first (kind_held held (name_of (get_or items i d))) (kinds_named held (drop (i + 1) names))
  next i d below =
      at_drop_more (kinds_named held) names i (name_of d) (subst (λ n. i < n) (sym (length-map items name_of)) below)
      ∙ ap (λ n. put_first (kind_held held n) (kinds_named held (drop (i + 1) names))) (get_or-map name_of items i d (name_of d) below)

  pub one_more : (i : ℕ) (d : X) (kind : PassKind) (kinds : List PassKind) → i < length items → Some kind ≡ kind_held held (name_of (get_or items i d))
      → kinds_named held names ≡ behind kinds (kinds_named held (drop i names)) → kinds_named held names ≡ behind (kinds ++ kind ∷ []) (kinds_named held (drop (i + 1) names))
  one_more i d kind kinds below one so_far =
      so_far ∙ ap (behind kinds) (next i d below ∙ ap (λ o. put_first o (kinds_named held (drop (i + 1) names))) (sym one)) ∙ by_cases (kinds_named held (drop (i + 1) names))
    where
      by_cases : (o : Option (List PassKind)) → behind kinds (put_first (Some kind) o) ≡ behind (kinds ++ kind ∷ []) o
      by_cases (Some rest) = ap Some (sym (append_assoc kinds (kind ∷ []) rest))
      by_cases None = refl

  pub one_lacks : (i : ℕ) (d : X) (kinds : List PassKind) → i < length items → None ≡ kind_held held (name_of (get_or items i d))
      → kinds_named held names ≡ behind kinds (kinds_named held (drop i names)) → None ≡ kinds_named held names
  one_lacks i d kinds below lacks so_far =
      sym (so_far ∙ ap (behind kinds) (next i d below ∙ ap (λ o. put_first o (kinds_named held (drop (i + 1) names))) (sym lacks)))

  pub each_named : (i : ℕ) (kinds : List PassKind) → length items ≤ i → kinds_named held names ≡ behind kinds (kinds_named held (drop i names)) → Some kinds ≡ kinds_named held names
  each_named i kinds past so_far =
      sym (so_far ∙ ap (λ ns. behind kinds (kinds_named held ns)) (drop_all i names (subst (λ n. n ≤ i) (sym (length-map items name_of)) past)) ∙ ap Some (append-nil kinds))

-- a kind that is held
held_kind : (held : List PassKind) (o : Option PassKind) (kind : PassKind) → if_one_held held o ≡ Some kind → is_held held kind ≡ true
held_kind held None kind is = absurd (none-some kind is)
held_kind held (Some other) kind is = by_test (is_held held other) refl is
  where
    by_test : (b : Bool) → is_held held other ≡ b → cond b (Some other) None ≡ Some kind → is_held held kind ≡ true
    by_test true held_so is = ap (is_held held) (sym (same_Some other kind is)) ∙ held_so
    by_test false held_so is = absurd (none-some kind is)

-- none of the kinds that names ask for is missing
pub named_are_held : (held : List PassKind) (names : List (List ℕ)) (kinds : List PassKind) → kinds_named held names ≡ Some kinds → first_missing held kinds ≡ None
named_are_held held [] kinds is = ap (first_missing held) (sym (same_Some [] kinds is))
named_are_held held (name ∷ names) kinds is = by_parts (kind_held held name) refl (kinds_named held names) (named_are_held held names) is
  where
    by_parts : (o : Option PassKind) → kind_held held name ≡ o → (p : Option (List PassKind)) → ((rest : List PassKind) → p ≡ Some rest → first_missing held rest ≡ None) → put_first o p ≡ Some kinds → first_missing held kinds ≡ None
    by_parts None one p later is = absurd (none-some kinds is)
    by_parts (Some kind) one None later is = absurd (none-some kinds is)
    by_parts (Some kind) one (Some rest) later is =
        ap (first_missing held) (sym (same_Some (kind ∷ rest) kinds is))
        ∙ ap (λ b. cond (not b) (Some kind) (first_missing held rest)) (held_kind held (kind_named name) kind one)
        ∙ later rest refl

pub asked_are_held : (held : List PassKind) (list : Option (List ℕ)) (kinds : List PassKind) → kinds_of held list ≡ Some kinds → first_missing held kinds ≡ None
asked_are_held held None kinds is = ap (first_missing held) (sym (same_Some [] kinds is))
asked_are_held held (Some list) kinds is = named_are_held held (slice_split (λ byte. eqb byte 44) list) kinds is
