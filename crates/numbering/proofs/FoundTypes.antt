-- What is found below the listed types by adding entries that are next until none is: exactly the types that lead to a listed one.
use Rattle.std.proofs.Common.{◌≡◌, ℕ, zero, suc, ◌+◌, ◌*◌, ◌<◌, ◌≤◌, Bool, true, false, not, ◌&&◌, ◌||◌, ◌⊎◌, inl, inr, List, [], ◌∷◌, ◌++◌, take, take_all, length, get_or, refl, sym, ap, ◌∙◌, subst, arith}
use Rattle.std.specs.Prelude.{if◌then◌else◌}
use Rattle.std.specs.List.{list_any}
use Rattle.std.proofs.lemmas.Bool.{and_parts, and_from, or_cases, or_left, or_right, not-true, true_from_ne_false, true≢false}
use Rattle.std.proofs.Math.Bool.{or-false}
use Rattle.lists.proofs.Items.{Among, among_at, any_passes, passing, any_append, filter_yes, filter_no}
use Rattle.lists.proofs.LoopSteps.{any_next}
use Rattle.names.proofs.SameNames.{same_name}
use Rattle.names.proofs.Reachability.{same_as, standing}
use Rattle.pddl_syntax.specs.declared.types.Named.{Named}
use Rattle.pddl_syntax.specs.declared.types.Typed.{Typed}
use Rattle.pddl_syntax.specs.Words.{Name, is_same}
use Rattle.pddl_syntax.specs.Objects.{root, declares, some_supertype, leads}
use Rattle.pddl_syntax.proofs.TypeChains.{any_chain}
use Rattle.numbering.specs.Below.{has, is_next, with_next, leads_to, AllLead, Grows, IsClosed, missing}
use Rattle.std.specs.Cmp.{both_ways}

is_in : (name : Name) → has (name ∷ []) name ≡ true
is_in name = or_left (is_same name name) false (same_as name name refl)

module _ (entries : List Typed) where
  pub grows_not : (found : List Name) → Grows entries found found
  grows_not found = record { kept = λ name there. there; lead = λ listed all. all }

  pub grows_on : (first second third : List Name) → Grows entries first second → Grows entries second third → Grows entries first third
  grows_on first second third one other = record {
    kept = λ name there. other.kept name (one.kept name there);
    lead = λ listed all. other.lead listed (one.lead listed all);
  }

  -- an entry whose supertype leads to a listed type leads there
  module _ (listed : List Named) (entry : Typed) (among : Among entry entries) (other : not (is_same entry.name.name root) ≡ true) where
    abbrev own : Name
    own = entry.name.name

    leads_up : (parent type : Named) → Among parent entry.types → Among type listed → leads entries (length entries) parent.name type.name ≡ true → leads_to entries listed own ≡ true
    leads_up parent type above there chain =
        let passes : Name → Bool = λ next. leads entries (length entries) next type.name in
        let parents = any_passes (λ (p : Named). passes p.name) parent entry.types above chain in
        let declared = and_from (is_same own own) (not (is_same own root)) (same_as own own refl) other in
        let here = and_from (declares entry own) (list_any (λ (p : Named). passes p.name) entry.types) declared parents in
        let edge = any_passes (λ (e : Typed). declares e own && list_any (λ (p : Named). passes p.name) e.types) entry entries among here in
        let longer = or_right (is_same own type.name) (some_supertype entries own passes) edge in
        any_passes (λ (t : Named). leads entries (length entries) own t.name) type listed there (any_chain entries (suc (length entries)) own type.name longer)

  -- ---- one entry

  pub next_grows : (found : List Name) (entry : Typed) → Among entry entries → Grows entries found (with_next found entry)
  next_grows found entry among = by (is_next found entry) refl
    where
      by : (b : Bool) → is_next found entry ≡ b → Grows entries found (if b then found ++ entry.name.name ∷ [] else found)
      by false e = grows_not found
      by true e =
          let parts = and_parts (not (has found entry.name.name)) (not (is_same entry.name.name root) && list_any (λ (parent : Named). has found parent.name) entry.types) e in
          let more = and_parts (not (is_same entry.name.name root)) (list_any (λ (parent : Named). has found parent.name) entry.types) parts.1 in
          let above = passing (λ (parent : Named). has found parent.name) entry.types more.1 in
          record {
            kept = λ name there. any_append (is_same name) found (entry.name.name ∷ []) ∙ or_left (has found name) (has (entry.name.name ∷ []) name) there;
            lead = λ listed all name there.
                let new : leads_to entries listed entry.name.name ≡ true =
                (let to = passing (λ (t : Named). leads entries (length entries) above.item.name t.name) listed (all above.item.name above.passes) in
                leads_up listed entry among more.0 above.item to.item above.among to.among to.passes) in
                by_place listed all name new (or_cases (has found name) (has (entry.name.name ∷ []) name) (sym (any_append (is_same name) found (entry.name.name ∷ [])) ∙ there));
          }
        where
          by_place : (listed : List Named) → AllLead entries listed found → (name : Name) → leads_to entries listed entry.name.name ≡ true →
              (has found name ≡ true) ⊎ (has (entry.name.name ∷ []) name ≡ true) → leads_to entries listed name ≡ true
          by_place listed all name new (inl there) = all name there
          by_place listed all name new (inr here) =
              let same = same_name name entry.name.name (sym (or-false (is_same name entry.name.name)) ∙ here) in
              subst (λ (n : Name). leads_to entries listed n ≡ true) (sym same) new

  pub next_at : (found found' : List Name) (place : ℕ) (entry : Typed) → place < length entries → entry ≡ get_or entries place entry → found' ≡ with_next found entry → Grows entries found found'
  next_at found found' place entry within is found_is =
      subst (Grows entries found) (sym found_is) (next_grows found entry (subst (λ (e : Typed). Among e entries) (sym is) (among_at entries place entry within)))

  -- ---- all entries

  -- where no entry is next, whatever leads to a found type is found
  pub all_found : (found : List Name) → IsClosed entries found → (steps : ℕ) (from to : Name) → has found to ≡ true → leads entries steps from to ≡ true → has found from ≡ true
  all_found found closed zero from to there chain = subst (λ (n : Name). has found n ≡ true) (sym (same_name from to chain)) there
  all_found found closed (suc steps) from to there chain = by (all_found found closed steps) (or_cases (is_same from to) (some_supertype entries from (λ next. leads entries steps next to)) chain)
    where
      passes : Name → Bool
      passes next = leads entries steps next to

      not_next : (entry : Typed) → Among entry entries → not (is_same entry.name.name root) ≡ true → list_any (λ (parent : Named). has found parent.name) entry.types ≡ true →
          has found entry.name.name ≡ true
      not_next entry among other above = true_from_ne_false (has found entry.name.name) (λ is.
          let next = and_from (not (has found entry.name.name)) (not (is_same entry.name.name root) && list_any (λ (parent : Named). has found parent.name) entry.types) (ap not is)
          (and_from (not (is_same entry.name.name root)) (list_any (λ (parent : Named). has found parent.name) entry.types) other above) in
          true≢false (sym (any_passes (is_next found) entry entries among next) ∙ closed))

      by : ((from to : Name) → has found to ≡ true → leads entries steps from to ≡ true → has found from ≡ true) →
          (is_same from to ≡ true) ⊎ (some_supertype entries from (λ next. leads entries steps next to) ≡ true) → has found from ≡ true
      by rest (inl same) = subst (λ (n : Name). has found n ≡ true) (sym (same_name from to same)) there
      by rest (inr some) =
          let on = passing (λ (e : Typed). declares e from && list_any (λ (p : Named). leads entries steps p.name to) e.types) entries some in
          let parts = and_parts (declares on.item from) (list_any (λ (p : Named). leads entries steps p.name to) on.item.types) on.passes in
          let declared = and_parts (is_same on.item.name.name from) (not (is_same from root)) parts.0 in
          let is = same_name on.item.name.name from declared.0 in
          let above = passing (λ (p : Named). leads entries steps p.name to) on.item.types parts.1 in
          let known = any_passes (λ (p : Named). has found p.name) above.item on.item.types above.among (rest above.item.name to there above.passes) in
          let other = subst (λ (n : Name). not (is_same n root) ≡ true) (sym is) declared.1 in
          subst (λ (n : Name). has found n ≡ true) is (not_next on.item on.among other known)

  -- from the listed types on
  pub found_below : (listed : List Named) (start found : List Name) → ((name : Name) → has start name ≡ list_any (λ type. is_same name type.name) listed) →
      Grows entries start found → IsClosed entries found → (name : Name) → has found name ≡ leads_to entries listed name
  found_below listed start found starts grows closed name = both_ways (has found name) (leads_to entries listed name) forth back
    where
      start_leads : AllLead entries listed start
      start_leads name there =
          let at = passing (λ (type : Named). is_same name type.name) listed (sym (starts name) ∙ there) in
          any_passes (λ (type : Named). leads entries (length entries) name type.name) at.item listed at.among
          (standing (some_supertype entries) (length entries) name at.item.name (same_name name at.item.name at.passes))

      forth : has found name ≡ true → leads_to entries listed name ≡ true
      forth there = grows.lead listed start_leads name there

      back : leads_to entries listed name ≡ true → has found name ≡ true
      back chain =
          let to = passing (λ (type : Named). leads entries (length entries) name type.name) listed chain in
          let known = any_passes (λ (type : Named). is_same to.item.name type.name) to.item listed to.among (same_as to.item.name to.item.name refl) in
          all_found found closed (length entries) name to.item.name (grows.kept to.item.name (starts to.item.name ∙ known)) to.passes

-- ---- how many are missing

-- one where it is so
abbrev pub one_if : Bool → ℕ
one_if b = if b then 1 else 0

abbrev counted : Bool → ℕ → ℕ
counted known count = if known then count else suc count

missing_first : (found : List Name) (entry : Typed) (entries : List Typed) (known : Bool) → has found entry.name.name ≡ known → missing (entry ∷ entries) found ≡ counted known (missing entries found)
missing_first found entry entries true is = ap (λ (l : List Typed). length l) (filter_no (λ (e : Typed). not (has found e.name.name)) entry entries (ap not is))
missing_first found entry entries false is = ap (λ (l : List Typed). length l) (filter_yes (λ (e : Typed). not (has found e.name.name)) entry entries (ap not is))

counted_less : (known known' : Bool) (count count' fewer : ℕ) → (known ≡ true → known' ≡ true) → count' + fewer ≤ count → counted known' count' + fewer ≤ counted known count
counted_less true true count count' fewer kept less = less
counted_less true false count count' fewer kept less = absurd (true≢false (sym (kept refl)))
counted_less false true count count' fewer kept less = omega (arith, less)
counted_less false false count count' fewer kept less = omega (arith, less)

-- what keeps what is found misses no more
pub missing_less : (found found' : List Name) → ((name : Name) → has found name ≡ true → has found' name ≡ true) → (entries : List Typed) → missing entries found' ≤ missing entries found
missing_less found found' kept [] = omega arith
missing_less found found' kept (entry ∷ entries) =
    let rest = missing_less found found' kept entries in
    let here = counted_less (has found entry.name.name) (has found' entry.name.name) (missing entries found) (missing entries found') 0 (kept entry.name.name) (omega (arith, rest)) in
    omega (arith, here, missing_first found entry entries (has found entry.name.name) refl, missing_first found' entry entries (has found' entry.name.name) refl)

-- and where it finds an entry's type, fewer
pub missing_fewer : (found found' : List Name) → ((name : Name) → has found name ≡ true → has found' name ≡ true) → (entry : Typed) (entries : List Typed) → Among entry entries →
    has found entry.name.name ≡ false → has found' entry.name.name ≡ true → missing entries found' < missing entries found
missing_fewer found found' kept entry [] among new known = absurd among
missing_fewer found found' kept entry (first ∷ entries) (inl here) new known =
    let rest = missing_less found found' kept entries in
    let before = missing_first found first entries false (ap (λ (e : Typed). has found e.name.name) here ∙ new) in
    let after = missing_first found' first entries true (ap (λ (e : Typed). has found' e.name.name) here ∙ known) in
    omega (arith, rest, before, after)
missing_fewer found found' kept entry (first ∷ entries) (inr there) new known =
    let rest = missing_fewer found found' kept entry entries there new known in
    let here = counted_less (has found first.name.name) (has found' first.name.name) (missing entries found) (missing entries found') 1 (kept first.name.name) (omega (arith, rest)) in
    omega (arith, here, missing_first found first entries (has found first.name.name) refl, missing_first found' first entries (has found' first.name.name) refl)

-- ---- one round

-- what a round has done, as far as it has come: nothing, or it found some
pub record Round (entries : List Typed) (start found : List Name) (has_grown : Bool) (at : ℕ) : Type 0 where
  pub grows : Grows entries start found
  pub same : has_grown ≡ false → found ≡ start
  pub none : has_grown ≡ false → list_any (is_next start) (take at entries) ≡ false
  pub fewer : missing entries found + one_if has_grown ≤ missing entries start

pub round_begins : (entries : List Typed) (start : List Name) → Round entries start start false 0
round_begins entries start = record { grows = grows_not entries start; same = λ _. refl; none = λ _. refl; fewer = omega arith }

pub round_more : (entries : List Typed) (start found : List Name) (has_grown : Bool) (at : ℕ) → Round entries start found has_grown at →
    (entry : Typed) → at < length entries → entry ≡ get_or entries at entry → (found' : List Name) → found' ≡ with_next found entry → (is_new has_grown' : Bool) → is_new ≡ is_next found entry →
    has_grown' ≡ (is_new || has_grown) → Round entries start found' has_grown' (at + 1)
round_more entries start found has_grown at before entry within is found' found_is is_new has_grown' new_is grown_is = by (is_next found entry) refl has_grown refl
  where
    among : Among entry entries
    among = subst (λ (e : Typed). Among e entries) (sym is) (among_at entries at entry within)

    grows' : Grows entries start found'
    grows' = grows_on entries start found found' before.grows (subst (Grows entries found) (sym found_is) (next_grows entries found entry among))

    by : (new : Bool) → is_next found entry ≡ new → (grown : Bool) → has_grown ≡ grown → Round entries start found' has_grown' (at + 1)
    by true e grown g =
        let now_grown : has_grown' ≡ true = grown_is ∙ ap (λ b. b || has_grown) (new_is ∙ e) in
        let longer : found' ≡ found ++ entry.name.name ∷ [] = found_is ∙ ap (λ b. if b then found ++ entry.name.name ∷ [] else found) e in
        let new = and_parts (not (has found entry.name.name)) (not (is_same entry.name.name root) && list_any (λ (parent : Named). has found parent.name) entry.types) e in
        let step = subst (Grows entries found) (sym found_is) (next_grows entries found entry among) in
        let known : has found' entry.name.name ≡ true =
        ap (λ (l : List Name). has l entry.name.name) longer ∙ any_append (is_same entry.name.name) found (entry.name.name ∷ []) ∙ or_right (has found entry.name.name) (has (entry.name.name ∷ []) entry.name.name) (is_in entry.name.name) in
        let less = missing_fewer found found' step.kept entry entries among (not-true (has found entry.name.name) new.0) known in
        let before_less = before.fewer in
        record {
          grows = grows';
          same = λ quiet. absurd (true≢false (sym now_grown ∙ quiet));
          none = λ quiet. absurd (true≢false (sym now_grown ∙ quiet));
          fewer = (let one : one_if has_grown' ≡ one_if true = ap one_if now_grown in omega (arith, one, less, before_less));
        }
    by false e grown g =
        let same_grown : has_grown' ≡ has_grown = grown_is ∙ ap (λ b. b || has_grown) (new_is ∙ e) in
        let same_found : found' ≡ found = found_is ∙ ap (λ b. if b then found ++ entry.name.name ∷ [] else found) e in
        record {
          grows = grows';
          same = λ quiet. same_found ∙ before.same (sym same_grown ∙ quiet);
          none = λ quiet.
              let still = before.same (sym same_grown ∙ quiet) in
              any_next entries at entry within is (is_next start)
              ∙ ap (λ b. b || is_next start entry) (before.none (sym same_grown ∙ quiet)) ∙ ap (λ (l : List Name). is_next l entry) (sym still) ∙ e;
          fewer = (let counts : missing entries found' + one_if has_grown' ≡ missing entries found + one_if has_grown = ap (λ (l : List Name). missing entries l + one_if has_grown') same_found ∙ ap (λ b. missing entries found + one_if b) same_grown in omega (arith, counts, before.fewer));
        }

-- a round over all entries
pub closed_after : (entries : List Typed) (start found : List Name) (has_grown : Bool) (at : ℕ) → Round entries start found has_grown at → length entries ≤ at → has_grown ≡ false → IsClosed entries found
closed_after entries start found has_grown at round over quiet =
    ap (λ (l : List Name). list_any (is_next l) entries) (round.same quiet) ∙ ap (list_any (is_next start)) (sym (take_all at entries over)) ∙ round.none quiet

pub fewer_twice : (after before more : ℕ) → after + more ≤ before → 2 * after + more < 2 * before + 1
fewer_twice after before more less = omega (arith, less)
