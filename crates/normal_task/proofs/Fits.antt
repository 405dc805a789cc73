-- The parts of a condition name variables that they have, declared predicates, and new predicates that are numbered from where the condition begins.
use Rattle.std.proofs.Common.{append-nil, ◌≡◌, ℕ, suc, ◌+◌, ◌<◌, ◌≤◌, Bool, true, false, not, ◌&&◌, ◌||◌, List, [], ◌∷◌, ◌++◌, map, length, refl, sym, ap, ◌∙◌, subst, arith, inl, inr, ◌⊎◌}
use Rattle.std.specs.Prelude.{nat_lt, nat_le, if◌then◌else◌, Option, unwrap_or}
use Rattle.std.specs.List.{list_all, list_any}
use Rattle.std.specs.Option.{option_map}
use Rattle.std.proofs.lemmas.Bool.{and_parts, and_from, or_cases, or_left, or_right, ltb-true, leb-true, lt-ltb, le-leb, not-true}
use Rattle.lists.specs.Members.{is_among}
use Rattle.pddl_syntax.specs.declared.types.Condition.{Condition}
use Rattle.pddl_syntax.specs.declared.types.Domain.{Domain}
use Rattle.pddl_syntax.specs.declared.types.Head.{Head}
use Rattle.pddl_syntax.specs.declared.types.Problem.{Problem}
use Rattle.pddl_syntax.specs.declared.types.Term.{Term}
use Rattle.pddl_syntax.specs.declared.types.Term.TheVariants as terms
use Rattle.pddl_syntax.specs.declared.types.Typed.{Typed}
use Rattle.pddl_syntax.specs.Words.{Name, is_same}
use Rattle.pddl_syntax.proofs.ConditionCases.{Each}
use Rattle.fault_positions.specs.Mentions.{Asked}
use Rattle.normal_task.specs.declared.task.Literal.{Literal}
use Rattle.normal_task.specs.declared.task.Literal.TheVariants.{Holds, Equal}
use Rattle.normal_task.specs.declared.task.Place.{Place}
use Rattle.normal_task.specs.declared.task.Place.TheVariants.{Variable, Object}
use Rattle.normal_task.specs.Numbers.{number_in, head_names, predicate_number, ranges_of}
use Rattle.normal_task.specs.Parts.{Slot, Scope, slots_for, renumbered, scope_inside, Part, Fresh, Made, in_turn, all_of, moved_place, moved, joined, paired, with_variables, Known, is_term_of, variable_at, place_of, fresh_number, free_slots, exists_inside, none_inside, known}
pub use Rattle.normal_task.specs.Within.{place_within, literal_within}
use Rattle.normal_task.proofs.Alls.{all-both, all-left, all-right, all-images, all-weaker, all-pieces}
use Rattle.normal_task.proofs.Mentioned.{is_known_mention, is_known_term, is_declared, AreKnown}
use Rattle.normal_task.proofs.Scopes.{InScope, slot-here, slot-behind, same-slot, map-append, length-append, length-map, slots-in_scope, inside-in_scope, hides, slots_behind}
use Rattle.normal_task.proofs.CutCases.{asked_in, unlisted-asked, CutOf, Laws, cuts-shown}
use Rattle.pddl_syntax.proofs.Steps.{name_same}

-- ---- literals

-- the literal asks for a declared predicate, of which there are so many, or for a new one from this number on
abbrev pub literal_from : ℕ → ℕ → Literal → Bool
literal_from declared next (Holds positive predicate places) = nat_lt predicate declared || nat_le (declared + next) predicate
literal_from declared next (Equal positive left right) = true

abbrev pub fits : ℕ → ℕ → ℕ → Literal → Bool
fits declared bound next literal = literal_within bound literal && literal_from declared next literal

less-wider : (n bound more : ℕ) → bound ≤ more → nat_lt n bound ≡ true → nat_lt n more ≡ true
less-wider n bound more fewer is = lt-ltb n more (omega (arith, fewer, ltb-true n bound is))

place-wider : (bound more : ℕ) → bound ≤ more → (place : Place) → place_within bound place ≡ true → place_within more place ≡ true
place-wider bound more fewer (Variable number) is = less-wider number bound more fewer is
place-wider bound more fewer (Object object) is = refl

pub within-wider : (bound more : ℕ) → bound ≤ more → (literal : Literal) → literal_within bound literal ≡ true → literal_within more literal ≡ true
within-wider bound more fewer (Holds positive predicate places) is = all-weaker (place_within bound) (place_within more) (place-wider bound more fewer) places is
within-wider bound more fewer (Equal positive left right) is =
    let parts = and_parts (place_within bound left) (place_within bound right) is in
    and_from (place_within more left) (place_within more right) (place-wider bound more fewer left parts.0) (place-wider bound more fewer right parts.1)

pub from-earlier : (declared next earlier : ℕ) → earlier ≤ next → (literal : Literal) → literal_from declared next literal ≡ true → literal_from declared earlier literal ≡ true
from-earlier declared next earlier before (Holds positive predicate places) is = by (or_cases (nat_lt predicate declared) (nat_le (declared + next) predicate) is)
  where
    by : (nat_lt predicate declared ≡ true) ⊎ (nat_le (declared + next) predicate ≡ true) → (nat_lt predicate declared || nat_le (declared + earlier) predicate) ≡ true
    by (inl old) = or_left (nat_lt predicate declared) (nat_le (declared + earlier) predicate) old
    by (inr new) = or_right (nat_lt predicate declared) (nat_le (declared + earlier) predicate) (le-leb (declared + earlier) predicate (omega (arith, before, leb-true (declared + next) predicate new)))
from-earlier declared next earlier before (Equal positive left right) is = refl

pub fits-weaker : (declared bound more next earlier : ℕ) → bound ≤ more → earlier ≤ next → (literal : Literal) → fits declared bound next literal ≡ true → fits declared more earlier literal ≡ true
fits-weaker declared bound more next earlier fewer before literal is =
    let parts = and_parts (literal_within bound literal) (literal_from declared next literal) is in
    and_from (literal_within more literal) (literal_from declared earlier literal) (within-wider bound more fewer literal parts.0) (from-earlier declared next earlier before literal parts.1)

-- ---- moved literals

place-moved : (around by bound : ℕ) → around ≤ bound → (place : Place) → place_within bound place ≡ true → place_within (bound + by) (moved_place around by place) ≡ true
place-moved around by bound in_it (Object object) is = refl
place-moved around by bound in_it (Variable number) is = cases (nat_lt number around) refl
  where
    cases : (b : Bool) → nat_lt number around ≡ b → place_within (bound + by) (Variable (if b then number else number + by)) ≡ true
    cases true e = less-wider number bound (bound + by) (omega arith) is
    cases false e = lt-ltb (number + by) (bound + by) (omega (arith, ltb-true number bound is))

pub fits-moved : (declared around by bound next : ℕ) → around ≤ bound → (literal : Literal) → fits declared bound next literal ≡ true → fits declared (bound + by) next (moved around by literal) ≡ true
fits-moved declared around by bound next in_it (Holds positive predicate places) is =
    let parts = and_parts (list_all (place_within bound) places) (literal_from declared next (Holds positive predicate places)) is in
    and_from (list_all (place_within (bound + by)) (map (moved_place around by) places)) (literal_from declared next (Holds positive predicate places))
    (all-images (place_within bound) (place_within (bound + by)) (moved_place around by) (place-moved around by bound in_it) places parts.0) parts.1
fits-moved declared around by bound next in_it (Equal positive left right) is =
    let parts = and_parts (place_within bound left && place_within bound right) true is in
    let sides = and_parts (place_within bound left) (place_within bound right) parts.0 in
    and_from (place_within (bound + by) (moved_place around by left) && place_within (bound + by) (moved_place around by right)) true
    (and_from (place_within (bound + by) (moved_place around by left)) (place_within (bound + by) (moved_place around by right)) (place-moved around by bound in_it left sides.0) (place-moved around by bound in_it right sides.1)) refl

-- ---- parts

abbrev pub part_fits : ℕ → ℕ → ℕ → Part → Bool
part_fits declared around next part = list_all (fits declared (around + length part.variables) next) part.literals

abbrev pub parts_fit : ℕ → ℕ → ℕ → List Part → Bool
parts_fit declared around next parts = list_all (part_fits declared around next) parts

-- the parts of new predicates name their own variables, and new predicates that are numbered behind
abbrev pub fresh_fit : ℕ → ℕ → List Fresh → Bool
fresh_fit declared next [] = true
fresh_fit declared next (fresh ∷ more) = parts_fit declared (length fresh.arguments) (suc next) fresh.parts && fresh_fit declared (suc next) more

pub part-earlier : (declared around next earlier : ℕ) → earlier ≤ next → (part : Part) → part_fits declared around next part ≡ true → part_fits declared around earlier part ≡ true
part-earlier declared around next earlier before part is =
    all-weaker (fits declared (around + length part.variables) next) (fits declared (around + length part.variables) earlier)
    (fits-weaker declared (around + length part.variables) (around + length part.variables) next earlier (omega arith) before) part.literals is

pub parts-earlier : (declared around next earlier : ℕ) → earlier ≤ next → (parts : List Part) → parts_fit declared around next parts ≡ true → parts_fit declared around earlier parts ≡ true
parts-earlier declared around next earlier before parts is =
    all-weaker (part_fits declared around next) (part_fits declared around earlier) (part-earlier declared around next earlier before) parts is

joined-fits : (declared around next : ℕ) (first second : Part) → part_fits declared around next first ≡ true → part_fits declared around next second ≡ true → part_fits declared around next (joined around first second) ≡ true
joined-fits declared around next first second one other =
    let long = length-append first.variables second.variables in
    all-both (fits declared (around + length (first.variables ++ second.variables)) next) first.literals (map (moved around (length first.variables)) second.literals)
    (all-weaker (fits declared (around + length first.variables) next) (fits declared (around + length (first.variables ++ second.variables)) next)
    (fits-weaker declared (around + length first.variables) (around + length (first.variables ++ second.variables)) next next (omega (arith, long)) (omega arith)) first.literals one)
    (all-images (fits declared (around + length second.variables) next) (fits declared (around + length (first.variables ++ second.variables)) next) (moved around (length first.variables))
    (λ literal is.
    let sum : around + length second.variables + length first.variables ≡ around + length (first.variables ++ second.variables) = omega (arith, long) in
    subst (λ (bound : ℕ). fits declared bound next (moved around (length first.variables) literal) ≡ true) sum
    (fits-moved declared around (length first.variables) (around + length second.variables) next (omega arith) literal is)) second.literals other)

paired-fit : (declared around next : ℕ) (firsts seconds : List Part) → parts_fit declared around next firsts ≡ true → parts_fit declared around next seconds ≡ true → parts_fit declared around next (paired around firsts seconds) ≡ true
paired-fit declared around next firsts seconds ones others =
    all-pieces (part_fits declared around next) (part_fits declared around next) (λ first. map (joined around first) seconds)
    (λ first one. all-images (part_fits declared around next) (part_fits declared around next) (joined around first) (λ second other. joined-fits declared around next first second one other) seconds others) firsts ones

pub with_variables-fit : (declared around next : ℕ) (ranges : List (List ℕ)) (parts : List Part) → parts_fit declared (around + length ranges) next parts ≡ true → parts_fit declared around next (map (with_variables ranges) parts) ≡ true
with_variables-fit declared around next ranges parts is =
    all-images (part_fits declared (around + length ranges) next) (part_fits declared around next) (with_variables ranges)
    (λ part one.
    let long : around + length ranges + length part.variables ≡ around + length (ranges ++ part.variables) = omega (arith, length-append ranges part.variables) in
    subst (λ (bound : ℕ). list_all (fits declared bound next) part.literals ≡ true) long one) parts is

pub fresh-both : (declared next : ℕ) (first second : List Fresh) → fresh_fit declared next first ≡ true → fresh_fit declared (next + length first) second ≡ true → fresh_fit declared next (first ++ second) ≡ true
fresh-both declared next [] second one other = subst (λ (n : ℕ). fresh_fit declared n second ≡ true) (let same : next + length {A = Fresh} [] ≡ next = omega arith in same) other
fresh-both declared next (fresh ∷ first) second one other =
    let parts = and_parts (parts_fit declared (length fresh.arguments) (suc next) fresh.parts) (fresh_fit declared (suc next) first) one in
    let later : next + length (fresh ∷ first) ≡ suc next + length first = omega arith in
    and_from (parts_fit declared (length fresh.arguments) (suc next) fresh.parts) (fresh_fit declared (suc next) (first ++ second)) parts.0
    (fresh-both declared (suc next) first second parts.1 (subst (λ (n : ℕ). fresh_fit declared n second ≡ true) later other))

-- ---- what is made

pub record MadeFits (declared around next : ℕ) (made : Made Part) : Type 0 where
  pub items : parts_fit declared around next made.items ≡ true
  pub fresh : fresh_fit declared next made.fresh ≡ true

abbrev pub FitsFrom : ℕ → ℕ → (ℕ → Made Part) → Type 0
FitsFrom declared around make = (next : ℕ) → MadeFits declared around next (make next)

pub in_turn-fits : (declared around : ℕ) (makes : List (ℕ → Made Part)) → Each (FitsFrom declared around) makes → FitsFrom declared around (in_turn makes)
in_turn-fits declared around [] each next = record { items = refl; fresh = refl }
in_turn-fits declared around (first ∷ more) each next =
    let one = each.0 next in
    let rest = in_turn-fits declared around more each.1 (next + length (first next).fresh) in
    record {
      items =
          all-both (part_fits declared around next) (first next).items (in_turn more (next + length (first next).fresh)).items one.items
          (parts-earlier declared around (next + length (first next).fresh) next (omega arith) (in_turn more (next + length (first next).fresh)).items rest.items);
      fresh = fresh-both declared next (first next).fresh (in_turn more (next + length (first next).fresh)).fresh one.fresh rest.fresh;
    }

pub all_of-fits : (declared around : ℕ) (makes : List (ℕ → Made Part)) → Each (FitsFrom declared around) makes → FitsFrom declared around (all_of around makes)
all_of-fits declared around [] each next = record { items = refl; fresh = refl }
all_of-fits declared around (first ∷ more) each next =
    let one = each.0 next in
    let rest = all_of-fits declared around more each.1 (next + length (first next).fresh) in
    record {
      items =
          paired-fit declared around next (first next).items (all_of around more (next + length (first next).fresh)).items one.items
          (parts-earlier declared around (next + length (first next).fresh) next (omega arith) (all_of around more (next + length (first next).fresh)).items rest.items);
      fresh = fresh-both declared next (first next).fresh (all_of around more (next + length (first next).fresh)).fresh one.fresh rest.fresh;
    }

-- ---- conditions

-- the number of a name that stands in the list
pub number-within : (names : List Name) (name : Name) → is_among is_same names name ≡ true → number_in names name < length names
number-within [] name known = absurd cc
number-within (first ∷ names) name known = by (is_same name first) (number-within names name) known
  where
    by : (here : Bool) → (is_among is_same names name ≡ true → number_in names name < length names) → (here || is_among is_same names name) ≡ true →
        (if not here then 1 + number_in names name else 0) < length (first ∷ names)
    by true later e = omega arith
    by false later e = omega (arith, later e)

module _ (domain : Domain) (problem : Problem) where
  abbrev pub declared : ℕ
  declared = length domain.predicates

  abbrev pub InScopes : (Name → Bool) → Scope → ℕ → Type 0
  InScopes is_free scope around = (name : Name) → is_free name ≡ true → InScope scope around name

  variable-within : (scope : Scope) (around : ℕ) (name : Name) → InScope scope around name → place_within around (variable_at scope name) ≡ true
  variable-within scope around name is =
      ap (λ (o : Option Slot). nat_lt (unwrap_or (option_map (λ (slot : Slot). slot.place) o) 0) around) is.found ∙ lt-ltb is.slot.place around is.within

  term-within : (scope : Scope) (around : ℕ) (term : Term) → ((name : Name) → is_term_of name term ≡ true → InScope scope around name) → place_within around (place_of domain problem scope term) ≡ true
  term-within scope around (terms.Variable variable) in_scope = variable-within scope around variable.name (in_scope variable.name (name_same variable.name))
  term-within scope around (terms.Object object) in_scope = refl

  pub terms-within : (scope : Scope) (around : ℕ) (list : List Term) → ((name : Name) → list_any (is_term_of name) list ≡ true → InScope scope around name) → list_all (place_within around) (map (place_of domain problem scope) list) ≡ true
  terms-within scope around [] in_scope = refl
  terms-within scope around (term ∷ list) in_scope =
      and_from (place_within around (place_of domain problem scope term)) (list_all (place_within around) (map (place_of domain problem scope) list))
      (term-within scope around term (λ name is. in_scope name (or_left (is_term_of name term) (list_any (is_term_of name) list) is)))
      (terms-within scope around list (λ name is. in_scope name (or_right (is_term_of name term) (list_any (is_term_of name) list) is)))

  pub predicate-declared : (name : Name) → is_declared domain problem name ≡ true → nat_lt (predicate_number domain name) declared ≡ true
  predicate-declared name is = lt-ltb (predicate_number domain name) declared (omega (arith, number-within (head_names domain.predicates) name is, length-map (λ (head : Head). head.name.name) domain.predicates))

  one_literal : (literal : Literal) (around next : ℕ) → literal_within around literal ≡ true → literal_from declared next literal ≡ true →
      parts_fit declared around next (record { variables = []; literals = literal ∷ [] } ∷ []) ≡ true
  one_literal literal around next within from =
      let fit = and_from (literal_within around literal) (literal_from declared next literal) within from in
      let same : around ≤ around + length {A = List ℕ} [] = omega arith in
      let wide = fits-weaker declared around (around + length {A = List ℕ} []) next next same (omega arith) literal fit in
      and_from (fits declared (around + length {A = List ℕ} []) next literal && true) true (and_from (fits declared (around + length {A = List ℕ} []) next literal) true wide refl) refl

  -- ---- quantifiers

  exists-fits : (variables : List Typed) (inside : Known) (positive : Bool) (scope : Scope) (around : ℕ) →
      ((scope : Scope) (around : ℕ) → InScopes inside.is_free scope around → FitsFrom declared around (inside.cut positive scope around)) →
      InScopes (asked_in variables inside) scope around → FitsFrom declared around (exists_inside domain problem variables inside positive scope around)
  exists-fits variables inside positive scope around held in_scope next =
      let inner =
      held (scope_inside domain problem variables around scope) (around + length variables)
      (λ name free. inside-in_scope domain problem variables around scope name (λ unlisted. in_scope name (unlisted-asked variables inside name free unlisted))) next in
      record {
        items =
            with_variables-fit declared around next (ranges_of domain problem variables) (inside.cut positive (scope_inside domain problem variables around scope) (around + length variables) next).items
            (subst (λ (n : ℕ). parts_fit declared (around + n) next (inside.cut positive (scope_inside domain problem variables around scope) (around + length variables) next).items ≡ true) (sym (length-map _ variables)) inner.items);
        fresh = inner.fresh;
      }

  slots-within : (asks : Name → Bool) (scope : Scope) (around : ℕ) → InScopes asks scope around → list_all (place_within around) (map (λ (slot : Slot). Variable slot.place) (slots_for asks scope)) ≡ true
  slots-within asks [] around in_scope = refl
  slots-within asks (slot ∷ outer) around in_scope =
      by (asks slot.variable) refl
      (slots-within (hides slot asks) outer around
      (λ name asked.
      let parts = and_parts (asks name) (not (is_same slot.variable name)) asked in
      behind name (not-true (is_same slot.variable name) parts.1) (in_scope name parts.0)))
    where
      behind : (name : Name) → is_same slot.variable name ≡ false → InScope (slot ∷ outer) around name → InScope outer around name
      behind name other is = record { slot = is.slot; found = sym (slot-behind slot outer name other) ∙ is.found; within = is.within }

      by : (a : Bool) → asks slot.variable ≡ a → list_all (place_within around) (map (λ (slot : Slot). Variable slot.place) (slots_behind asks slot outer)) ≡ true →
          list_all (place_within around) (map (λ (slot : Slot). Variable slot.place) (slots_behind asks slot outer ++ (if a then slot ∷ [] else []))) ≡ true
      by true asked rest =
          let is = in_scope slot.variable asked in
          let there = same-slot is.slot slot (sym is.found ∙ slot-here slot outer slot.variable (name_same slot.variable)) in
          let one = lt-ltb slot.place around (subst (λ (s : Slot). s.place < around) there is.within) in
          ap (list_all (place_within around)) (map-append (λ (slot : Slot). Variable slot.place) (slots_behind asks slot outer) (slot ∷ []))
          ∙ all-both (place_within around) (map (λ (slot : Slot). Variable slot.place) (slots_behind asks slot outer)) (Variable slot.place ∷ []) rest (and_from (nat_lt slot.place around) true one refl)
      by false asked rest =
          subst (λ (s : List Slot). list_all (place_within around) (map (λ (slot : Slot). Variable slot.place) s) ≡ true) (sym (append-nil (slots_behind asks slot outer))) rest

  none-fits : (variables : List Typed) (inside : Known) (positive : Bool) (scope : Scope) (around : ℕ) →
      ((scope : Scope) (around : ℕ) → InScopes inside.is_free scope around → FitsFrom declared around (inside.cut positive scope around)) →
      InScopes (asked_in variables inside) scope around → FitsFrom declared around (none_inside domain problem variables inside positive scope around)
  none-fits variables inside positive scope around held in_scope next =
      let arguments = free_slots domain problem variables inside scope in
      let body =
      exists-fits variables inside positive (renumbered arguments 0 []) (length arguments) held
      (λ name asked. slots-in_scope (asked_in variables inside) scope around name asked (in_scope name asked)) (suc next) in
      let parts = (exists_inside domain problem variables inside positive (renumbered arguments 0 []) (length arguments) (suc next)).items in
      record {
        items =
            one_literal (Holds false (fresh_number domain problem next) (map (λ (slot : Slot). Variable slot.place) arguments)) around next
            (slots-within (asked_in variables inside) scope around in_scope)
            (or_right (nat_lt (declared + next) declared) (nat_le (declared + next) (declared + next)) (le-leb (declared + next) (declared + next) (omega arith)));
        fresh =
            and_from (parts_fit declared (length (map (λ (slot : Slot). slot.range) arguments)) (suc next) parts)
            (fresh_fit declared (suc next) (exists_inside domain problem variables inside positive (renumbered arguments 0 []) (length arguments) (suc next)).fresh)
            (subst (λ (n : ℕ). parts_fit declared n (suc next) parts ≡ true) (sym (length-map (λ (slot : Slot). slot.range) arguments)) body.items) body.fresh;
      }

  -- ---- conditions

  abbrev pub Fit : Condition → Type 0
  Fit = CutOf domain problem (AreKnown domain problem) InScopes (MadeFits declared)

  pub laws : Laws domain problem (AreKnown domain problem) InScopes (MadeFits declared)
  laws = record {
    told_left = all-left (is_known_mention domain problem);
    told_right = all-right (is_known_mention domain problem);
    within_left = λ one other scope around in_scope name free. in_scope name (or_left (one name) (other name) free);
    within_right = λ one other scope around in_scope name free. in_scope name (or_right (one name) (other name) free);
    at_atom = λ atom mentioned positive scope around in_scope next.
        let parts = and_parts (is_known_mention domain problem (Asked atom)) true mentioned in
        let names = and_parts (is_declared domain problem atom.predicate.name && true) (list_all (is_known_term domain problem) atom.terms) parts.0 in
        let name = (and_parts (is_declared domain problem atom.predicate.name) true names.0).0 in
        let number = predicate_number domain atom.predicate.name in
        record {
          items =
              one_literal (Holds positive number (map (place_of domain problem scope) atom.terms)) around next (terms-within scope around atom.terms in_scope)
              (or_left (nat_lt number declared) (nat_le (declared + next) number) (predicate-declared atom.predicate.name name));
          fresh = refl;
        };
    at_equal = λ left right at mentioned positive scope around in_scope next.
        record {
          items =
              one_literal (Equal positive (place_of domain problem scope left) (place_of domain problem scope right)) around next
              (and_from (place_within around (place_of domain problem scope left)) (place_within around (place_of domain problem scope right))
              (term-within scope around left (λ name is. in_scope name (or_left (is_term_of name left) (is_term_of name right) is)))
              (term-within scope around right (λ name is. in_scope name (or_right (is_term_of name left) (is_term_of name right) is)))) refl;
          fresh = refl;
        };
    in_turn_shown = in_turn-fits declared;
    all_of_shown = all_of-fits declared;
    exists_shown = exists-fits;
    none_shown = none-fits;
  }

  -- the parts of a condition, and those of its new predicates, fit
  pub condition-fits : (condition : Condition) → Fit condition
  condition-fits = cuts-shown domain problem (AreKnown domain problem) InScopes (MadeFits declared) laws
