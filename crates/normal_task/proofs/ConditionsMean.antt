-- A condition holds in the files exactly where some part of it is met in the normal task.
use Rattle.std.proofs.Common.{append-nil, ◌≡◌, ℕ, suc, ◌+◌, Bool, true, false, not, ◌&&◌, ◌||◌, List, [], ◌∷◌, ◌++◌, map, length, get_or, refl, sym, ap, ◌∙◌, subst, arith, inl, inr}
use Rattle.std.specs.Prelude.{nat_eq, if◌then◌else◌, Option, unwrap_or}
use Rattle.std.specs.List.{list_all, list_any, flat_map}
use Rattle.std.specs.Option.{option_map}
use Rattle.std.specs.Cmp.Lexicographic.{pointwise}
use Rattle.std.proofs.lemmas.Bool.{and_parts, and_from, or_left, or_right}
use Rattle.std.proofs.lemmas.Bool.Decides.{nat_tests}
use Rattle.std.proofs.lemmas.Cmp.{nat_list_eq_equiv}
use Rattle.std.proofs.lemmas.List.Folds.{flat_map-map}
use Rattle.lists.specs.Members.{is_among}
use Rattle.pddl_lexer.specs.declared.position.At.{At}
use Rattle.pddl_syntax.specs.declared.types.Atom.{Atom}
use Rattle.pddl_syntax.specs.declared.types.Condition.{Condition, Condition-F}
use Rattle.pddl_syntax.specs.declared.types.Domain.{Domain}
use Rattle.pddl_syntax.specs.declared.types.Problem.{Problem}
use Rattle.pddl_syntax.specs.declared.types.Term.{Term}
use Rattle.pddl_syntax.specs.declared.types.Term.TheVariants as terms
use Rattle.pddl_syntax.specs.declared.types.Typed.{Typed}
use Rattle.pddl_syntax.specs.Words.{Name, is_same}
use Rattle.pddl_syntax.specs.Objects as pddl
use Rattle.pddl_syntax.specs.Holds as holds
use Rattle.pddl_syntax.proofs.ConditionCases.{Each}
use Rattle.fault_positions.specs.Mentions.{Mention, Asked, Compared, in_condition, condition_step}
use Rattle.lists.proofs.Items.{Among, same_any, map_source, flat_map_piece, map_flat_map}
use Rattle.normal_task.specs.declared.task.Literal.TheVariants.{Holds, Equal}
use Rattle.normal_task.specs.declared.task.Place.TheVariants.{Variable}
use Rattle.normal_task.specs.Numbers.{number_in, object_names, predicate_number, ranges_of}
use Rattle.normal_task.specs.Meaning.{atom_of, State, Binding, object_at, objects_at, choices, answers, is_met}
use Rattle.normal_task.specs.Parts.{Slot, Scope, renumbered, scope_inside, Part, Known, is_term_of, place_of, fresh_number, free_slots, exists_inside, none_inside, cut_step, known_step, known}
use Rattle.normal_task.specs.Normalised.{numbered_atom}
use Rattle.normal_task.specs.Same.{is_known_atom}
use Rattle.normal_task.proofs.Anys.{any-map, all-map, any-not, all-not}
use Rattle.normal_task.proofs.Alls.{all-left, all-right}
use Rattle.normal_task.proofs.Mentioned.{is_known_mention, is_known_term, is_declared, AreKnown}
use Rattle.normal_task.proofs.Scopes.{length-append, length-map, Stands, number, is_known, inside-stands, values, slots-stand, slots-typed}
use Rattle.normal_task.proofs.CutCases.{asked_in, unlisted-asked, cuts, members-shown}
use Rattle.normal_task.proofs.Fits.{MadeFits, FitsFrom, Fit, InScopes, laws, condition-fits}
use Rattle.normal_task.proofs.PartsMean.{some_part, with_variables-met, GivenIn, MeansFrom, EachMeans, in_turn-means, all_of-means}
use Rattle.normal_task.proofs.ThreeFolds.{by_folds}
use Rattle.std.proofs.lemmas.Simd.{map-map}
use Rattle.pddl_syntax.proofs.Steps.{name_same}

-- ---- numbers of names

first_only : (y : Bool) (n : ℕ) → nat_eq 0 (if not y then 1 + n else 0) ≡ y
first_only true n = refl
first_only false n = grind (arith, nat_tests)

second_only : (n : ℕ) → nat_eq (1 + n) 0 ≡ false
second_only n = grind (arith, nat_tests)

one_later : (m n : ℕ) → nat_eq (1 + m) (1 + n) ≡ nat_eq m n
one_later m n = grind (arith, nat_tests)

-- names have one number exactly where they are the same
pub same-number : (names : List Name) (a b : Name) → is_among is_same names a ≡ true → is_among is_same names b ≡ true → nat_eq (number_in names a) (number_in names b) ≡ is_same a b
same-number [] a b known_a known_b = absurd cc
same-number (first ∷ names) a b known_a known_b = by (is_same a first) (is_same b first) refl refl known_a known_b (same-number names a b)
  where
    by : (x y : Bool) → is_same a first ≡ x → is_same b first ≡ y → (x || is_among is_same names a) ≡ true → (y || is_among is_same names b) ≡ true →
        (is_among is_same names a ≡ true → is_among is_same names b ≡ true → nat_eq (number_in names a) (number_in names b) ≡ is_same a b) →
        nat_eq (if not x then 1 + number_in names a else 0) (if not y then 1 + number_in names b else 0) ≡ is_same a b
    by true y here_a here_b known_a known_b later = let same = nat_list_eq_equiv.congr a first b here_a in let swap = nat_list_eq_equiv.symm first b in first_only y (number_in names b) ∙ cc
    by false true here_a here_b known_a known_b later = let same = nat_list_eq_equiv.congr b first a here_b in let swap = nat_list_eq_equiv.symm first a in let swap2 = nat_list_eq_equiv.symm a b in second_only (number_in names a) ∙ cc
    by false false here_a here_b known_a known_b later = one_later (number_in names a) (number_in names b) ∙ later known_a known_b

flat_map-same : {X Y : Type 0} (f g : X → List Y) → ((x : X) → f x ≡ g x) → (xs : List X) → flat_map f xs ≡ flat_map g xs
flat_map-same f g same [] = refl
flat_map-same f g same (x ∷ xs) = let rest = flat_map-same f g same xs in cc (rest, same x)

module _ (domain : Domain) (problem : Problem) where
  -- the choices of numbers are the numbers of the choices of names
  pub choices-numbers : (variables : List Typed) → choices (ranges_of domain problem variables) ≡ map (map (number domain problem)) (pddl.choices domain problem variables)
  choices-numbers [] = refl
  choices-numbers (variable ∷ more) =
      let num = number domain problem in
      let names = pddl.range domain problem variable in
      let rest = choices-numbers more in
      flat_map-map (λ object. map (λ others. object ∷ others) (choices (ranges_of domain problem more))) num names
      ∙ flat_map-same (λ object. map (λ others. num object ∷ others) (choices (ranges_of domain problem more))) (λ object. map (map num) (map (λ others. object ∷ others) (pddl.choices domain problem more)))
      (λ object.
      ap (map (λ (others : List ℕ). num object ∷ others)) rest
      ∙ map-map (λ (others : List ℕ). num object ∷ others) (map num) (pddl.choices domain problem more)
      ∙ sym (map-map (map num) (λ (others : List Name). object ∷ others) (pddl.choices domain problem more))) names
      ∙ sym (map_flat_map (map num) (λ object. map (λ others. object ∷ others) (pddl.choices domain problem more)) names)

  -- numbers are the same where the names are
  pub same-objects : (xs ys : List Name) → list_all (is_known domain problem) xs ≡ true → list_all (is_known domain problem) ys ≡ true → pointwise nat_eq (map (number domain problem) xs) (map (number domain problem) ys) ≡ pointwise is_same xs ys
  same-objects [] [] known_xs known_ys = refl
  same-objects [] (y ∷ ys) known_xs known_ys = refl
  same-objects (x ∷ xs) [] known_xs known_ys = refl
  same-objects (x ∷ xs) (y ∷ ys) known_xs known_ys =
      let one = and_parts (is_known domain problem x) (list_all (is_known domain problem) xs) known_xs in
      let other = and_parts (is_known domain problem y) (list_all (is_known domain problem) ys) known_ys in
      let here = same-number (object_names domain problem) x y one.0 other.0 in
      let rest = same-objects xs ys one.1 other.1 in
      cc (here, rest)

  -- ---- terms

  pub term-object : (scope : Scope) (named : pddl.Binding) (binding : Binding) (term : Term) → is_known_term domain problem term ≡ true → ((name : Name) → is_term_of name term ≡ true → Stands domain problem scope named binding name) →
      (object_at binding (place_of domain problem scope term) ≡ number domain problem (holds.object_of named term)) × (is_known domain problem (holds.object_of named term) ≡ true)
  term-object scope named binding (terms.Variable variable) is stand =
      let here = stand variable.name (name_same variable.name) in
      (ap (λ (o : Option Slot). get_or binding (unwrap_or (option_map (λ (slot : Slot). slot.place) o) 0) 0) here.found ∙ here.value, here.known)
  term-object scope named binding (terms.Object object) is stand = (refl, is)

  pub terms-objects : (scope : Scope) (named : pddl.Binding) (binding : Binding) (list : List Term) → list_all (is_known_term domain problem) list ≡ true →
      ((name : Name) → list_any (is_term_of name) list ≡ true → Stands domain problem scope named binding name) →
      (objects_at binding (map (place_of domain problem scope) list) ≡ map (number domain problem) (map (holds.object_of named) list)) × (list_all (is_known domain problem) (map (holds.object_of named) list) ≡ true)
  terms-objects scope named binding [] are stand = (refl, refl)
  terms-objects scope named binding (term ∷ list) are stand =
      let parts = and_parts (is_known_term domain problem term) (list_all (is_known_term domain problem) list) are in
      let one = term-object scope named binding term parts.0 (λ name is. stand name (or_left (is_term_of name term) (list_any (is_term_of name) list) is)) in
      let rest = terms-objects scope named binding list parts.1 (λ name is. stand name (or_right (is_term_of name term) (list_any (is_term_of name) list) is)) in
      let here = one.0 in
      let more = rest.0 in
      (cc (here, more), and_from (is_known domain problem (holds.object_of named term)) (list_all (is_known domain problem) (map (holds.object_of named) list)) one.1 rest.1)

  -- the numbered atom is true where the atom of the files is
  abbrev pub ShowsFull : holds.State → State → Type 0
  ShowsFull full numbered = (atom : holds.GroundAtom) → is_known_atom domain problem atom ≡ true → numbered (numbered_atom domain problem atom) ≡ full atom

  module _ (full : holds.State) (numbered : State) (shows : ShowsFull full numbered) where
    abbrev declared : ℕ
    declared = length domain.predicates

    abbrev pub Stand : (Name → Bool) → Scope → pddl.Binding → Binding → Type 0
    Stand is_free scope named binding = (name : Name) → is_free name ≡ true → Stands domain problem scope named binding name

    -- whether the condition holds is whether some part is met
    abbrev pub Means : Known → (pddl.Binding → Bool) → List Mention → Type 0
    Means k truth mentions =
        AreKnown domain problem mentions → (positive : Bool) (scope : Scope) (named : pddl.Binding) (binding : Binding) → Stand k.is_free scope named binding →
        MeansFrom declared numbered binding (k.cut positive scope (length binding)) (answers positive (truth named))

    only-met : (binding : Binding) (literal : _) → some_part numbered binding (record { variables = []; literals = literal ∷ [] } ∷ []) ≡ is_met numbered binding literal
    only-met binding literal = plain (is_met numbered (binding ++ []) literal) ∙ ap (λ (b : Binding). is_met numbered b literal) (append-nil binding)
      where
        plain : (b : Bool) → (((b && true) || false) || false) ≡ b
        plain true = refl
        plain false = refl

    atom-means : (atom : Atom) → Means (known_step domain problem (Condition-F.Atom atom)) (holds.holds_step domain problem full (Condition-F.Atom atom)) (condition_step (Condition-F.Atom atom))
    atom-means atom mentioned positive scope named binding stand next given =
        let parts = and_parts (is_known_mention domain problem (Asked atom)) true mentioned in
        let names = and_parts (is_declared domain problem atom.predicate.name && true) (list_all (is_known_term domain problem) atom.terms) parts.0 in
        let name = (and_parts (is_declared domain problem atom.predicate.name) true names.0).0 in
        let objects = terms-objects scope named binding atom.terms names.1 stand in
        only-met binding (Holds positive (predicate_number domain atom.predicate.name) (map (place_of domain problem scope) atom.terms))
        ∙ ap (λ (os : List ℕ). answers positive (numbered (atom_of (predicate_number domain atom.predicate.name) os))) objects.0
        ∙ ap (answers positive) (shows (holds.ground named atom) (and_from (is_declared domain problem atom.predicate.name) (list_all (is_known domain problem) (map (holds.object_of named) atom.terms)) name objects.1))

    equal-means : (left right : Term) (at : At) → Means (known_step domain problem (Condition-F.Equal left right at)) (holds.holds_step domain problem full (Condition-F.Equal left right at)) (condition_step (Condition-F.Equal left right at))
    equal-means left right at mentioned positive scope named binding stand next given =
        let parts = and_parts (is_known_mention domain problem (Compared left right)) true mentioned in
        let sides = and_parts (is_known_term domain problem left) (is_known_term domain problem right && true) parts.0 in
        let one = term-object scope named binding left sides.0 (λ name is. stand name (or_left (is_term_of name left) (is_term_of name right) is)) in
        let other = term-object scope named binding right (and_parts (is_known_term domain problem right) true sides.1).0 (λ name is. stand name (or_right (is_term_of name left) (is_term_of name right) is)) in
        only-met binding (Equal positive (place_of domain problem scope left) (place_of domain problem scope right))
        ∙ ap (λ (n : ℕ). answers positive (nat_eq n (object_at binding (place_of domain problem scope right)))) one.0
        ∙ ap (λ (n : ℕ). answers positive (nat_eq (number domain problem (holds.object_of named left)) n)) other.0
        ∙ ap (answers positive) (same-number (object_names domain problem) (holds.object_of named left) (holds.object_of named right) one.1 other.1)

    -- ---- quantifiers

    abbrev Held : Known → (pddl.Binding → Bool) → Bool → Type 0
    Held k truth positive =
        (scope : Scope) (named : pddl.Binding) (binding : Binding) → Stand k.is_free scope named binding → MeansFrom declared numbered binding (k.cut positive scope (length binding)) (answers positive (truth named))

    abbrev inner : List Typed → Known → Bool → Scope → Binding → ℕ → List Part
    inner variables k positive scope binding next = (k.cut positive (scope_inside domain problem variables (length binding) scope) (length binding + length variables) next).items

    pub named-choice-length : (variables : List Typed) (names : List Name) → Among names (pddl.choices domain problem variables) → length names ≡ length variables
    named-choice-length [] names (inl none) = ap (λ (l : List Name). length l) (sym none)
    named-choice-length [] names (inr never) = absurd never
    named-choice-length (variable ∷ more) names there =
        let piece = flat_map_piece (λ object. map (λ others. object ∷ others) (pddl.choices domain problem more)) (pddl.range domain problem variable) names there in
        let rest = map_source (λ (others : List Name). piece.source ∷ others) (pddl.choices domain problem more) names piece.inside in
        ap (λ (l : List Name). length l) (sym rest.gives) ∙ ap (λ (n : ℕ). suc n) (named-choice-length more rest.source rest.among)

    inside-means : (variables : List Typed) (k : Known) (truth : pddl.Binding → Bool) (positive : Bool) → Held k truth positive →
        (scope : Scope) (named : pddl.Binding) (binding : Binding) (names : List Name) (inside : Scope) (around next : ℕ) → length (binding ++ map (number domain problem) names) ≡ around →
        Stand k.is_free inside (pddl.bound variables names named) (binding ++ map (number domain problem) names) →
        GivenIn declared numbered next (k.cut positive inside around next).fresh →
        some_part numbered (binding ++ map (number domain problem) names) (k.cut positive inside around next).items ≡ answers positive (truth (pddl.bound variables names named))
    inside-means variables k truth positive held scope named binding names inside around next long stand =
        subst (λ (n : ℕ). GivenIn declared numbered next (k.cut positive inside n next).fresh → some_part numbered (binding ++ map (number domain problem) names) (k.cut positive inside n next).items ≡ answers positive (truth (pddl.bound variables names named))) long
        (held inside (pddl.bound variables names named) (binding ++ map (number domain problem) names) stand next)

    exists-means : (variables : List Typed) (k : Known) (truth : pddl.Binding → Bool) (positive : Bool) → Held k truth positive →
        (scope : Scope) (named : pddl.Binding) (binding : Binding) → Stand (asked_in variables k) scope named binding →
        MeansFrom declared numbered binding (exists_inside domain problem variables k positive scope (length binding))
        (list_any (λ names. answers positive (truth (pddl.bound variables names named))) (pddl.choices domain problem variables))
    exists-means variables k truth positive held scope named binding stand next given =
        with_variables-met numbered binding (ranges_of domain problem variables) (inner variables k positive scope binding next)
        ∙ ap (list_any (λ objects. some_part numbered (binding ++ objects) (inner variables k positive scope binding next))) (choices-numbers variables)
        ∙ any-map (λ objects. some_part numbered (binding ++ objects) (inner variables k positive scope binding next)) (map (number domain problem)) (pddl.choices domain problem variables)
        ∙ same_any (λ names. some_part numbered (binding ++ map (number domain problem) names) (inner variables k positive scope binding next)) (λ names. answers positive (truth (pddl.bound variables names named))) (pddl.choices domain problem variables)
        (λ names among.
        inside-means variables k truth positive held scope named binding names (scope_inside domain problem variables (length binding) scope) (length binding + length variables) next
        (let long = named-choice-length variables names among in
        let same : length (binding ++ map (number domain problem) names) ≡ length binding + length variables = omega (arith, length-append binding (map (number domain problem) names), length-map (number domain problem) names, long) in same)
        (λ name free. inside-stands domain problem variables names (length binding) scope named binding name refl among (λ unlisted. stand name (unlisted-asked variables k name free unlisted))) given)

    exists-means-of : (variables : List Typed) (k : Known) (truth : pddl.Binding → Bool) (positive : Bool) → Held k truth positive →
        (scope : Scope) (named : pddl.Binding) (binding : Binding) (around : ℕ) → length binding ≡ around → Stand (asked_in variables k) scope named binding →
        MeansFrom declared numbered binding (exists_inside domain problem variables k positive scope around)
        (list_any (λ names. answers positive (truth (pddl.bound variables names named))) (pddl.choices domain problem variables))
    exists-means-of variables k truth positive held scope named binding around long stand next =
        subst (λ (n : ℕ). GivenIn declared numbered next (exists_inside domain problem variables k positive scope n next).fresh →
        some_part numbered binding (exists_inside domain problem variables k positive scope n next).items ≡ list_any (λ names. answers positive (truth (pddl.bound variables names named))) (pddl.choices domain problem variables)) long
        (exists-means variables k truth positive held scope named binding stand next)

    -- some objects of the variables make the inside true exactly where the derived atom is true
    none-means : (variables : List Typed) (k : Known) (truth : pddl.Binding → Bool) (positive : Bool) → Held k truth positive →
        (scope : Scope) (named : pddl.Binding) (binding : Binding) → Stand (asked_in variables k) scope named binding →
        MeansFrom declared numbered binding (none_inside domain problem variables k positive scope (length binding))
        (not (list_any (λ names. answers positive (truth (pddl.bound variables names named))) (pddl.choices domain problem variables)))
    none-means variables k truth positive held scope named binding stand next given =
        let arguments = free_slots domain problem variables k scope in
        let objects = values domain problem binding arguments in
        only-met binding (Holds false (fresh_number domain problem next) (map (λ (slot : Slot). Variable slot.place) arguments))
        ∙ ap (λ (os : List ℕ). not (numbered (atom_of (declared + next) os))) (map-map (object_at binding) (λ (slot : Slot). Variable slot.place) arguments)
        ∙ ap not
        (given.0 objects (slots-typed domain problem (asked_in variables k) scope named binding stand)
        ∙ exists-means-of variables k truth positive held (renumbered arguments 0 []) named objects (length arguments) (length-map (λ (slot : Slot). get_or binding slot.place 0) arguments)
        (λ name asked. slots-stand domain problem (asked_in variables k) scope named binding name asked (stand name asked)) (suc next) given.1)

    -- ---- members

    abbrev Meant : Condition → Type 0
    Meant condition = Means (known domain problem condition) (holds.holds domain problem full condition) (in_condition condition)

    abbrev truths : Bool → pddl.Binding → List Condition → List Bool
    truths positive named members = map (λ truth. answers positive (truth named)) (map (holds.holds domain problem full) members)

    members-mean : (positive : Bool) (scope : Scope) (named : pddl.Binding) (binding : Binding) (members : List Condition) → Each Meant members → AreKnown domain problem (flat_map (λ mentions. mentions) (map in_condition members)) →
        Stand (λ name. list_any (λ (member : Known). member.is_free name) (map (known domain problem) members)) scope named binding →
        EachMeans declared numbered binding (cuts positive scope (length binding) (map (known domain problem) members)) (truths positive named members)
    members-mean positive scope named binding [] each mentioned stand = tt
    members-mean positive scope named binding (member ∷ members) each mentioned stand = (
      each.0 (all-left _ (in_condition member) (flat_map (λ mentions. mentions) (map in_condition members)) mentioned) positive scope named binding
          (λ name free. stand name (or_left ((known domain problem member).is_free name) (list_any (λ (member : Known). member.is_free name) (map (known domain problem) members)) free)),
      members-mean positive scope named binding members each.1 (all-right _ (in_condition member) (flat_map (λ mentions. mentions) (map in_condition members)) mentioned)
          (λ name free. stand name (or_right ((known domain problem member).is_free name) (list_any (λ (member : Known). member.is_free name) (map (known domain problem) members)) free)),
    )

    in_scopes : (is_free : Name → Bool) (scope : Scope) (named : pddl.Binding) (binding : Binding) → Stand is_free scope named binding → InScopes domain problem is_free scope (length binding)
    in_scopes is_free scope named binding stand name free = let is = stand name free in record { slot = is.slot; found = is.found; within = is.within }

    all-fit : (members : List Condition) → Each (Fit domain problem) members
    all-fit [] = tt
    all-fit (member ∷ members) = (condition-fits domain problem member, all-fit members)

    each-fits : (positive : Bool) (scope : Scope) (named : pddl.Binding) (binding : Binding) (members : List Condition) → AreKnown domain problem (flat_map (λ mentions. mentions) (map in_condition members)) →
        Stand (λ name. list_any (λ (member : Known). member.is_free name) (map (known domain problem) members)) scope named binding →
        Each (FitsFrom declared (length binding)) (cuts positive scope (length binding) (map (known domain problem) members))
    each-fits positive scope named binding members mentioned stand =
        members-shown domain problem (AreKnown domain problem) (InScopes domain problem) (MadeFits declared) (laws domain problem) positive scope (length binding) members (all-fit members) mentioned (in_scopes _ scope named binding stand)

    all-truths : (positive : Bool) (named : pddl.Binding) (members : List Condition) → list_all (λ truth. truth) (truths positive named members) ≡ list_all (λ truth. answers positive (truth named)) (map (holds.holds domain problem full) members)
    all-truths positive named members = all-map (λ truth. truth) (λ (truth : pddl.Binding → Bool). answers positive (truth named)) (map (holds.holds domain problem full) members)

    any-truths : (positive : Bool) (named : pddl.Binding) (members : List Condition) → list_any (λ truth. truth) (truths positive named members) ≡ list_any (λ truth. answers positive (truth named)) (map (holds.holds domain problem full) members)
    any-truths positive named members = any-map (λ truth. truth) (λ (truth : pddl.Binding → Bool). answers positive (truth named)) (map (holds.holds domain problem full) members)

    true-means : (at : At) → Means (known_step domain problem (Condition-F.True at)) (holds.holds_step domain problem full (Condition-F.True at)) (condition_step (Condition-F.True at))
    true-means at mentioned true scope named binding stand next given = refl
    true-means at mentioned false scope named binding stand next given = refl

    and-means : (members : List Condition) (at : At) → Each Meant members →
        Means (known_step domain problem (Condition-F.And (map (known domain problem) members) at)) (holds.holds_step domain problem full (Condition-F.And (map (holds.holds domain problem full) members) at)) (condition_step (Condition-F.And (map in_condition members) at))
    and-means members at each mentioned true scope named binding stand next given =
        all_of-means declared numbered binding (cuts true scope (length binding) (map (known domain problem) members)) (truths true named members)
        (each-fits true scope named binding members mentioned stand) (members-mean true scope named binding members each mentioned stand) next given
        ∙ all-truths true named members
    and-means members at each mentioned false scope named binding stand next given =
        in_turn-means declared numbered binding (cuts false scope (length binding) (map (known domain problem) members)) (truths false named members) (members-mean false scope named binding members each mentioned stand) next given
        ∙ any-truths false named members
        ∙ any-not (λ (truth : pddl.Binding → Bool). truth named) (map (holds.holds domain problem full) members)

    or-means : (members : List Condition) (at : At) → Each Meant members →
        Means (known_step domain problem (Condition-F.Or (map (known domain problem) members) at)) (holds.holds_step domain problem full (Condition-F.Or (map (holds.holds domain problem full) members) at)) (condition_step (Condition-F.Or (map in_condition members) at))
    or-means members at each mentioned false scope named binding stand next given =
        all_of-means declared numbered binding (cuts false scope (length binding) (map (known domain problem) members)) (truths false named members)
        (each-fits false scope named binding members mentioned stand) (members-mean false scope named binding members each mentioned stand) next given
        ∙ all-truths false named members
        ∙ all-not (λ (truth : pddl.Binding → Bool). truth named) (map (holds.holds domain problem full) members)
    or-means members at each mentioned true scope named binding stand next given =
        in_turn-means declared numbered binding (cuts true scope (length binding) (map (known domain problem) members)) (truths true named members) (members-mean true scope named binding members each mentioned stand) next given
        ∙ any-truths true named members

    imply-means : (premise conclusion : Condition) (at : At) → Meant premise → Meant conclusion →
        Means (known_step domain problem (Condition-F.Imply (known domain problem premise) (known domain problem conclusion) at)) (holds.holds_step domain problem full (Condition-F.Imply (holds.holds domain problem full premise) (holds.holds domain problem full conclusion) at))
        (condition_step (Condition-F.Imply (in_condition premise) (in_condition conclusion) at))
    imply-means premise conclusion at held later mentioned positive scope named binding stand next given =
        by positive next given
      where
        left : Means (known domain problem premise) (holds.holds domain problem full premise) (in_condition premise) → (positive : Bool) → MeansFrom declared numbered binding ((known domain problem premise).cut positive scope (length binding)) (answers positive (holds.holds domain problem full premise named))
        left held positive = held (all-left _ (in_condition premise) (in_condition conclusion) mentioned) positive scope named binding (λ name free. stand name (or_left ((known domain problem premise).is_free name) ((known domain problem conclusion).is_free name) free))

        right : (positive : Bool) → MeansFrom declared numbered binding ((known domain problem conclusion).cut positive scope (length binding)) (answers positive (holds.holds domain problem full conclusion named))
        right positive = later (all-right _ (in_condition premise) (in_condition conclusion) mentioned) positive scope named binding (λ name free. stand name (or_right ((known domain problem premise).is_free name) ((known domain problem conclusion).is_free name) free))

        left-fits : (positive : Bool) → FitsFrom declared (length binding) ((known domain problem premise).cut positive scope (length binding))
        left-fits positive =
            condition-fits domain problem premise (all-left _ (in_condition premise) (in_condition conclusion) mentioned) positive scope (length binding)
            (in_scopes _ scope named binding (λ name free. stand name (or_left ((known domain problem premise).is_free name) ((known domain problem conclusion).is_free name) free)))

        right-fits : (positive : Bool) → FitsFrom declared (length binding) ((known domain problem conclusion).cut positive scope (length binding))
        right-fits positive =
            condition-fits domain problem conclusion (all-right _ (in_condition premise) (in_condition conclusion) mentioned) positive scope (length binding)
            (in_scopes _ scope named binding (λ name free. stand name (or_right ((known domain problem premise).is_free name) ((known domain problem conclusion).is_free name) free)))

        or_end : (p q : Bool) → (not p || (q || false)) ≡ (not p || q)
        or_end true true = refl
        or_end true false = refl
        or_end false q = refl

        and_end : (p q : Bool) → (p && (not q && true)) ≡ not (not p || q)
        and_end true true = refl
        and_end true false = refl
        and_end false q = refl

        by : (positive : Bool) → MeansFrom declared numbered binding (cut_step domain problem (Condition-F.Imply (known domain problem premise) (known domain problem conclusion) at) positive scope (length binding))
            (answers positive (not (holds.holds domain problem full premise named) || holds.holds domain problem full conclusion named))
        by true next given =
            in_turn-means declared numbered binding ((known domain problem premise).cut false scope (length binding) ∷ (known domain problem conclusion).cut true scope (length binding) ∷ [])
            (not (holds.holds domain problem full premise named) ∷ holds.holds domain problem full conclusion named ∷ []) (left held false, (right true, tt)) next given
            ∙ or_end (holds.holds domain problem full premise named) (holds.holds domain problem full conclusion named)
        by false next given =
            all_of-means declared numbered binding ((known domain problem premise).cut true scope (length binding) ∷ (known domain problem conclusion).cut false scope (length binding) ∷ [])
            (holds.holds domain problem full premise named ∷ not (holds.holds domain problem full conclusion named) ∷ []) (left-fits true, (right-fits false, tt)) (left held true, (right false, tt)) next given
            ∙ and_end (holds.holds domain problem full premise named) (holds.holds domain problem full conclusion named)

    not_not : (b : Bool) → not (not b) ≡ b
    not_not true = refl
    not_not false = refl

    forall-means : (variables : List Typed) (inside : Condition) (at : At) → Meant inside →
        Means (known_step domain problem (Condition-F.Forall variables (known domain problem inside) at)) (holds.holds_step domain problem full (Condition-F.Forall variables (holds.holds domain problem full inside) at))
        (condition_step (Condition-F.Forall variables (in_condition inside) at))
    forall-means variables inside at held mentioned true scope named binding stand next given =
        none-means variables (known domain problem inside) (holds.holds domain problem full inside) false (held mentioned false) scope named binding stand next given
        ∙ ap not (any-not (λ names. holds.holds domain problem full inside (pddl.bound variables names named)) (pddl.choices domain problem variables))
        ∙ not_not (list_all (λ names. holds.holds domain problem full inside (pddl.bound variables names named)) (pddl.choices domain problem variables))
    forall-means variables inside at held mentioned false scope named binding stand next given =
        exists-means variables (known domain problem inside) (holds.holds domain problem full inside) false (held mentioned false) scope named binding stand next given
        ∙ any-not (λ names. holds.holds domain problem full inside (pddl.bound variables names named)) (pddl.choices domain problem variables)

    exists-means-both : (variables : List Typed) (inside : Condition) (at : At) → Meant inside →
        Means (known_step domain problem (Condition-F.Exists variables (known domain problem inside) at)) (holds.holds_step domain problem full (Condition-F.Exists variables (holds.holds domain problem full inside) at))
        (condition_step (Condition-F.Exists variables (in_condition inside) at))
    exists-means-both variables inside at held mentioned true scope named binding stand next given =
        exists-means variables (known domain problem inside) (holds.holds domain problem full inside) true (held mentioned true) scope named binding stand next given
    exists-means-both variables inside at held mentioned false scope named binding stand next given =
        none-means variables (known domain problem inside) (holds.holds domain problem full inside) true (held mentioned true) scope named binding stand next given

    not-means : (inside : Condition) (at : At) → Meant inside →
        Means (known_step domain problem (Condition-F.Not (known domain problem inside) at)) (holds.holds_step domain problem full (Condition-F.Not (holds.holds domain problem full inside) at)) (condition_step (Condition-F.Not (in_condition inside) at))
    not-means inside at held mentioned true scope named binding stand next given = held mentioned false scope named binding stand next given
    not-means inside at held mentioned false scope named binding stand next given = held mentioned true scope named binding stand next given ∙ sym (not_not (holds.holds domain problem full inside named))

    -- a condition holds exactly where some part is met
    pub condition-means : (condition : Condition) → Meant condition
    condition-means = by_folds Known (pddl.Binding → Bool) (List Mention) (known_step domain problem) (holds.holds_step domain problem full) condition_step Means record {
      at_true = true-means;
      at_atom = atom-means;
      at_equal = equal-means;
      at_not = not-means;
      at_and = and-means;
      at_or = or-means;
      at_imply = imply-means;
      at_forall = forall-means;
      at_exists = exists-means-both;
    }
