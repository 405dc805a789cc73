-- Full states of the files and of the normal task: each of the one has one of the other beside it.
use Rattle.std.proofs.Common.{◌≡◌, ℕ, zero, suc, ◌+◌, ◌<◌, ◌≤◌, Bool, true, false, not, ◌&&◌, ◌||◌, List, [], ◌∷◌, ◌++◌, map, length, Option, refl, sym, ap, ◌∙◌, subst, arith, inl, inr, ◌⊎◌}
use Rattle.std.specs.Prelude.{nat_eq, nat_lt, if◌then◌else◌, unwrap_or, slice_get}
use Rattle.std.specs.List.{list_all, list_any}
use Rattle.std.specs.Option.{option_map}
use Rattle.std.specs.Cmp.Lexicographic.{pointwise}
use Rattle.std.proofs.lemmas.Bool.{and_parts, and_from, or_cases, eqb-true, ltb-true, ltb-false}
use Rattle.std.proofs.lemmas.Option.{slice_get_past}
use Rattle.std.proofs.lemmas.Cmp.{nat_list_eq_equiv, lists_equiv}
use Rattle.std.proofs.lemmas.List.Folds.{list_any-append}
use Rattle.std.proofs.Math.Bool.{and-false, or-false, and_assoc}
use Rattle.lists.specs.Members.{is_among}
use Rattle.pddl_syntax.specs.declared.types.Derived.{Derived}
use Rattle.pddl_syntax.specs.declared.types.Domain.{Domain}
use Rattle.pddl_syntax.specs.declared.types.Head.{Head}
use Rattle.pddl_syntax.specs.declared.types.Problem.{Problem}
use Rattle.pddl_syntax.specs.declared.types.Typed.{Typed}
use Rattle.pddl_syntax.specs.Words.{Name, is_same}
use Rattle.pddl_syntax.specs.Objects as pddl
use Rattle.planning.specs.Task.{IsFull}
use Rattle.pddl_syntax.specs.Holds as holds
use Rattle.pddl_syntax.specs.Plan.{pddl_task}
use Rattle.pddl_syntax.proofs.SameAtoms.{same_name, same_items}
use Rattle.pddl_syntax.proofs.ConditionCases.{Each}
use Rattle.fault_positions.specs.Mentions.{in_condition, in_axiom}
use Rattle.lists.proofs.Items.{Among, passing, same_any, map_source, flat_map_piece, within_left}
use Rattle.normal_task.specs.declared.task.AxiomRow.{AxiomRow}
use Rattle.normal_task.specs.declared.task.GroundAtom.{GroundAtom}
use Rattle.normal_task.specs.declared.task.Normal.{Normal}
use Rattle.normal_task.specs.declared.task.PredicateRow.{PredicateRow}
use Rattle.normal_task.specs.Numbers.{number_in, head_names, predicate_number, ranges_of}
use Rattle.normal_task.specs.Meaning as task
use Rattle.normal_task.specs.Meaning.{atom_of, State, are_met}
use Rattle.normal_task.proofs.Chosen.{is_choice}
use Rattle.normal_task.specs.Parts.{is_listed, Part, Fresh, in_turn, fresh_number, known}
use Rattle.normal_task.specs.Normalised.{numbered_atom, parameter_scope, axiom_row, body_parts, axiom_rows, fresh_rows, fresh_predicates, declared_row, made_schemas, made_axioms, after_schemas, made_goal, all_fresh, normal}
use Rattle.normal_task.specs.Same.{is_known_atom, Shows}
use Rattle.normal_task.proofs.Anys.{any-map, any-same, any-and_left, any-and_right}
use Rattle.normal_task.proofs.Chosen.{any-choices_shown, choice-any, eq-itself}
use Rattle.normal_task.proofs.Mentioned.{is_declared, AreKnown}
use Rattle.normal_task.proofs.Scopes.{length-map, length-append, number, is_known, inside-stands, range-known}
use Rattle.normal_task.proofs.Fits.{predicate-declared}
use Rattle.normal_task.proofs.PartsMean.{some_part, part_met, GivenAt, GivenIn, Numbered, numbered-left, numbered-right, numbered-second}
use Rattle.normal_task.proofs.ConditionsMean.{choices-numbers, ShowsFull, same-number, same-objects, condition-means, named-choice-length}

pub other-number : (m n : ℕ) → (m ≡ n → ⊥) → nat_eq m n ≡ false
other-number m n apart = by (nat_eq m n) refl
  where
    by : (b : Bool) → nat_eq m n ≡ b → b ≡ false
    by true e = absurd (apart (eqb-true m n e))
    by false e = refl

-- ---- lists of predicates

within-right : {X : Type 0} (xs ys : List X) (i : ℕ) → slice_get (xs ++ ys) (length xs + i) ≡ slice_get ys i
within-right [] ys i = ap (slice_get ys) (let same : 0 + i ≡ i = omega arith in same)
within-right (x ∷ xs) ys i = ap (slice_get (x ∷ (xs ++ ys))) (let same : length (x ∷ xs) + i ≡ suc (length xs + i) = omega arith in same) ∙ within-right xs ys i

module _ (domain : Domain) (problem : Problem) where
  abbrev pub declared : ℕ
  declared = length domain.predicates

  abbrev pub planning : Normal
  planning = normal domain problem

  abbrev pub num : Name → ℕ
  num = number domain problem

  -- ---- rows of axioms

  -- the axioms for the parts give an atom where its objects are arguments of theirs, and some part is met
  pub rows-derive : (state : State) (atom : GroundAtom) (predicate : ℕ) (arguments : List (List ℕ)) (parts : List Part) →
      list_any (task.derives state atom) (map (axiom_row domain problem predicate arguments) parts)
      ≡ (nat_eq predicate atom.predicate && (is_choice arguments atom.objects && some_part state atom.objects parts))
  rows-derive state atom predicate arguments parts =
      any-map (task.derives state atom) (axiom_row domain problem predicate arguments) parts
      ∙ any-same (λ part. task.derives state atom (axiom_row domain problem predicate arguments part)) (λ part. nat_eq predicate atom.predicate && (is_choice arguments atom.objects && part_met state atom.objects part))
      (λ part. ap (λ b. nat_eq predicate atom.predicate && b) (any-choices_shown (λ objects. are_met state objects part.literals) arguments part.variables atom.objects)) parts
      ∙ any-and_left (nat_eq predicate atom.predicate) (λ part. is_choice arguments atom.objects && part_met state atom.objects part) parts
      ∙ ap (λ b. nat_eq predicate atom.predicate && b) (any-and_left (is_choice arguments atom.objects) (part_met state atom.objects) parts)

  -- no axiom of new predicates that are numbered from here on is for an earlier one
  pub rows-behind : (state : State) (atom : GroundAtom) (next : ℕ) (fresh : List Fresh) → atom.predicate < declared + next → list_any (task.derives state atom) (fresh_rows domain problem next fresh) ≡ false
  rows-behind state atom next [] before = refl
  rows-behind state atom next (first ∷ fresh) before =
      list_any-append (task.derives state atom) (map (axiom_row domain problem (fresh_number domain problem next) first.arguments) first.parts) (fresh_rows domain problem (suc next) fresh)
      ∙ ap (λ b. b || list_any (task.derives state atom) (fresh_rows domain problem (suc next) fresh))
      (rows-derive state atom (declared + next) first.arguments first.parts
      ∙ ap (λ b. b && (is_choice first.arguments atom.objects && some_part state atom.objects first.parts)) (other-number (declared + next) atom.predicate (λ same. omega (arith, same, before))))
      ∙ rows-behind state atom (suc next) fresh (omega (arith, before))

  -- the atoms of the new predicate are those that its axioms give, for all objects
  abbrev pub AllGivenAt : State → ℕ → Fresh → Type 0
  AllGivenAt state next fresh = (objects : List ℕ) → state (atom_of (declared + next) objects) ≡ (is_choice fresh.arguments objects && some_part state objects fresh.parts)

  -- the same of these, which are numbered on from here
  abbrev pub AllGiven : State → ℕ → List Fresh → Type 0
  AllGiven state = Numbered (AllGivenAt state)

  pub given-of_all : (state : State) (next : ℕ) (fresh : List Fresh) → AllGiven state next fresh → GivenIn declared state next fresh
  given-of_all state next [] all = tt
  given-of_all state next (first ∷ fresh) all = (λ objects typed. all.0 objects ∙ ap (λ b. b && some_part state objects first.parts) typed, given-of_all state (suc next) fresh all.1)

  abbrev FromRows : State → ℕ → List Fresh → Type 0
  FromRows state next fresh =
      (n : ℕ) → next ≤ n → n < next + length fresh → (objects : List ℕ) → state (atom_of (declared + n) objects) ≡ list_any (task.derives state (atom_of (declared + n) objects)) (fresh_rows domain problem next fresh)

  first-rows : (state : State) (next : ℕ) (first : Fresh) (fresh : List Fresh) (objects : List ℕ) →
      list_any (task.derives state (atom_of (declared + next) objects)) (fresh_rows domain problem next (first ∷ fresh)) ≡ (is_choice first.arguments objects && some_part state objects first.parts)
  first-rows state next first fresh objects =
      let atom = atom_of (declared + next) objects in
      list_any-append (task.derives state atom) (map (axiom_row domain problem (fresh_number domain problem next) first.arguments) first.parts) (fresh_rows domain problem (suc next) fresh)
      ∙ ap (λ b. list_any (task.derives state atom) (map (axiom_row domain problem (fresh_number domain problem next) first.arguments) first.parts) || b) (rows-behind state atom (suc next) fresh (omega arith))
      ∙ or-false _
      ∙ rows-derive state atom (declared + next) first.arguments first.parts
      ∙ ap (λ b. b && (is_choice first.arguments objects && some_part state objects first.parts)) (eq-itself (declared + next))

  later-rows : (state : State) (next n : ℕ) (first : Fresh) (fresh : List Fresh) (objects : List ℕ) → next < n →
      list_any (task.derives state (atom_of (declared + n) objects)) (fresh_rows domain problem next (first ∷ fresh)) ≡ list_any (task.derives state (atom_of (declared + n) objects)) (fresh_rows domain problem (suc next) fresh)
  later-rows state next n first fresh objects after =
      let atom = atom_of (declared + n) objects in
      list_any-append (task.derives state atom) (map (axiom_row domain problem (fresh_number domain problem next) first.arguments) first.parts) (fresh_rows domain problem (suc next) fresh)
      ∙ ap (λ b. b || list_any (task.derives state atom) (fresh_rows domain problem (suc next) fresh))
      (rows-derive state atom (declared + next) first.arguments first.parts
      ∙ ap (λ b. b && (is_choice first.arguments objects && some_part state objects first.parts)) (other-number (declared + next) (declared + n) (λ same. omega (arith, same, after))))

  pub all-given : (state : State) (next : ℕ) (fresh : List Fresh) → FromRows state next fresh → AllGiven state next fresh
  all-given state next [] from = tt
  all-given state next (first ∷ fresh) from = (
    λ objects. from next (omega arith) (omega arith) objects ∙ first-rows state next first fresh objects,
    all-given state (suc next) fresh (λ n least most objects. from n (omega (arith, least)) (omega (arith, most)) objects ∙ later-rows state next n first fresh objects (omega (arith, least))),
  )

  pub from-rows : (state : State) (next : ℕ) (fresh : List Fresh) → AllGiven state next fresh → FromRows state next fresh
  from-rows state next [] all n least most objects = absurd (omega (arith, least, most))
  from-rows state next (first ∷ fresh) all n least most objects =
      by (nat_lt next n) refl (λ after. from-rows state (suc next) fresh all.1 n (omega (arith, after)) (omega (arith, most)) objects)
    where
      by : (b : Bool) → nat_lt next n ≡ b → (next < n → state (atom_of (declared + n) objects) ≡ list_any (task.derives state (atom_of (declared + n) objects)) (fresh_rows domain problem (suc next) fresh)) →
          state (atom_of (declared + n) objects) ≡ list_any (task.derives state (atom_of (declared + n) objects)) (fresh_rows domain problem next (first ∷ fresh))
      by true e later = let after = ltb-true next n e in later after ∙ sym (later-rows state next n first fresh objects after)
      by false e later =
          let before = ltb-false next n e in
          let same : next ≡ n = omega (arith, before, least) in
          subst (λ (m : ℕ). state (atom_of (declared + m) objects) ≡ list_any (task.derives state (atom_of (declared + m) objects)) (fresh_rows domain problem next (first ∷ fresh))) same
          (all.0 objects ∙ sym (first-rows state next first fresh objects))

  -- ---- which predicates are derived

  -- what is told of the predicate's row, if it has one
  abbrev pub told_in : (PredicateRow → Bool) → List PredicateRow → ℕ → Bool
  told_in tell rows predicate = unwrap_or (option_map tell (slice_get rows predicate)) false

  abbrev derived_in : List PredicateRow → ℕ → Bool
  derived_in = told_in (λ row. row.derived)

  -- what each row tells of its head's name is told of a declared name by the row at its number
  pub head-told : (tell : PredicateRow → Bool) (of_name : Name → Bool) → ((head : Head) → tell (declared_row domain problem head) ≡ of_name head.name.name) → (heads : List Head) (name : Name) → is_among is_same (head_names heads) name ≡ true →
      told_in tell (map (declared_row domain problem) heads) (number_in (head_names heads) name) ≡ of_name name
  head-told tell of_name each [] name among = absurd cc
  head-told tell of_name each (head ∷ heads) name among = by (is_same name head.name.name) refl among (head-told tell of_name each heads name)
    where
      by : (b : Bool) → is_same name head.name.name ≡ b → (b || is_among is_same (head_names heads) name) ≡ true →
          (is_among is_same (head_names heads) name ≡ true → told_in tell (map (declared_row domain problem) heads) (number_in (head_names heads) name) ≡ of_name name) →
          told_in tell (map (declared_row domain problem) (head ∷ heads)) (if not b then 1 + number_in (head_names heads) name else 0) ≡ of_name name
      by true e among later = each head ∙ ap of_name (sym (same_name name head.name.name e))
      by false e among later =
          ap (told_in tell (map (declared_row domain problem) (head ∷ heads))) (let same : 1 + number_in (head_names heads) name ≡ suc (number_in (head_names heads) name) = omega arith in same)
          ∙ later among

  pub number-below : (name : Name) → is_declared domain problem name ≡ true → predicate_number domain name < declared
  number-below name known = ltb-true (predicate_number domain name) declared (predicate-declared domain problem name known)

  pub heads-length : length (map (declared_row domain problem) domain.predicates) ≡ declared
  heads-length = length-map (declared_row domain problem) domain.predicates

  abbrev all_heads : List PredicateRow
  all_heads = map (declared_row domain problem) domain.predicates

  abbrev pub fresh_all : List Fresh
  fresh_all = all_fresh domain problem

  -- a declared predicate is derived in the task where it is in the files
  pub derived-declared : (name : Name) → is_declared domain problem name ≡ true → task.is_derived planning (predicate_number domain name) ≡ holds.is_derived domain name
  derived-declared name known =
      ap (λ (o : Option PredicateRow). unwrap_or (option_map (λ (row : PredicateRow). row.derived) o) false)
      (within_left all_heads (fresh_predicates domain problem 0 fresh_all) (predicate_number domain name) (omega (arith, heads-length, number-below name known)))
      ∙ head-told (λ row. row.derived) (holds.is_derived domain) (λ head. refl) domain.predicates name known

  fresh-row-derived : (next : ℕ) (fresh : List Fresh) (i : ℕ) → i < length fresh → derived_in (fresh_predicates domain problem next fresh) i ≡ true
  fresh-row-derived next [] i below = absurd (omega (arith, below))
  fresh-row-derived next (first ∷ fresh) zero below = refl
  fresh-row-derived next (first ∷ fresh) (suc i) below = fresh-row-derived (suc next) fresh i (omega (arith, below))

  fresh-rows-length : (next : ℕ) (fresh : List Fresh) → length (fresh_predicates domain problem next fresh) ≡ length fresh
  fresh-rows-length next [] = refl
  fresh-rows-length next (first ∷ fresh) = ap (λ (n : ℕ). suc n) (fresh-rows-length (suc next) fresh)

  -- a new predicate is derived
  pub derived-fresh : (i : ℕ) → i < length fresh_all → task.is_derived planning (declared + i) ≡ true
  derived-fresh i below =
      ap (derived_in planning.predicates) (let same : declared + i ≡ length all_heads + i = omega (arith, heads-length) in same)
      ∙ ap (λ (o : Option PredicateRow). unwrap_or (option_map (λ (row : PredicateRow). row.derived) o) false) (within-right all_heads (fresh_predicates domain problem 0 fresh_all) i)
      ∙ fresh-row-derived 0 fresh_all i below

  -- no other is
  pub derived-below : (predicate : ℕ) → task.is_derived planning predicate ≡ true → predicate < declared + length fresh_all
  derived-below predicate derived = by (nat_lt predicate (declared + length fresh_all)) refl
    where
      by : (b : Bool) → nat_lt predicate (declared + length fresh_all) ≡ b → predicate < declared + length fresh_all
      by true e = ltb-true predicate (declared + length fresh_all) e
      by false e =
          let past : length planning.predicates ≤ predicate = omega (arith, heads-length, fresh-rows-length 0 fresh_all, length-append all_heads (fresh_predicates domain problem 0 fresh_all), ltb-false predicate (declared + length fresh_all) e) in
          let none = slice_get_past planning.predicates predicate past in
          let not_derived : task.is_derived planning predicate ≡ false = ap (λ (o : Option PredicateRow). unwrap_or (option_map (λ (row : PredicateRow). row.derived) o) false) none in
          absurd cc

  -- ---- the axioms of the files

  -- the rule mentions only what is declared, and the head binds the variables that are free in the body
  pub record RuleSound (rule : Derived) : Type 0 where
    pub mentioned : AreKnown domain problem (in_axiom rule)
    pub bound : (name : Name) → (known domain problem rule.body).is_free name ≡ true → is_listed rule.head.variables name ≡ true

  pub head-declared : (rule : Derived) → RuleSound rule → is_declared domain problem rule.head.name.name ≡ true
  head-declared rule sound =
      (and_parts (is_declared domain problem rule.head.name.name) true (and_parts (is_declared domain problem rule.head.name.name && true) true (and_parts ((is_declared domain problem rule.head.name.name && true) && true) _ sound.mentioned).0).0).0

  pub body-mentioned : (rule : Derived) → RuleSound rule → AreKnown domain problem (in_condition rule.body)
  body-mentioned rule sound =
      (and_parts (true && true) _ (and_parts ((is_declared domain problem rule.head.name.name && true) && true) _ sound.mentioned).1).1

  abbrev pub rule_holds : holds.State → Derived → List Name → Bool
  rule_holds full rule names = holds.holds domain problem full rule.body (pddl.bound rule.head.variables names [])

  -- the rule gives the numbered atom
  abbrev pub numbered_derives : holds.State → GroundAtom → Derived → Bool
  numbered_derives full atom rule =
      nat_eq (predicate_number domain rule.head.name.name) atom.predicate
      && list_any (λ names. pointwise nat_eq (map num names) atom.objects && rule_holds full rule names) (pddl.choices domain problem rule.head.variables)

  -- ---- the rows of a rule

  module _ (full : holds.State) (numbered : State) (shows : ShowsFull domain problem full numbered) where
    bound-body : (rule : Derived) → RuleSound rule → (next : ℕ) → GivenIn declared numbered next (body_parts domain problem rule next).fresh → (names : List Name) → Among names (pddl.choices domain problem rule.head.variables) →
        some_part numbered (map num names) (body_parts domain problem rule next).items ≡ rule_holds full rule names
    bound-body rule sound next given names among =
        subst (λ (n : ℕ). GivenIn declared numbered next ((known domain problem rule.body).cut true (parameter_scope domain problem rule.head.variables) n next).fresh →
        some_part numbered (map num names) ((known domain problem rule.body).cut true (parameter_scope domain problem rule.head.variables) n next).items ≡ rule_holds full rule names)
        (length-map num names ∙ named-choice-length domain problem full numbered shows rule.head.variables names among)
        (condition-means domain problem full numbered shows rule.body (body-mentioned rule sound) true (parameter_scope domain problem rule.head.variables) (pddl.bound rule.head.variables names []) (map num names)
        (λ name free. inside-stands domain problem rule.head.variables names 0 [] [] [] name refl among (λ unlisted. let listed = sound.bound name free in absurd cc)) next) given

    pub rule-means : (rule : Derived) → RuleSound rule → (next : ℕ) → GivenIn declared numbered next (body_parts domain problem rule next).fresh → (atom : GroundAtom) →
        list_any (task.derives numbered atom) (axiom_rows domain problem rule next).items ≡ numbered_derives full atom rule
    rule-means rule sound next given atom =
        rows-derive numbered atom (predicate_number domain rule.head.name.name) (ranges_of domain problem rule.head.variables) (body_parts domain problem rule next).items
        ∙ ap (λ b. nat_eq (predicate_number domain rule.head.name.name) atom.predicate && b)
        (ap (λ b. b && some_part numbered atom.objects (body_parts domain problem rule next).items)
        (choice-any (ranges_of domain problem rule.head.variables) atom.objects
        ∙ ap (list_any (λ os. pointwise nat_eq os atom.objects)) (choices-numbers domain problem rule.head.variables)
        ∙ any-map (λ os. pointwise nat_eq os atom.objects) (map num) (pddl.choices domain problem rule.head.variables))
        ∙ sym (any-and_right (some_part numbered atom.objects (body_parts domain problem rule next).items) (λ names. pointwise nat_eq (map num names) atom.objects) (pddl.choices domain problem rule.head.variables))
        ∙ same_any (λ names. pointwise nat_eq (map num names) atom.objects && some_part numbered atom.objects (body_parts domain problem rule next).items) (λ names. pointwise nat_eq (map num names) atom.objects && rule_holds full rule names)
        (pddl.choices domain problem rule.head.variables) (λ names among. one names among (pointwise nat_eq (map num names) atom.objects) refl))
      where
        one : (names : List Name) → Among names (pddl.choices domain problem rule.head.variables) → (b : Bool) → pointwise nat_eq (map num names) atom.objects ≡ b →
            (pointwise nat_eq (map num names) atom.objects && some_part numbered atom.objects (body_parts domain problem rule next).items) ≡ (pointwise nat_eq (map num names) atom.objects && rule_holds full rule names)
        one names among true e =
            ap (λ b. pointwise nat_eq (map num names) atom.objects && b)
            (ap (λ (os : List ℕ). some_part numbered os (body_parts domain problem rule next).items) (sym (same_name (map num names) atom.objects e)) ∙ bound-body rule sound next given names among)
        one names among false e = cc e

    pub rules-mean : (rules : List Derived) → Each RuleSound rules → (next : ℕ) → GivenIn declared numbered next (in_turn (map (axiom_rows domain problem) rules) next).fresh → (atom : GroundAtom) →
        list_any (task.derives numbered atom) (in_turn (map (axiom_rows domain problem) rules) next).items ≡ list_any (numbered_derives full atom) rules
    rules-mean [] sound next given atom = refl
    rules-mean (rule ∷ rules) sound next given atom =
        let later = next + length (body_parts domain problem rule next).fresh in
        list_any-append (task.derives numbered atom) (axiom_rows domain problem rule next).items (in_turn (map (axiom_rows domain problem) rules) later).items
        ∙ ap (λ b. b || list_any (task.derives numbered atom) (in_turn (map (axiom_rows domain problem) rules) later).items)
        (rule-means rule sound.0 next (numbered-left (GivenAt declared numbered) next (body_parts domain problem rule next).fresh (in_turn (map (axiom_rows domain problem) rules) later).fresh given) atom)
        ∙ ap (λ b. numbered_derives full atom rule || b)
        (rules-mean rules sound.1 later (numbered-right (GivenAt declared numbered) next (body_parts domain problem rule next).fresh (in_turn (map (axiom_rows domain problem) rules) later).fresh given) atom)

  -- no axiom of the files is for a new predicate
  pub rules-elsewhere : (state : State) (rules : List Derived) → Each RuleSound rules → (next : ℕ) (atom : GroundAtom) → declared ≤ atom.predicate → list_any (task.derives state atom) (in_turn (map (axiom_rows domain problem) rules) next).items ≡ false
  rules-elsewhere state [] sound next atom past = refl
  rules-elsewhere state (rule ∷ rules) sound next atom past =
      let later = next + length (body_parts domain problem rule next).fresh in
      list_any-append (task.derives state atom) (axiom_rows domain problem rule next).items (in_turn (map (axiom_rows domain problem) rules) later).items
      ∙ ap (λ b. b || list_any (task.derives state atom) (in_turn (map (axiom_rows domain problem) rules) later).items)
      (rows-derive state atom (predicate_number domain rule.head.name.name) (ranges_of domain problem rule.head.variables) (body_parts domain problem rule next).items
      ∙ ap (λ b. b && (is_choice (ranges_of domain problem rule.head.variables) atom.objects && some_part state atom.objects (body_parts domain problem rule next).items))
      (other-number (predicate_number domain rule.head.name.name) atom.predicate (λ same. omega (arith, same, past, number-below rule.head.name.name (head-declared rule sound.0)))))
      ∙ rules-elsewhere state rules sound.1 later atom past

  -- ---- known atoms

  pub choices-known : (variables : List Typed) (names : List Name) → Among names (pddl.choices domain problem variables) → list_all (is_known domain problem) names ≡ true
  choices-known [] names (inl none) = ap (list_all (is_known domain problem)) (sym none)
  choices-known [] names (inr never) = absurd never
  choices-known (variable ∷ more) names there =
      let piece = flat_map_piece (λ object. map (λ others. object ∷ others) (pddl.choices domain problem more)) (pddl.range domain problem variable) names there in
      let rest = map_source (λ (others : List Name). piece.source ∷ others) (pddl.choices domain problem more) names piece.inside in
      subst (λ (ns : List Name). list_all (is_known domain problem) ns ≡ true) rest.gives
      (and_from (is_known domain problem piece.source) (list_all (is_known domain problem) rest.source) (range-known domain problem variable piece.source piece.among) (choices-known more rest.source rest.among))

  -- the names of a choice are one of the choices
  pub chosen : (variables : List Typed) (names : List Name) → pddl.is_choice domain problem variables names ≡ true → Among names (pddl.choices domain problem variables)
  chosen variables names is =
      let found = passing (pointwise is_same names) (pddl.choices domain problem variables) is in
      subst (λ (ns : List Name). Among ns (pddl.choices domain problem variables)) (sym (same_items is_same same_name names found.item found.passes)) found.among

  known-derives : (full : holds.State) (rule : Derived) → RuleSound rule → (atom : holds.GroundAtom) → is_known_atom domain problem atom ≡ true →
      numbered_derives full (numbered_atom domain problem atom) rule ≡ holds.derives domain problem full atom rule
  known-derives full rule sound atom known =
      let parts = and_parts (is_declared domain problem atom.predicate) (list_all (is_known domain problem) atom.objects) known in
      let variables = rule.head.variables in
      ap (λ b. b && list_any (λ names. pointwise nat_eq (map num names) (map num atom.objects) && rule_holds full rule names) (pddl.choices domain problem variables))
      (same-number (head_names domain.predicates) rule.head.name.name atom.predicate (head-declared rule sound) parts.0)
      ∙ ap (λ b. is_same rule.head.name.name atom.predicate && b)
      (same_any (λ names. pointwise nat_eq (map num names) (map num atom.objects) && rule_holds full rule names) (λ names. pointwise is_same atom.objects names && rule_holds full rule atom.objects) (pddl.choices domain problem variables)
      (λ names among. one names (same-objects domain problem names atom.objects (choices-known variables names among) parts.1 ∙ (lists_equiv nat_list_eq_equiv).symm names atom.objects) (pointwise is_same atom.objects names) refl)
      ∙ any-and_right (rule_holds full rule atom.objects) (pointwise is_same atom.objects) (pddl.choices domain problem variables))
      ∙ sym (and_assoc (is_same rule.head.name.name atom.predicate) (pddl.is_choice domain problem variables atom.objects) (rule_holds full rule atom.objects))
    where
      one : (names : List Name) → pointwise nat_eq (map num names) (map num atom.objects) ≡ pointwise is_same atom.objects names → (b : Bool) → pointwise is_same atom.objects names ≡ b →
          (pointwise nat_eq (map num names) (map num atom.objects) && rule_holds full rule names) ≡ (pointwise is_same atom.objects names && rule_holds full rule atom.objects)
      one names same true e = let equal = ap (rule_holds full rule) (same_items is_same same_name atom.objects names e) in cc (same, e, equal)
      one names same false e = cc (same, e)

  pub known-rules : (full : holds.State) (rules : List Derived) → Each RuleSound rules → (atom : holds.GroundAtom) → is_known_atom domain problem atom ≡ true →
      list_any (numbered_derives full (numbered_atom domain problem atom)) rules ≡ list_any (holds.derives domain problem full atom) rules
  known-rules full [] sound atom known = refl
  known-rules full (rule ∷ rules) sound atom known =
      let here = known-derives full rule sound.0 atom known in
      let rest = known-rules full rules sound.1 atom known in
      cc (here, rest)

  -- a derived predicate is declared
  derived-known : (rules : List Derived) → Each RuleSound rules → (name : Name) → list_any (λ (rule : Derived). is_same rule.head.name.name name) rules ≡ true → is_declared domain problem name ≡ true
  derived-known [] sound name some = absurd cc
  derived-known (rule ∷ rules) sound name some = by (or_cases (is_same rule.head.name.name name) (list_any (λ (rule : Derived). is_same rule.head.name.name name) rules) some) (derived-known rules sound.1 name)
    where
      by : (is_same rule.head.name.name name ≡ true) ⊎ (list_any (λ (rule : Derived). is_same rule.head.name.name name) rules ≡ true) → (list_any (λ (rule : Derived). is_same rule.head.name.name name) rules ≡ true → is_declared domain problem name ≡ true) → is_declared domain problem name ≡ true
      by (inl here) rest = subst (λ (n : Name). is_declared domain problem n ≡ true) (same_name rule.head.name.name name here) (head-declared rule sound.0)
      by (inr there) rest = rest there

  -- no rule gives an atom of other objects
  unknown-rules : (full : holds.State) (rules : List Derived) → Each RuleSound rules → (atom : holds.GroundAtom) → list_all (is_known domain problem) atom.objects ≡ false → list_any (holds.derives domain problem full atom) rules ≡ false
  unknown-rules full [] sound atom unknown = refl
  unknown-rules full (rule ∷ rules) sound atom unknown =
      ap (λ b. b || list_any (holds.derives domain problem full atom) rules)
      (ap (λ b. (is_same rule.head.name.name atom.predicate && b) && rule_holds full rule atom.objects) (none (pddl.is_choice domain problem rule.head.variables atom.objects) refl)
      ∙ ap (λ b. b && rule_holds full rule atom.objects) (and-false (is_same rule.head.name.name atom.predicate)))
      ∙ unknown-rules full rules sound.1 atom unknown
    where
      none : (b : Bool) → pddl.is_choice domain problem rule.head.variables atom.objects ≡ b → pddl.is_choice domain problem rule.head.variables atom.objects ≡ false
      none true e = let known = choices-known rule.head.variables atom.objects (chosen rule.head.variables atom.objects e) in absurd cc
      none false e = e

  -- ---- from the task to the files

  module _ (sound : Each RuleSound domain.axioms) where
    abbrev pub axiom_items : List AxiomRow
    axiom_items = (made_axioms domain problem).items

    pub task-axioms : (state : State) (atom : GroundAtom) → list_any (task.derives state atom) planning.axioms ≡ (list_any (task.derives state atom) axiom_items || list_any (task.derives state atom) (fresh_rows domain problem 0 fresh_all))
    task-axioms state atom = list_any-append (task.derives state atom) axiom_items (fresh_rows domain problem 0 fresh_all)

    pub full-given : (state full : State) → IsFull (task.normal_task planning) state full → AllGiven full 0 fresh_all
    full-given state full is_full =
        all-given full 0 fresh_all
        (λ n least most objects.
        let atom = atom_of (declared + n) objects in
        is_full.derived atom (derived-fresh n (omega (arith, most)))
        ∙ task-axioms full atom
        ∙ ap (λ b. b || list_any (task.derives full atom) (fresh_rows domain problem 0 fresh_all)) (rules-elsewhere full domain.axioms sound (after_schemas domain problem) atom (omega arith)))

    pub given-axioms : (state : State) → GivenIn declared state 0 fresh_all → GivenIn declared state (after_schemas domain problem) (made_axioms domain problem).fresh
    given-axioms state = numbered-second (GivenAt declared state) (made_schemas domain problem).fresh (made_axioms domain problem).fresh (made_goal domain problem).fresh

    pub record FilesFull (state : holds.State) (numbered_full : State) : Type 0 where
      pub full : holds.State
      pub is_full : IsFull (pddl_task domain problem) state full
      pub shows : ShowsFull domain problem full numbered_full

    -- the atoms of a full state of the task, by name
    abbrev by_name : holds.State → State → holds.State
    by_name state numbered_full atom = if holds.is_derived domain atom.predicate then is_known_atom domain problem atom && numbered_full (numbered_atom domain problem atom) else state atom

    pub files-full : (state : holds.State) (numbered numbered_full : State) → Shows domain problem state numbered → IsFull (task.normal_task planning) numbered numbered_full → FilesFull state numbered_full
    files-full state numbered numbered_full shows is_full =
        record {
          full = by_name state numbered_full;
          is_full = record { basic = basic; derived = derived };
          shows = full-shows;
        }
      where
        full-shows : ShowsFull domain problem (by_name state numbered_full) numbered_full
        full-shows atom known = by (holds.is_derived domain atom.predicate) refl
          where
            by : (b : Bool) → holds.is_derived domain atom.predicate ≡ b → numbered_full (numbered_atom domain problem atom) ≡ (if holds.is_derived domain atom.predicate then is_known_atom domain problem atom && numbered_full (numbered_atom domain problem atom) else state atom)
            by true e = cc (e, known)
            by false e =
                let declared_atom = (and_parts (is_declared domain problem atom.predicate) (list_all (is_known domain problem) atom.objects) known).0 in
                let here = is_full.basic (numbered_atom domain problem atom) (derived-declared atom.predicate declared_atom ∙ e) in
                let shown = shows atom known e in
                cc (e, here, shown)

        basic : (atom : holds.GroundAtom) → holds.is_derived domain atom.predicate ≡ false → by_name state numbered_full atom ≡ state atom
        basic atom e = cc e

        derived : (atom : holds.GroundAtom) → holds.is_derived domain atom.predicate ≡ true → by_name state numbered_full atom ≡ list_any (holds.derives domain problem (by_name state numbered_full) atom) domain.axioms
        derived atom e = by (list_all (is_known domain problem) atom.objects) refl
          where
            declared_atom : is_declared domain problem atom.predicate ≡ true
            declared_atom = derived-known domain.axioms sound atom.predicate e

            by : (b : Bool) → list_all (is_known domain problem) atom.objects ≡ b → by_name state numbered_full atom ≡ list_any (holds.derives domain problem (by_name state numbered_full) atom) domain.axioms
            by true k =
                let known = and_from (is_declared domain problem atom.predicate) (list_all (is_known domain problem) atom.objects) declared_atom k in
                let number = numbered_atom domain problem atom in
                let there =
                is_full.derived number (derived-declared atom.predicate declared_atom ∙ e)
                ∙ task-axioms numbered_full number
                ∙ ap (λ b. list_any (task.derives numbered_full number) axiom_items || b) (rows-behind numbered_full number 0 fresh_all (omega (arith, number-below atom.predicate declared_atom)))
                ∙ or-false _
                ∙ rules-mean (by_name state numbered_full) numbered_full full-shows domain.axioms sound (after_schemas domain problem) (given-axioms numbered_full (given-of_all numbered_full 0 fresh_all (full-given numbered numbered_full is_full))) number
                ∙ known-rules (by_name state numbered_full) domain.axioms sound atom known in
                let here : by_name state numbered_full atom ≡ numbered_full number = cc (e, known) in
                here ∙ there
            by false k =
                let unknown = unknown-rules (by_name state numbered_full) domain.axioms sound atom k in
                let never : is_known_atom domain problem atom ≡ false = ap (λ b. is_declared domain problem atom.predicate && b) k ∙ and-false (is_declared domain problem atom.predicate) in
                let here : by_name state numbered_full atom ≡ false = cc (e, never) in
                here ∙ sym unknown
