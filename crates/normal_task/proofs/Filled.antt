-- Each full state of the files has a full state of the normal task beside it.
use Rattle.std.proofs.Common.{append-nil, ◌≡◌, ℕ, suc, ◌+◌, ◌-◌, ◌<◌, ◌≤◌, Bool, true, false, ◌&&◌, ◌||◌, List, [], ◌∷◌, ◌++◌, length, refl, sym, ap, ◌∙◌, subst, arith, inl, inr, ◌⊎◌}
use Rattle.std.specs.Prelude.{nat_eq, nat_lt, nat_le, ◌==◌, if◌then◌else◌}
use Rattle.std.specs.List.{list_all, list_any}
use Rattle.std.proofs.lemmas.Bool.{and_parts, or_cases, ltb-true, ltb-false, le-ltb, leb-true, false≢true}
use Rattle.std.proofs.Math.Bool.{or-false}
use Rattle.pddl_syntax.specs.declared.types.Domain.{Domain}
use Rattle.pddl_syntax.specs.declared.types.Problem.{Problem}
use Rattle.planning.specs.Task.{IsFull}
use Rattle.pddl_syntax.specs.Holds as holds
use Rattle.pddl_syntax.specs.Plan.{pddl_task}
use Rattle.pddl_syntax.proofs.ConditionCases.{Each}
use Rattle.fault_positions.specs.Mentions.{in_condition}
use Rattle.fault_positions.specs.Scopes as scopes
use Rattle.lists.proofs.Items.{all_passes, same_any}
use Rattle.normal_task.specs.declared.task.GroundAtom.{GroundAtom}
use Rattle.normal_task.specs.declared.task.Literal.{Literal}
use Rattle.normal_task.specs.declared.task.Literal.TheVariants.{Holds, Equal}
use Rattle.normal_task.specs.Numbers.{predicate_number}
use Rattle.normal_task.specs.Meaning as task
use Rattle.normal_task.specs.Meaning.{atom_of, State, Binding, objects_at, choices, answers, is_met, are_met}
use Rattle.normal_task.proofs.Chosen.{is_choice}
use Rattle.normal_task.specs.Parts.{Part, Fresh}
use Rattle.normal_task.specs.Normalised.{numbered_atom, fresh_rows, made_schemas, made_axioms, after_schemas, after_axioms, goal_parts, goal_atom, goal_of}
use Rattle.normal_task.specs.Same.{Shows}
use Rattle.normal_task.proofs.Anys.{any-same}
use Rattle.normal_task.proofs.Chosen.{eq-itself}
use Rattle.normal_task.proofs.Mentioned.{is_declared, AreKnown}
use Rattle.normal_task.proofs.Scopes.{is_known, append-assoc, length-append}
use Rattle.normal_task.proofs.Fits.{literal_from, literal_within, fits, part_fits, parts_fit, fresh_fit, predicate-declared}
use Rattle.normal_task.proofs.PartsMean.{some_part, part_met, GivenAt, GivenIn, numbered-third, numbered-both}
use Rattle.normal_task.proofs.ConditionsMean.{ShowsFull, condition-means}
use Rattle.normal_task.proofs.Bound.{free-bound}
use Rattle.normal_task.proofs.FullStatesMatch.{declared, planning, fresh_all, other-number, rows-behind, AllGivenAt, AllGiven, from-rows, given-of_all, derived-declared, derived-fresh, derived-below, RuleSound, numbered_derives, rules-mean, rules-elsewhere, known-rules, task-axioms, axiom_items, given-axioms, number-below}

module _ (domain : Domain) (problem : Problem) where
  abbrev base : ℕ
  base = declared domain problem

  -- ---- states that agree on the declared predicates and on the new ones from a number on

  abbrev AgreeFrom : ℕ → State → State → Type 0
  AgreeFrom next s t = (atom : GroundAtom) → (atom.predicate < base) ⊎ (base + next ≤ atom.predicate) → s atom ≡ t atom

  module _ (next : ℕ) (s t : State) (agree : AgreeFrom next s t) where
    met-alike : (binding : Binding) (literal : Literal) → literal_from base next literal ≡ true → is_met s binding literal ≡ is_met t binding literal
    met-alike binding (Holds positive predicate places) from = by (or_cases (nat_lt predicate base) (nat_le (base + next) predicate) from)
      where
        by : (nat_lt predicate base ≡ true) ⊎ (nat_le (base + next) predicate ≡ true) → is_met s binding (Holds positive predicate places) ≡ is_met t binding (Holds positive predicate places)
        by (inl old) = ap (answers positive) (agree (atom_of predicate (objects_at binding places)) (inl (ltb-true predicate base old)))
        by (inr new) = ap (answers positive) (agree (atom_of predicate (objects_at binding places)) (inr (leb-true (base + next) predicate new)))
    met-alike binding (Equal positive left right) from = refl

    all-alike : (bound : ℕ) (binding : Binding) (literals : List Literal) → list_all (fits base bound next) literals ≡ true → are_met s binding literals ≡ are_met t binding literals
    all-alike bound binding [] fit = refl
    all-alike bound binding (literal ∷ literals) fit =
        let parts = and_parts (fits base bound next literal) (list_all (fits base bound next) literals) fit in
        let here = met-alike binding literal (and_parts (literal_within bound literal) (literal_from base next literal) parts.0).1 in
        let rest = all-alike bound binding literals parts.1 in
        cc (here, rest)

    parts-alike : (around : ℕ) (binding : Binding) (parts : List Part) → parts_fit base around next parts ≡ true → some_part s binding parts ≡ some_part t binding parts
    parts-alike around binding parts fit =
        same_any (part_met s binding) (part_met t binding) parts
        (λ part among.
        any-same (λ objects. are_met s (binding ++ objects) part.literals) (λ objects. are_met t (binding ++ objects) part.literals)
        (λ objects. all-alike (around + length part.variables) (binding ++ objects) part.literals (all_passes (part_fits base around next) part parts among fit)) (choices part.variables))

  -- ---- a state with the new predicates

  -- the state with one new predicate
  abbrev put : ℕ → Fresh → State → State
  put next fresh state atom = if nat_eq atom.predicate (base + next) then is_choice fresh.arguments atom.objects && some_part state atom.objects fresh.parts else state atom

  -- the state with all of them, the last first
  abbrev filled : ℕ → List Fresh → State → State
  filled next [] state = state
  filled next (fresh ∷ more) state = put next fresh (filled (suc next) more state)

  put-elsewhere : (next : ℕ) (fresh : Fresh) (state : State) (atom : GroundAtom) → (atom.predicate ≡ base + next → ⊥) → put next fresh state atom ≡ state atom
  put-elsewhere next fresh state atom apart =
      ap (λ b. if b then is_choice fresh.arguments atom.objects && some_part state atom.objects fresh.parts else state atom) (other-number atom.predicate (base + next) apart)

  untouched : (next : ℕ) (fresh : List Fresh) (state : State) (atom : GroundAtom) → (atom.predicate < base + next) ⊎ (base + (next + length fresh) ≤ atom.predicate) → filled next fresh state atom ≡ state atom
  untouched next [] state atom apart = refl
  untouched next (first ∷ fresh) state atom (inl before) =
      put-elsewhere next first (filled (suc next) fresh state) atom (λ same. omega (arith, before, same)) ∙ untouched (suc next) fresh state atom (inl (omega (arith, before)))
  untouched next (first ∷ fresh) state atom (inr past) =
      put-elsewhere next first (filled (suc next) fresh state) atom (λ same. omega (arith, past, same)) ∙ untouched (suc next) fresh state atom (inr (omega (arith, past)))

  filled-given : (next : ℕ) (fresh : List Fresh) → fresh_fit base next fresh ≡ true → (state t : State) → AgreeFrom next (filled next fresh state) t → AllGiven domain problem t next fresh
  filled-given next [] fit state t agree = tt
  filled-given next (first ∷ fresh) fit state t agree =
      let parts = and_parts (parts_fit base (length first.arguments) (suc next) first.parts) (fresh_fit base (suc next) fresh) fit in
      let rest = filled (suc next) fresh state in
      let behind : AgreeFrom (suc next) rest t = λ atom where_it_is. later atom where_it_is in (
        λ objects.
            sym (agree (atom_of (base + next) objects) (inr (omega arith)))
            ∙ ap (λ b. if b then is_choice first.arguments objects && some_part rest objects first.parts else rest (atom_of (base + next) objects)) (eq-itself (base + next))
            ∙ ap (λ b. is_choice first.arguments objects && b) (parts-alike (suc next) rest t behind (length first.arguments) objects first.parts parts.0),
        filled-given (suc next) fresh parts.1 state t behind,
      )
    where
      later : AgreeFrom (suc next) (filled (suc next) fresh state) t
      later atom (inl old) = sym (put-elsewhere next first (filled (suc next) fresh state) atom (λ same. omega (arith, old, same))) ∙ agree atom (inl old)
      later atom (inr new) = sym (put-elsewhere next first (filled (suc next) fresh state) atom (λ same. omega (arith, new, same))) ∙ agree atom (inr (omega (arith, new)))

  -- ---- the goal

  -- the goal mentions only what is declared, and no variable is free in it
  pub record GoalSound : Type 0 where
    pub mentioned : AreKnown domain problem (in_condition problem.goal)
    pub bound : scopes.in_condition problem.goal [] ≡ []

  -- the new predicates, but for the one that may stand for the goal
  abbrev pub first_fresh : List Fresh
  first_fresh = (made_schemas domain problem).fresh ++ ((made_axioms domain problem).fresh ++ (goal_parts domain problem).fresh)

  abbrev pub goal_fresh : Fresh
  goal_fresh = record { arguments = []; parts = (goal_parts domain problem).items }

  -- the one for the goal, if the goal needs it
  abbrev pub last_fresh : List Part → List Fresh
  last_fresh [] = goal_fresh ∷ []
  last_fresh (part ∷ []) = if length part.variables == 0 then [] else goal_fresh ∷ []
  last_fresh (part ∷ other ∷ more) = goal_fresh ∷ []

  abbrev goal_items : List Part
  goal_items = (goal_parts domain problem).items

  pub goal-last : (items : List Part) → (goal_of domain problem (goal_parts domain problem) items (after_axioms domain problem)).fresh ≡ (goal_parts domain problem).fresh ++ last_fresh items
  goal-last [] = refl
  goal-last (part ∷ []) = by (length part.variables == 0)
    where
      by : (b : Bool) → (if b then record { items = part.literals; fresh = (goal_parts domain problem).fresh } else goal_atom domain problem (goal_parts domain problem) (after_axioms domain problem)).fresh
          ≡ (goal_parts domain problem).fresh ++ (if b then [] else goal_fresh ∷ [])
      by true = sym (append-nil (goal_parts domain problem).fresh)
      by false = refl
  goal-last (part ∷ other ∷ more) = refl

  pub all-fresh : fresh_all domain problem ≡ first_fresh ++ last_fresh goal_items
  all-fresh =
      let schemas = (made_schemas domain problem).fresh in
      let axioms = (made_axioms domain problem).fresh in
      let goal = (goal_parts domain problem).fresh in
      ap (λ (l : List Fresh). schemas ++ (axioms ++ l)) (goal-last goal_items)
      ∙ ap (λ (l : List Fresh). schemas ++ l) (sym (append-assoc axioms goal (last_fresh goal_items)))
      ∙ sym (append-assoc schemas (axioms ++ goal) (last_fresh goal_items))

  -- ---- from the files to the task

  pub record TaskFull (full : holds.State) (numbered : State) : Type 0 where
    pub numbered_full : State
    pub is_full : IsFull (task.normal_task (planning domain problem)) numbered numbered_full
    pub shows : ShowsFull domain problem full numbered_full

  -- a declared predicate where a rule gives it, and a new one where the goal holds
  abbrev of_derived : holds.State → GroundAtom → Bool → Bool
  of_derived full atom old = if old then list_any (numbered_derives domain problem full atom) domain.axioms else is_choice [] atom.objects && holds.holds domain problem full problem.goal []

  -- the declared predicates of a full state of the files, by number
  abbrev by_number : holds.State → State → State
  by_number full numbered atom = if task.is_derived (planning domain problem) atom.predicate then of_derived full atom (nat_lt atom.predicate base) else numbered atom

  pub task-full : Each (RuleSound domain problem) domain.axioms → GoalSound → fresh_fit base 0 first_fresh ≡ true →
      (state full : holds.State) (numbered : State) → Shows domain problem state numbered → IsFull (pddl_task domain problem) state full → TaskFull full numbered
  task-full sound goal fit state full numbered shows is_full =
      record {
        numbered_full = filled 0 first_fresh (by_number full numbered);
        is_full = record { basic = basic; derived = derived };
        shows = full-shows;
      }
    where
      old : (atom : GroundAtom) → atom.predicate < base → filled 0 first_fresh (by_number full numbered) atom ≡ by_number full numbered atom
      old atom below = untouched 0 first_fresh (by_number full numbered) atom (inl (omega (arith, below)))

      full-shows : ShowsFull domain problem full (filled 0 first_fresh (by_number full numbered))
      full-shows atom known =
          old (numbered_atom domain problem atom) (number-below domain problem atom.predicate declared_atom) ∙ by (holds.is_derived domain atom.predicate) refl
        where
          declared_atom : is_declared domain problem atom.predicate ≡ true
          declared_atom = (and_parts (is_declared domain problem atom.predicate) (list_all (is_known domain problem) atom.objects) known).0

          by : (b : Bool) → holds.is_derived domain atom.predicate ≡ b → by_number full numbered (numbered_atom domain problem atom) ≡ full atom
          by true e =
              ap (λ b. if b then of_derived full (numbered_atom domain problem atom) (nat_lt (predicate_number domain atom.predicate) base) else numbered (numbered_atom domain problem atom)) (derived-declared domain problem atom.predicate declared_atom ∙ e)
              ∙ ap (of_derived full (numbered_atom domain problem atom)) (predicate-declared domain problem atom.predicate declared_atom)
              ∙ known-rules domain problem full domain.axioms sound atom known
              ∙ sym (is_full.derived atom e)
          by false e =
              ap (λ b. if b then of_derived full (numbered_atom domain problem atom) (nat_lt (predicate_number domain atom.predicate) base) else numbered (numbered_atom domain problem atom)) (derived-declared domain problem atom.predicate declared_atom ∙ e)
              ∙ shows atom known e
              ∙ sym (is_full.basic atom e)

      first : AllGiven domain problem (filled 0 first_fresh (by_number full numbered)) 0 first_fresh
      first = filled-given 0 first_fresh fit (by_number full numbered) (filled 0 first_fresh (by_number full numbered)) (λ atom apart. refl)

      given-goal : GivenIn base (filled 0 first_fresh (by_number full numbered)) (after_axioms domain problem) (goal_parts domain problem).fresh
      given-goal =
          let t = filled 0 first_fresh (by_number full numbered) in
          numbered-third (GivenAt base t) (made_schemas domain problem).fresh (made_axioms domain problem).fresh (goal_parts domain problem).fresh (given-of_all domain problem t 0 first_fresh first)

      goal-means : some_part (filled 0 first_fresh (by_number full numbered)) [] goal_items ≡ holds.holds domain problem full problem.goal []
      goal-means =
          condition-means domain problem full (filled 0 first_fresh (by_number full numbered)) full-shows problem.goal goal.mentioned true [] [] []
          (λ name free. absurd (false≢true (free-bound domain problem problem.goal [] goal.bound name free))) (after_axioms domain problem) given-goal

      lengths : length (fresh_all domain problem) ≡ length first_fresh + length (last_fresh goal_items)
      lengths = ap (λ (l : List Fresh). length l) all-fresh ∙ length-append first_fresh (last_fresh goal_items)

      last-one : length first_fresh < length (fresh_all domain problem) → AllGiven domain problem (filled 0 first_fresh (by_number full numbered)) (0 + length first_fresh) (goal_fresh ∷ [])
      last-one below = (
        λ objects.
            let atom = atom_of (base + (0 + length first_fresh)) objects in
            let not_old = le-ltb (base + (0 + length first_fresh)) base (omega arith) in
            let new = derived-fresh domain problem (0 + length first_fresh) (omega (arith, below)) in
            untouched 0 first_fresh (by_number full numbered) atom (inr (omega arith))
            ∙ ap (λ b. if b then of_derived full atom (nat_lt atom.predicate base) else numbered atom) new
            ∙ ap (of_derived full atom) not_old
            ∙ at_objects objects,
        tt,
      )
        where
          at_objects : (objects : List ℕ) → (is_choice [] objects && holds.holds domain problem full problem.goal []) ≡ (is_choice [] objects && some_part (filled 0 first_fresh (by_number full numbered)) objects goal_items)
          at_objects [] = sym goal-means
          at_objects (object ∷ objects) = refl

      last : (items : List Part) → goal_items ≡ items → AllGiven domain problem (filled 0 first_fresh (by_number full numbered)) (0 + length first_fresh) (last_fresh items)
      last [] e = last-one (let l = ap (λ (ps : List Part). length (last_fresh ps)) e in omega (arith, lengths, l))
      last (part ∷ []) e = by (length part.variables == 0) refl
        where
          by : (b : Bool) → (length part.variables == 0) ≡ b → AllGiven domain problem (filled 0 first_fresh (by_number full numbered)) (0 + length first_fresh) (if b then [] else goal_fresh ∷ [])
          by true none = tt
          by false none = last-one (let l = ap (λ (ps : List Part). length (last_fresh ps)) e ∙ ap (λ b. length (if b then [] else goal_fresh ∷ [])) none in omega (arith, lengths, l))
      last (part ∷ other ∷ more) e = last-one (let l = ap (λ (ps : List Part). length (last_fresh ps)) e in omega (arith, lengths, l))

      all : AllGiven domain problem (filled 0 first_fresh (by_number full numbered)) 0 (fresh_all domain problem)
      all = subst (λ (l : List Fresh). AllGiven domain problem (filled 0 first_fresh (by_number full numbered)) 0 l) (sym all-fresh) (numbered-both (AllGivenAt domain problem (filled 0 first_fresh (by_number full numbered))) 0 first_fresh (last_fresh goal_items) first (last goal_items refl))

      basic : (atom : GroundAtom) → task.is_derived (planning domain problem) atom.predicate ≡ false → filled 0 first_fresh (by_number full numbered) atom ≡ numbered atom
      basic atom e =
          untouched 0 first_fresh (by_number full numbered) atom (place (nat_lt atom.predicate base) refl (nat_lt atom.predicate (base + length (fresh_all domain problem))) refl)
          ∙ ap (λ b. if b then of_derived full atom (nat_lt atom.predicate base) else numbered atom) e
        where
          place : (b : Bool) → nat_lt atom.predicate base ≡ b → (c : Bool) → nat_lt atom.predicate (base + length (fresh_all domain problem)) ≡ c → (atom.predicate < base + 0) ⊎ (base + (0 + length first_fresh) ≤ atom.predicate)
          place true below c upto = let l = ltb-true atom.predicate base below in inl (omega (arith, l))
          place false above false upto = let l = ltb-false atom.predicate (base + length (fresh_all domain problem)) upto in inr (omega (arith, l, lengths))
          place false above true upto =
              let low = ltb-false atom.predicate base above in
              let high = ltb-true atom.predicate (base + length (fresh_all domain problem)) upto in
              let new = derived-fresh domain problem (atom.predicate - base) (omega (arith, low, high)) in
              let same : base + (atom.predicate - base) ≡ atom.predicate = omega (arith, low) in
              let is_new = ap (task.is_derived (planning domain problem)) (sym same) ∙ new in
              absurd cc

      derived : (atom : GroundAtom) → task.is_derived (planning domain problem) atom.predicate ≡ true →
          filled 0 first_fresh (by_number full numbered) atom ≡ list_any (task.derives (filled 0 first_fresh (by_number full numbered)) atom) (planning domain problem).axioms
      derived atom e = by (nat_lt atom.predicate base) refl
        where
          by : (b : Bool) → nat_lt atom.predicate base ≡ b → filled 0 first_fresh (by_number full numbered) atom ≡ list_any (task.derives (filled 0 first_fresh (by_number full numbered)) atom) (planning domain problem).axioms
          by true below =
              let l = ltb-true atom.predicate base below in
              let t = filled 0 first_fresh (by_number full numbered) in
              old atom l
              ∙ ap (λ b. if b then of_derived full atom (nat_lt atom.predicate base) else numbered atom) e
              ∙ ap (of_derived full atom) below
              ∙ sym (rules-mean domain problem full t full-shows domain.axioms sound (after_schemas domain problem) (given-axioms domain problem sound t (given-of_all domain problem t 0 (fresh_all domain problem) all)) atom)
              ∙ sym (or-false (list_any (task.derives t atom) (axiom_items domain problem sound)))
              ∙ ap (λ b. list_any (task.derives t atom) (axiom_items domain problem sound) || b) (sym (rows-behind domain problem t atom 0 (fresh_all domain problem) (omega (arith, l))))
              ∙ sym (task-axioms domain problem sound t atom)
          by false above =
              let low = ltb-false atom.predicate base above in
              let high = derived-below domain problem atom.predicate e in
              let t = filled 0 first_fresh (by_number full numbered) in
              let same : base + (atom.predicate - base) ≡ atom.predicate = omega (arith, low) in
              let rows = from-rows domain problem t 0 (fresh_all domain problem) all (atom.predicate - base) (omega arith) (omega (arith, low, high)) atom.objects in
              subst (λ (p : ℕ). t (atom_of p atom.objects) ≡ list_any (task.derives t (atom_of p atom.objects)) (fresh_rows domain problem 0 (fresh_all domain problem))) same rows
              ∙ ap (λ b. b || list_any (task.derives t atom) (fresh_rows domain problem 0 (fresh_all domain problem))) (sym (rules-elsewhere domain problem t domain.axioms sound (after_schemas domain problem) atom low))
              ∙ sym (task-axioms domain problem sound t atom)
