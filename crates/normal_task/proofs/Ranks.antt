-- No derived predicate of the normal task of a checked pair depends on itself: predicates have ranks that fall along axioms.
use Rattle.std.proofs.Common.{◌≡◌, ℕ, zero, suc, max, ◌+◌, ◌<◌, ◌≤◌, Bool, true, false, ◌&&◌, List, [], ◌∷◌, ◌++◌, map, length, refl, sym, ap, ◌∙◌, subst, arith, inl, inr, ◌⊎◌, nat_eq}
use Rattle.std.specs.Prelude.{◌==◌, if◌then◌else◌}
use Rattle.std.specs.List.{flat_map}
use Rattle.std.proofs.lemmas.Bool.{and_parts, cases_lt, eqb-true, eq-eqb}
use Rattle.pddl_syntax.specs.declared.types.Action.{Action}
use Rattle.pddl_syntax.specs.declared.types.Derived.{Derived}
use Rattle.pddl_syntax.specs.declared.types.Domain.{Domain}
use Rattle.pddl_syntax.specs.declared.types.Named.{Named}
use Rattle.pddl_syntax.specs.declared.types.Problem.{Problem}
use Rattle.pddl_syntax.specs.Words.{Name}
use Rattle.pddl_syntax.proofs.SameAtoms.{same_name}
use Rattle.names.specs.Links.{Link, link}
use Rattle.names.proofs.Chains.{Ends, chains_end}
use Rattle.fault_positions.specs.Links.{dependence_links, axiom_links}
use Rattle.fault_positions.specs.Mentions.{Mention, Variables, Derives, Asked, Written, Function, Compared, asked_predicates, in_condition, in_effect, in_action, in_init}
use Rattle.type_checker.specs.Faults.{check_faults}
use Rattle.type_checker.proofs.NoFaults.{no_cycles}
use Rattle.lists.proofs.Items.{Among, among_left, among_right, among_which, among_map, Source, map_source, all_passes, among_flat_map}
use Rattle.normal_task.specs.declared.task.AxiomRow.{AxiomRow}
use Rattle.normal_task.specs.declared.task.Literal.{Literal}
use Rattle.normal_task.specs.declared.task.Literal.TheVariants.{Holds, Equal}
use Rattle.normal_task.specs.declared.task.Normal.{Normal}
use Rattle.normal_task.specs.declared.task.Place.{Place}
use Rattle.normal_task.specs.Numbers.{head_names, predicate_number, ranges_of}
use Rattle.normal_task.specs.Parts.{Part, Fresh, Made, in_turn, fresh_number}
use Rattle.normal_task.specs.Normalised.{parameter_scope, precondition_parts, effect_rows, schemas, axiom_row, body_parts, axiom_rows, fresh_rows, goal_parts, made_schemas, made_axioms, made_goal, after_schemas, after_axioms, all_fresh, normal}
use Rattle.normal_task.proofs.Alls.{all-right}
use Rattle.normal_task.proofs.Asks.{IsAsked, PartsAsk, FreshAsks, MadeAsks, condition-asks, effect-asks}
use Rattle.normal_task.proofs.ConditionsMean.{same-number}
use Rattle.normal_task.proofs.Faultless.{rule_sound, action_mentioned, known_in_problem}
use Rattle.normal_task.proofs.Filled.{goal_fresh, last_fresh, goal-last}
use Rattle.normal_task.proofs.FullStatesMatch.{head-declared, body-mentioned, number-below}
use Rattle.normal_task.proofs.MadeInTurn.{Origin, origin, maker}
use Rattle.normal_task.proofs.Mentioned.{is_declared, is_known_mention, AreKnown}
use Rattle.normal_task.proofs.NumberedFresh.{Numbered, numbered-left, numbered-right, numbered-second, numbered-third}
use Rattle.normal_task.proofs.Scopes.{length-append}

-- ---- the greatest number of a list

abbrev greatest : {X : Type 0} → (X → ℕ) → List X → ℕ
greatest f [] = 0
greatest f (x ∷ xs) = max (f x) (greatest f xs)

at-most : {X : Type 0} (f : X → ℕ) (x : X) (xs : List X) → Among x xs → f x ≤ greatest f xs
at-most f x [] among = absurd among
at-most f x (y ∷ xs) (inl here) = let same = ap f here in omega (arith, same)
at-most f x (y ∷ xs) (inr there) = let rest = at-most f x xs there in omega (arith, rest)

same-greatest : {X : Type 0} (f g : X → ℕ) (xs : List X) → ((x : X) → Among x xs → f x ≡ g x) → greatest f xs ≡ greatest g xs
same-greatest f g [] same = refl
same-greatest f g (x ∷ xs) same = let here = same x (inl refl) in let rest = same-greatest f g xs (λ y among. same y (inr among)) in cc (here, rest)

module _ (domain : Domain) (problem : Problem) where
  abbrev task : Normal
  task = normal domain problem

  abbrev base : ℕ
  base = length domain.predicates

  -- each chain of axioms from the predicate is shorter
  abbrev EndsAt : ℕ → ℕ → Type 0
  EndsAt zero predicate = ⊥
  EndsAt (suc most) predicate =
      (row : AxiomRow) → Among row task.axioms → row.predicate ≡ predicate → (positive : Bool) (asked : ℕ) (places : List Place) → Among (Holds positive asked places) row.condition → EndsAt most asked

  ends-more : (most more predicate : ℕ) → most ≤ more → EndsAt most predicate → EndsAt more predicate
  ends-more zero more predicate least ends = absurd ends
  ends-more (suc most) zero predicate least ends = absurd (omega (arith, least))
  ends-more (suc most) (suc more) predicate least ends = λ row among is positive asked places inside. ends-more most more asked (omega (arith, least)) (ends row among is positive asked places inside)

  -- ---- where the axioms of new predicates stand

  abbrev PlacedAt : ℕ → Fresh → Type 0
  PlacedAt next fresh = (row : AxiomRow) → Among row task.axioms → row.predicate ≡ base + next → (part : Part) × Among part fresh.parts × (row.condition ≡ part.literals)

  abbrev Placed : ℕ → List Fresh → Type 0
  Placed = Numbered PlacedAt

  pub fresh-range : (next : ℕ) (fresh : List Fresh) (row : AxiomRow) → Among row (fresh_rows domain problem next fresh) → (base + next ≤ row.predicate) × (row.predicate < base + (next + length fresh))
  fresh-range next [] row among = absurd among
  fresh-range next (first ∷ fresh) row among = by (fresh-range (suc next) fresh row) (among_which row (map (axiom_row domain problem (fresh_number domain problem next) first.arguments) first.parts) (fresh_rows domain problem (suc next) fresh) among)
    where
      by : (Among row (fresh_rows domain problem (suc next) fresh) → (base + suc next ≤ row.predicate) × (row.predicate < base + (suc next + length fresh))) →
          Among row (map (axiom_row domain problem (fresh_number domain problem next) first.arguments) first.parts) ⊎ Among row (fresh_rows domain problem (suc next) fresh) →
          (base + next ≤ row.predicate) × (row.predicate < base + (next + length (first ∷ fresh)))
      by later (inl here) =
          let from = map_source (axiom_row domain problem (fresh_number domain problem next) first.arguments) first.parts row here in
          let same : base + next ≡ row.predicate = ap (λ (r : AxiomRow). r.predicate) from.gives in
          (omega (arith, same), omega (arith, same))
      by later (inr there) = let rest = later there in (omega (arith, rest.0), omega (arith, rest.1))

  placed-from : (next : ℕ) (fresh : List Fresh) → ((row : AxiomRow) → Among row task.axioms → base + next ≤ row.predicate → Among row (fresh_rows domain problem next fresh)) → Placed next fresh
  placed-from next [] from = tt
  placed-from next (first ∷ fresh) from = (at_first, placed-from (suc next) fresh behind)
    where
      here_or_behind : (row : AxiomRow) → Among row task.axioms → base + next ≤ row.predicate →
          Among row (map (axiom_row domain problem (fresh_number domain problem next) first.arguments) first.parts) ⊎ Among row (fresh_rows domain problem (suc next) fresh)
      here_or_behind row among least = among_which row (map (axiom_row domain problem (fresh_number domain problem next) first.arguments) first.parts) (fresh_rows domain problem (suc next) fresh) (from row among least)

      at_first : PlacedAt next first
      at_first row among is = by (here_or_behind row among (omega (arith, is)))
        where
          by : Among row (map (axiom_row domain problem (fresh_number domain problem next) first.arguments) first.parts) ⊎ Among row (fresh_rows domain problem (suc next) fresh) →
              (part : Part) × Among part first.parts × (row.condition ≡ part.literals)
          by (inl here) =
              let source = map_source (axiom_row domain problem (fresh_number domain problem next) first.arguments) first.parts row here in
              (source.source, source.among, ap (λ (r : AxiomRow). r.condition) (sym source.gives))
          by (inr there) = absurd (omega (arith, is, (fresh-range (suc next) fresh row there).0))

      behind : (row : AxiomRow) → Among row task.axioms → base + suc next ≤ row.predicate → Among row (fresh_rows domain problem (suc next) fresh)
      behind row among least = by (here_or_behind row among (omega (arith, least)))
        where
          by : Among row (map (axiom_row domain problem (fresh_number domain problem next) first.arguments) first.parts) ⊎ Among row (fresh_rows domain problem (suc next) fresh) → Among row (fresh_rows domain problem (suc next) fresh)
          by (inl here) =
              let source = map_source (axiom_row domain problem (fresh_number domain problem next) first.arguments) first.parts row here in
              let same : base + next ≡ row.predicate = ap (λ (r : AxiomRow). r.predicate) source.gives in
              absurd (omega (arith, least, same))
          by (inr there) = there

  -- ---- new predicates end where all that is asked for ends

  module _ (all : List Mention) (most : ℕ) (asked-ends : (predicate : ℕ) → IsAsked domain problem all predicate → EndsAt most predicate) where
    fresh-step : (first : Fresh) (fresh : List Fresh) (next high : ℕ) → PlacedAt next first → PartsAsk domain problem all (suc next) high first.parts →
        ((q : ℕ) → base + suc next ≤ q → q < base + high → EndsAt (most + length fresh) q) → (q : ℕ) → base + next ≤ q → q < base + high → EndsAt (most + length (first ∷ fresh)) q
    fresh-step first fresh next high placed ask later q least below =
        elim (cases_lt (base + next) q) [
          | inl behind ↦ ends-more (most + length fresh) (most + length (first ∷ fresh)) q (omega arith) (later q (omega (arith, behind)) below)
          | inr no_later ↦ ends-more (suc (most + length fresh)) (most + length (first ∷ fresh)) q (omega arith) (here (omega (arith, no_later, least)))
        ]
      where
        of_literal : (asked : ℕ) → IsAsked domain problem all asked ⊎ ((base + suc next ≤ asked) × (asked < base + high)) → EndsAt (most + length fresh) asked
        of_literal asked (inl is) = ends-more most (most + length fresh) asked (omega arith) (asked-ends asked is)
        of_literal asked (inr new) = later asked new.0 new.1

        here : q ≡ base + next → EndsAt (suc (most + length fresh)) q
        here same row among is positive asked places inside =
            let part = placed row among (is ∙ same) in
            of_literal asked (ask part.0 part.1 (Holds positive asked places) (subst (λ (ls : List Literal). Among (Holds positive asked places) ls) part.2 inside))

    fresh-ends : (fresh : List Fresh) (next high : ℕ) → high ≡ next + length fresh → Placed next fresh → FreshAsks domain problem all next high fresh → (q : ℕ) → base + next ≤ q → q < base + high → EndsAt (most + length fresh) q
    fresh-ends [] next high is placed ask q least below = absurd (omega (arith, is, least, below))
    fresh-ends (first ∷ fresh) next high is placed ask q least below =
        fresh-step first fresh next high placed.0 ask.0 (λ q least below. fresh-ends fresh (suc next) high (omega (arith, is)) placed.1 ask.1 q least below) q least below

  asked-declared : (mention : Mention) (named : Named) → Among named (asked_predicates mention) → is_known_mention domain problem mention ≡ true → is_declared domain problem named.name ≡ true
  asked-declared (Variables variables) named among known = absurd among
  asked-declared (Derives head) named among known = absurd among
  asked-declared (Written atom) named among known = absurd among
  asked-declared (Function term) named among known = absurd among
  asked-declared (Compared left right) named among known = absurd among
  asked-declared (Asked atom) named (inr none) known = absurd none
  asked-declared (Asked atom) named (inl here) known =
      ap (λ (n : Named). is_declared domain problem n.name) (sym here)
      ∙ (and_parts (is_declared domain problem atom.predicate.name) true (and_parts (is_declared domain problem atom.predicate.name && true) _ known).0).0

  -- ---- axioms of the files

  module _ (none : check_faults domain problem ≡ []) where
    abbrev links : List Link
    links = axiom_links domain.axioms

    old-row : (row : AxiomRow) → Among row (made_axioms domain problem).items → row.predicate < base
    old-row row among =
        let turn = maker (axiom_rows domain problem) domain.axioms (after_schemas domain problem) row among in
        let head = turn.source.head in
        let from = map_source (axiom_row domain problem (predicate_number domain head.name.name) (ranges_of domain problem head.variables)) (body_parts domain problem turn.source turn.next).items row turn.inside in
        let same : predicate_number domain head.name.name ≡ row.predicate = ap (λ (r : AxiomRow). r.predicate) from.gives in
        omega (arith, same, number-below domain problem head.name.name (head-declared domain problem turn.source (rule_sound domain problem none turn.source turn.among)))

    placed-all : Placed 0 (all_fresh domain problem)
    placed-all = placed-from 0 (all_fresh domain problem) (λ row among least. by row least (among_which row (made_axioms domain problem).items (fresh_rows domain problem 0 (all_fresh domain problem)) among))
      where
        by : (row : AxiomRow) → base + 0 ≤ row.predicate → Among row (made_axioms domain problem).items ⊎ Among row (fresh_rows domain problem 0 (all_fresh domain problem)) → Among row (fresh_rows domain problem 0 (all_fresh domain problem))
        by row least (inl old) = absurd (omega (arith, least, old-row row old))
        by row least (inr new) = new

    placed-schemas : Placed 0 (made_schemas domain problem).fresh
    placed-schemas = numbered-left PlacedAt 0 (made_schemas domain problem).fresh ((made_axioms domain problem).fresh ++ (made_goal domain problem).fresh) placed-all

    placed-axioms : Placed (after_schemas domain problem) (made_axioms domain problem).fresh
    placed-axioms = numbered-second PlacedAt (made_schemas domain problem).fresh (made_axioms domain problem).fresh (made_goal domain problem).fresh placed-all

    placed-goal : Placed (after_axioms domain problem) (made_goal domain problem).fresh
    placed-goal = numbered-third PlacedAt (made_schemas domain problem).fresh (made_axioms domain problem).fresh (made_goal domain problem).fresh placed-all

    -- the chains that end after so many links in the files end after so many axioms
    abbrev most : ℕ
    most = length (made_axioms domain problem).fresh

    abbrev bound : ℕ → ℕ
    bound zero = 0
    bound (suc n) = suc (bound n + most)

    abbrev DeclaredEnds : ℕ → Type 0
    DeclaredEnds n = (name : Name) → is_declared domain problem name ≡ true → Ends links n name → EndsAt (bound n) (predicate_number domain name)

    -- what an axiom's body asks for
    body-asked : (n : ℕ) → DeclaredEnds n → (rule : Derived) → Among rule domain.axioms → Ends links (suc n) rule.head.name.name → (predicate : ℕ) → IsAsked domain problem (in_condition rule.body) predicate → EndsAt (bound n) predicate
    body-asked n rest rule among ends predicate is =
        let to_named : Named → Link = λ named. link rule.head.name.name named.name in
        let linked = among_flat_map dependence_links rule (to_named is.named) domain.axioms among (among_map to_named is.named (flat_map asked_predicates (in_condition rule.body)) (among_flat_map asked_predicates is.mention is.named (in_condition rule.body) is.among is.inside)) in
        let known = asked-declared is.mention is.named is.inside (all_passes (is_known_mention domain problem) is.mention (in_condition rule.body) is.among (body-mentioned domain problem rule (rule_sound domain problem none rule among))) in
        subst (EndsAt (bound n)) is.same (rest is.named.name known (ends (to_named is.named) linked refl))

    rule-row : (n : ℕ) → DeclaredEnds n → (name : Name) → is_declared domain problem name ≡ true → Ends links (suc n) name → (row : AxiomRow) → row.predicate ≡ predicate_number domain name →
        Origin (axiom_rows domain problem) PlacedAt domain.axioms most row → (positive : Bool) (asked : ℕ) (places : List Place) → Among (Holds positive asked places) row.condition → EndsAt (bound n + most) asked
    rule-row n rest name known ends row is turn positive asked places inside =
        by (asks.items from.source from.among (Holds positive asked places) (subst (λ (r : AxiomRow). Among (Holds positive asked places) r.condition) (sym from.gives) inside))
      where
        rule : Derived
        rule = turn.source

        from : Source (axiom_row domain problem (predicate_number domain rule.head.name.name) (ranges_of domain problem rule.head.variables)) (body_parts domain problem rule turn.next).items row
        from = map_source (axiom_row domain problem (predicate_number domain rule.head.name.name) (ranges_of domain problem rule.head.variables)) (body_parts domain problem rule turn.next).items row turn.inside

        asks : MadeAsks domain problem (in_condition rule.body) turn.next (body_parts domain problem rule turn.next)
        asks = condition-asks domain problem (in_condition rule.body) rule.body (λ m among. among) true (parameter_scope domain problem rule.head.variables) (length rule.head.variables) turn.next

        head-is : rule.head.name.name ≡ name
        head-is =
            let numbers : predicate_number domain rule.head.name.name ≡ predicate_number domain name = ap (λ (r : AxiomRow). r.predicate) from.gives ∙ is in
            same_name rule.head.name.name name (sym (same-number (head_names domain.predicates) rule.head.name.name name (head-declared domain problem rule (rule_sound domain problem none rule turn.among)) known) ∙ eq-eqb (predicate_number domain rule.head.name.name) (predicate_number domain name) numbers)

        asked-ends : (predicate : ℕ) → IsAsked domain problem (in_condition rule.body) predicate → EndsAt (bound n) predicate
        asked-ends = body-asked n rest rule turn.among (subst (Ends links (suc n)) (sym head-is) ends)

        by : IsAsked domain problem (in_condition rule.body) asked ⊎ ((base + turn.next ≤ asked) × (asked < base + (turn.next + length (body_parts domain problem rule turn.next).fresh))) → EndsAt (bound n + most) asked
        by (inl is_asked) = ends-more (bound n) (bound n + most) asked (omega arith) (asked-ends asked is_asked)
        by (inr new) =
            ends-more (bound n + length (body_parts domain problem rule turn.next).fresh) (bound n + most) asked (omega (arith, turn.few))
            (fresh-ends (in_condition rule.body) (bound n) asked-ends (body_parts domain problem rule turn.next).fresh turn.next _ refl turn.given asks.fresh asked new.0 new.1)

    declared-ends : (n : ℕ) → DeclaredEnds n
    declared-ends zero name known ends = absurd ends
    declared-ends (suc n) name known ends = λ row among is. by (declared-ends n) row is (among_which row (made_axioms domain problem).items (fresh_rows domain problem 0 (all_fresh domain problem)) among)
      where
        by : DeclaredEnds n → (row : AxiomRow) → row.predicate ≡ predicate_number domain name → Among row (made_axioms domain problem).items ⊎ Among row (fresh_rows domain problem 0 (all_fresh domain problem)) →
            (positive : Bool) (asked : ℕ) (places : List Place) → Among (Holds positive asked places) row.condition → EndsAt (bound n + most) asked
        by rest row is (inl old) = rule-row n rest name known ends row is (origin (axiom_rows domain problem) PlacedAt domain.axioms (after_schemas domain problem) most (omega arith) placed-axioms row old)
        by rest row is (inr new) = absurd (omega (arith, is, (fresh-range 0 (all_fresh domain problem) row new).0, number-below domain problem name known))

    abbrev top : ℕ
    top = bound (suc (length links))

    name-ends : (name : Name) → is_declared domain problem name ≡ true → EndsAt top (predicate_number domain name)
    name-ends name known = declared-ends (suc (length links)) name known (chains_end links (no_cycles domain problem none) name)

    asked-top : (mentions : List Mention) → AreKnown domain problem mentions → (predicate : ℕ) → IsAsked domain problem mentions predicate → EndsAt top predicate
    asked-top mentions known predicate is =
        subst (EndsAt top) is.same (name-ends is.named.name (asked-declared is.mention is.named is.inside (all_passes (is_known_mention domain problem) is.mention mentions is.among known)))

    -- ---- new predicates

    abbrev EndIn : ℕ → List Fresh → Type 0
    EndIn next fresh = (q : ℕ) → base + next ≤ q → q < base + (next + length fresh) → EndsAt (top + length fresh) q

    two-end : (next : ℕ) (f g : List Fresh) → EndIn next f → EndIn (next + length f) g → EndIn next (f ++ g)
    two-end next f g one other q least below =
        let size = length-append f g in
        elim (cases_lt q (base + (next + length f))) [
          | inl early ↦ ends-more (top + length f) (top + length (f ++ g)) q (omega (arith, size)) (one q least early)
          | inr past ↦ ends-more (top + length g) (top + length (f ++ g)) q (omega (arith, size)) (other q (omega (arith, past)) (omega (arith, below, size)))
        ]

    turns-end : {X A : Type 0} (make : X → ℕ → Made A) (xs : List X) → ((x : X) → Among x xs → (next : ℕ) → Placed next (make x next).fresh → EndIn next (make x next).fresh) →
        (next : ℕ) → Placed next (in_turn (map make xs) next).fresh → EndIn next (in_turn (map make xs) next).fresh
    turns-end make [] each next placed = λ q least below. absurd (omega (arith, least, below))
    turns-end make (x ∷ xs) each next placed =
        let first = (make x next).fresh in
        let rest = (in_turn (map make xs) (next + length first)).fresh in
        two-end next first rest (each x (inl refl) next (numbered-left PlacedAt next first rest placed)) (turns-end make xs (λ y among. each y (inr among)) (next + length first) (numbered-right PlacedAt next first rest placed))

    action-end : (action : Action) → Among action domain.actions → (next : ℕ) → Placed next (schemas domain problem action next).fresh → EndIn next (schemas domain problem action next).fresh
    action-end action among next placed =
        let mentions = in_action action in
        let asked = asked-top mentions (action_mentioned domain problem none action among) in
        let first = precondition_parts domain problem action next in
        let later = next + length first.fresh in
        let second = effect_rows domain problem action later in
        let one = condition-asks domain problem mentions action.precondition (λ m there. inr (among_left m (in_condition action.precondition) (in_effect action.effect) there)) true (parameter_scope domain problem action.parameters) (length action.parameters) next in
        let other = effect-asks domain problem mentions action.effect (λ m there. inr (among_right m (in_condition action.precondition) (in_effect action.effect) there)) [] tt (parameter_scope domain problem action.parameters) (length action.parameters) later in
        two-end next first.fresh second.fresh
        (fresh-ends mentions top asked first.fresh next (next + length first.fresh) refl (numbered-left PlacedAt next first.fresh second.fresh placed) one.fresh)
        (fresh-ends mentions top asked second.fresh later (later + length second.fresh) refl (numbered-right PlacedAt next first.fresh second.fresh placed) other)

    rule-end : (rule : Derived) → Among rule domain.axioms → (next : ℕ) → Placed next (axiom_rows domain problem rule next).fresh → EndIn next (axiom_rows domain problem rule next).fresh
    rule-end rule among next placed =
        let made = body_parts domain problem rule next in
        let asks = condition-asks domain problem (in_condition rule.body) rule.body (λ m there. there) true (parameter_scope domain problem rule.head.variables) (length rule.head.variables) next in
        fresh-ends (in_condition rule.body) top (asked-top (in_condition rule.body) (body-mentioned domain problem rule (rule_sound domain problem none rule among))) made.fresh next (next + length made.fresh) refl placed asks.fresh

    schemas-end : EndIn 0 (made_schemas domain problem).fresh
    schemas-end = turns-end (schemas domain problem) domain.actions action-end 0 placed-schemas

    axioms-end : EndIn (after_schemas domain problem) (made_axioms domain problem).fresh
    axioms-end = turns-end (axiom_rows domain problem) domain.axioms rule-end (after_schemas domain problem) placed-axioms

    abbrev goal-size : ℕ
    goal-size = length (goal_parts domain problem).fresh

    goal-asks : MadeAsks domain problem (in_condition problem.goal) (after_axioms domain problem) (goal_parts domain problem)
    goal-asks = condition-asks domain problem (in_condition problem.goal) problem.goal (λ m among. among) true [] 0 (after_axioms domain problem)

    goal-asked : (predicate : ℕ) → IsAsked domain problem (in_condition problem.goal) predicate → EndsAt top predicate
    goal-asked = asked-top (in_condition problem.goal) (all-right (is_known_mention domain problem) (flat_map in_init problem.init) (in_condition problem.goal) (known_in_problem domain problem none))

    placed-parts : Placed (after_axioms domain problem) ((goal_parts domain problem).fresh ++ last_fresh domain problem (goal_parts domain problem).items)
    placed-parts = subst (Placed (after_axioms domain problem)) (goal-last domain problem (goal_parts domain problem).items) placed-goal

    parts-end : EndIn (after_axioms domain problem) (goal_parts domain problem).fresh
    parts-end =
        fresh-ends (in_condition problem.goal) top goal-asked (goal_parts domain problem).fresh (after_axioms domain problem) _ refl
        (numbered-left PlacedAt (after_axioms domain problem) (goal_parts domain problem).fresh (last_fresh domain problem (goal_parts domain problem).items) placed-parts) goal-asks.fresh

    -- the goal's own atom asks for what the goal asks for, and for new predicates before it
    atom-end : PlacedAt (after_axioms domain problem + goal-size) (goal_fresh domain problem) → EndsAt (suc (top + goal-size)) (base + (after_axioms domain problem + goal-size))
    atom-end placed row among is positive asked places inside =
        let part = placed row among is in
        by (goal-asks.items part.0 part.1 (Holds positive asked places) (subst (λ (ls : List Literal). Among (Holds positive asked places) ls) part.2 inside))
      where
        by : IsAsked domain problem (in_condition problem.goal) asked ⊎ ((base + after_axioms domain problem ≤ asked) × (asked < base + (after_axioms domain problem + goal-size))) → EndsAt (top + goal-size) asked
        by (inl is_asked) = ends-more top (top + goal-size) asked (omega arith) (goal-asked asked is_asked)
        by (inr new) = parts-end asked new.0 new.1

    abbrev LastEnd : List Fresh → Type 0
    LastEnd last = Placed (after_axioms domain problem + goal-size) last → (q : ℕ) → base + (after_axioms domain problem + goal-size) ≤ q → q < base + (after_axioms domain problem + goal-size + length last) → EndsAt (suc (top + goal-size)) q

    none-last : LastEnd []
    none-last placed q least below = absurd (omega (arith, least, below))

    one-last : LastEnd (goal_fresh domain problem ∷ [])
    one-last placed q least below =
        let same : base + (after_axioms domain problem + goal-size) ≡ q = omega (arith, least, below) in
        subst (EndsAt (suc (top + goal-size))) same (atom-end placed.0)

    some-last : (b : Bool) → LastEnd (if b then [] else goal_fresh domain problem ∷ [])
    some-last true = none-last
    some-last false = one-last

    last-end : (items : List Part) → LastEnd (last_fresh domain problem items)
    last-end [] = one-last
    last-end (part ∷ []) = some-last (length part.variables == 0)
    last-end (part ∷ other ∷ more) = one-last

    abbrev limit : ℕ
    limit = top + length (all_fresh domain problem)

    sizes : length (all_fresh domain problem) ≡ length (made_schemas domain problem).fresh + (length (made_axioms domain problem).fresh + length (made_goal domain problem).fresh)
    sizes =
        length-append (made_schemas domain problem).fresh ((made_axioms domain problem).fresh ++ (made_goal domain problem).fresh)
        ∙ ap (λ n. length (made_schemas domain problem).fresh + n) (length-append (made_axioms domain problem).fresh (made_goal domain problem).fresh)

    goal-sizes : length (made_goal domain problem).fresh ≡ goal-size + length (last_fresh domain problem (goal_parts domain problem).items)
    goal-sizes = ap (λ (l : List Fresh). length l) (goal-last domain problem (goal_parts domain problem).items) ∙ length-append (goal_parts domain problem).fresh (last_fresh domain problem (goal_parts domain problem).items)

    goal-end : (q : ℕ) → base + after_axioms domain problem ≤ q → q < base + (after_axioms domain problem + length (made_goal domain problem).fresh) → EndsAt (suc limit) q
    goal-end q least below =
        elim (cases_lt q (base + (after_axioms domain problem + goal-size))) [
          | inl early ↦ ends-more (top + goal-size) (suc limit) q (omega (arith, sizes, goal-sizes)) (parts-end q least early)
          | inr past ↦
              ends-more (suc (top + goal-size)) (suc limit) q (omega (arith, sizes, goal-sizes))
              (last-end (goal_parts domain problem).items (numbered-right PlacedAt (after_axioms domain problem) (goal_parts domain problem).fresh (last_fresh domain problem (goal_parts domain problem).items) placed-parts) q (omega (arith, past)) (omega (arith, below, goal-sizes)))
        ]

    new-ends : (q : ℕ) → base + 0 ≤ q → q < base + (0 + length (all_fresh domain problem)) → EndsAt (suc limit) q
    new-ends q least below =
        elim (cases_lt q (base + (0 + length (made_schemas domain problem).fresh))) [
          | inl early ↦ ends-more (top + length (made_schemas domain problem).fresh) (suc limit) q (omega (arith, sizes)) (schemas-end q least early)
          | inr past ↦
              elim (cases_lt q (base + (after_schemas domain problem + length (made_axioms domain problem).fresh))) [
                | inl early ↦ ends-more (top + length (made_axioms domain problem).fresh) (suc limit) q (omega (arith, sizes)) (axioms-end q (omega (arith, past)) early)
                | inr later ↦ goal-end q (omega (arith, later)) (omega (arith, below, sizes))
              ]
        ]

    row-ends : (row : AxiomRow) → Among row task.axioms → EndsAt (suc limit) row.predicate
    row-ends row among = by (among_which row (made_axioms domain problem).items (fresh_rows domain problem 0 (all_fresh domain problem)) among)
      where
        by : Among row (made_axioms domain problem).items ⊎ Among row (fresh_rows domain problem 0 (all_fresh domain problem)) → EndsAt (suc limit) row.predicate
        by (inl old) =
            let turn = origin (axiom_rows domain problem) PlacedAt domain.axioms (after_schemas domain problem) most (omega arith) placed-axioms row old in
            let from = map_source (axiom_row domain problem (predicate_number domain turn.source.head.name.name) (ranges_of domain problem turn.source.head.variables)) (body_parts domain problem turn.source turn.next).items row turn.inside in
            subst (EndsAt (suc limit)) (ap (λ (r : AxiomRow). r.predicate) from.gives)
            (ends-more top (suc limit) (predicate_number domain turn.source.head.name.name) (omega arith) (name-ends turn.source.head.name.name (head-declared domain problem turn.source (rule_sound domain problem none turn.source turn.among))))
        by (inr new) = let range = fresh-range 0 (all_fresh domain problem) row new in new-ends row.predicate range.0 range.1

    -- ---- ranks

    abbrev literal-rank : (ℕ → ℕ) → Literal → ℕ
    literal-rank rank (Holds positive asked places) = suc (rank asked)
    literal-rank rank (Equal positive left right) = 0

    abbrev row-rank : (ℕ → ℕ) → ℕ → AxiomRow → ℕ
    row-rank rank predicate row = if nat_eq row.predicate predicate then greatest (literal-rank rank) row.condition else 0

    abbrev depth : ℕ → ℕ → ℕ
    depth zero predicate = 0
    depth (suc n) predicate = greatest (row-rank (depth n) predicate) task.axioms

    same-row : (n : ℕ) (predicate : ℕ) → ((asked : ℕ) → EndsAt n asked → depth n asked ≡ depth (suc n) asked) → EndsAt (suc n) predicate → (row : AxiomRow) → Among row task.axioms →
        row-rank (depth n) predicate row ≡ row-rank (depth (suc n)) predicate row
    same-row n predicate rest ends row among = by (nat_eq row.predicate predicate) refl
      where
        literal : (is : row.predicate ≡ predicate) (l : Literal) → Among l row.condition → literal-rank (depth n) l ≡ literal-rank (depth (suc n)) l
        literal is (Holds positive asked places) inside = ap (λ (m : ℕ). suc m) (rest asked (ends row among is positive asked places inside))
        literal is (Equal positive left right) inside = refl

        by : (b : Bool) → nat_eq row.predicate predicate ≡ b → (if b then greatest (literal-rank (depth n)) row.condition else 0) ≡ (if b then greatest (literal-rank (depth (suc n))) row.condition else 0)
        by true e = same-greatest (literal-rank (depth n)) (literal-rank (depth (suc n))) row.condition (literal (eqb-true row.predicate predicate e))
        by false e = refl

    stable : (n predicate : ℕ) → EndsAt n predicate → depth n predicate ≡ depth (suc n) predicate
    stable zero predicate ends = absurd ends
    stable (suc n) predicate ends = same-greatest (row-rank (depth n) predicate) (row-rank (depth (suc n)) predicate) task.axioms (λ row among. same-row n predicate (λ asked ends. stable n asked ends) ends row among)

    abbrev pub rank : ℕ → ℕ
    rank = depth (suc limit)

    -- an axiom's predicate has a greater rank than each predicate that its condition asks for
    pub rank-falls : (row : AxiomRow) → Among row task.axioms → (positive : Bool) (asked : ℕ) (places : List Place) → Among (Holds positive asked places) row.condition → rank asked < rank row.predicate
    rank-falls row among positive asked places inside =
        let whole = at-most (row-rank (depth limit) row.predicate) row task.axioms among in
        let here : row-rank (depth limit) row.predicate row ≡ greatest (literal-rank (depth limit)) row.condition = ap (λ b. if b then greatest (literal-rank (depth limit)) row.condition else 0) (eq-eqb row.predicate row.predicate refl) in
        let literal = at-most (literal-rank (depth limit)) (Holds positive asked places) row.condition inside in
        let same = stable limit asked (row-ends row among row among refl positive asked places inside) in
        below (depth limit asked) (depth (suc limit) asked) (greatest (literal-rank (depth limit)) row.condition) (row-rank (depth limit) row.predicate row) (rank row.predicate) same literal here whole
      where
        below : (a a' b c d : ℕ) → a ≡ a' → suc a ≤ b → c ≡ b → c ≤ d → a' < d
        below a a' b c d same literal here whole = omega (arith, same, literal, here, whole)
