-- What the parts of a condition and of its new predicates ask for: predicates that the condition asks for, and new ones of the condition's own that are numbered behind.
use Rattle.std.proofs.Common.{◌≡◌, ℕ, suc, ◌+◌, ◌<◌, ◌≤◌, Bool, true, false, List, [], ◌∷◌, ◌++◌, map, length, refl, sym, subst, arith, inl, inr, ◌⊎◌}
use Rattle.std.specs.List.{flat_map}
use Rattle.pddl_syntax.specs.declared.types.Condition.{Condition}
use Rattle.pddl_syntax.specs.declared.types.Domain.{Domain}
use Rattle.pddl_syntax.specs.declared.types.Effect.{Effect}
use Rattle.pddl_syntax.specs.declared.types.Named.{Named}
use Rattle.pddl_syntax.specs.declared.types.Problem.{Problem}
use Rattle.pddl_syntax.specs.declared.types.Typed.{Typed}
use Rattle.pddl_syntax.specs.Words.{Name}
use Rattle.pddl_syntax.proofs.ConditionCases.{Each}
use Rattle.fault_positions.specs.Mentions.{Mention, Asked, asked_predicates, in_condition, in_effect, effect_step}
use Rattle.lists.proofs.Items.{Among, among_left, among_right, among_which, map_source, flat_map_piece}
use Rattle.normal_task.specs.declared.task.Literal.{Literal}
use Rattle.normal_task.specs.declared.task.Literal.TheVariants.{Holds, Equal}
use Rattle.normal_task.specs.Numbers.{predicate_number, ranges_of}
use Rattle.normal_task.specs.Parts.{Slot, Scope, renumbered, Part, Fresh, Made, in_turn, all_of, moved, joined, paired, with_variables, Known, place_of, fresh_number, free_slots, exists_inside, none_inside, known, parts}
use Rattle.normal_task.specs.Normalised.{Rows, row_step, rows_of}
use Rattle.normal_task.proofs.NumberedFresh.{Numbered, numbered-both}
use Rattle.normal_task.proofs.Scopes.{length-append}
use Rattle.normal_task.proofs.CutCases.{Laws, cuts-shown}
use Rattle.type_checker.proofs.EffectFolds as four

module _ (domain : Domain) (problem : Problem) (all : List Mention) where
  abbrev pub base : ℕ
  base = length domain.predicates

  -- the predicate is asked for
  pub record IsAsked (predicate : ℕ) : Type 0 where
    pub mention : Mention
    pub among : Among mention all
    pub named : Named
    pub inside : Among named (asked_predicates mention)
    pub same : predicate_number domain named.name ≡ predicate

  -- the literal asks for such a predicate, or for a new one from the one number and before the other
  abbrev pub Asks : ℕ → ℕ → Literal → Type 0
  Asks low high (Holds positive predicate places) = IsAsked predicate ⊎ ((base + low ≤ predicate) × (predicate < base + high))
  Asks low high (Equal positive left right) = Unit {0}

  wider : (low low' high high' : ℕ) → low' ≤ low → high ≤ high' → (l : Literal) → Asks low high l → Asks low' high' l
  wider low low' high high' less more (Holds positive predicate places) (inl asked) = inl asked
  wider low low' high high' less more (Holds positive predicate places) (inr new) = inr (omega (arith, new.0, less), omega (arith, new.1, more))
  wider low low' high high' less more (Equal positive left right) is = tt

  abbrev pub PartAsks : ℕ → ℕ → Part → Type 0
  PartAsks low high part = (l : Literal) → Among l part.literals → Asks low high l

  abbrev pub PartsAsk : ℕ → ℕ → List Part → Type 0
  PartsAsk low high parts = (part : Part) → Among part parts → PartAsks low high part

  abbrev AsksAt : ℕ → ℕ → Fresh → Type 0
  AsksAt high low fresh = PartsAsk (suc low) high fresh.parts

  abbrev pub FreshAsks : ℕ → ℕ → List Fresh → Type 0
  FreshAsks low high = Numbered (AsksAt high) low

  parts-wider : (low low' high high' : ℕ) → low' ≤ low → high ≤ high' → (parts : List Part) → PartsAsk low high parts → PartsAsk low' high' parts
  parts-wider low low' high high' less more parts ask part among l inside = wider low low' high high' less more l (ask part among l inside)

  fresh-higher : (low high high' : ℕ) → high ≤ high' → (fresh : List Fresh) → FreshAsks low high fresh → FreshAsks low high' fresh
  fresh-higher low high high' more [] ask = tt
  fresh-higher low high high' more (first ∷ fresh) ask = (parts-wider (suc low) (suc low) high high' (omega arith) more first.parts ask.0, fresh-higher (suc low) high high' more fresh ask.1)

  -- ---- what is made

  pub record MadeAsks (next : ℕ) (made : Made Part) : Type 0 where
    pub items : PartsAsk next (next + length made.fresh) made.items
    pub fresh : FreshAsks next (next + length made.fresh) made.fresh

  abbrev pub AsksFrom : (ℕ → Made Part) → Type 0
  AsksFrom make = (next : ℕ) → MadeAsks next (make next)

  fresh-two : (next : ℕ) (f g : List Fresh) → FreshAsks next (next + length f) f → FreshAsks (next + length f) (next + length f + length g) g → FreshAsks next (next + length (f ++ g)) (f ++ g)
  fresh-two next f g one other =
      let size = length-append f g in
      numbered-both (AsksAt (next + length (f ++ g))) next f g (fresh-higher next (next + length f) (next + length (f ++ g)) (omega (arith, size)) f one)
      (fresh-higher (next + length f) (next + length f + length g) (next + length (f ++ g)) (omega (arith, size)) g other)

  asks-moved : (low high around by : ℕ) (l : Literal) → Asks low high l → Asks low high (moved around by l)
  asks-moved low high around by (Holds positive predicate places) asks = asks
  asks-moved low high around by (Equal positive left right) asks = tt

  two-parts : (next : ℕ) (xs ys : List Part) (f g : List Fresh) → PartsAsk next (next + length f) xs → PartsAsk (next + length f) (next + length f + length g) ys → PartsAsk next (next + length (f ++ g)) (xs ++ ys)
  two-parts next xs ys f g one other part among = by (among_which part xs ys among)
    where
      by : Among part xs ⊎ Among part ys → PartAsks next (next + length (f ++ g)) part
      by (inl here) = parts-wider next next (next + length f) (next + length (f ++ g)) (omega arith) (omega (arith, length-append f g)) xs one part here
      by (inr there) = parts-wider (next + length f) next (next + length f + length g) (next + length (f ++ g)) (omega arith) (omega (arith, length-append f g)) ys other part there

  joined-asks : (low high around : ℕ) (first second : Part) → PartAsks low high first → PartAsks low high second → PartAsks low high (joined around first second)
  joined-asks low high around first second one other l among = by (among_which l first.literals (map (moved around (length first.variables)) second.literals) among)
    where
      by : Among l first.literals ⊎ Among l (map (moved around (length first.variables)) second.literals) → Asks low high l
      by (inl here) = one l here
      by (inr there) =
          let from = map_source (moved around (length first.variables)) second.literals l there in
          subst (Asks low high) from.gives (asks-moved low high around (length first.variables) from.source (other from.source from.among))

  pair-parts : (next around : ℕ) (xs ys : List Part) (f g : List Fresh) → PartsAsk next (next + length f) xs → PartsAsk (next + length f) (next + length f + length g) ys → PartsAsk next (next + length (f ++ g)) (paired around xs ys)
  pair-parts next around xs ys f g one other part among =
      let piece = flat_map_piece (λ first. map (joined around first) ys) xs part among in
      let from = map_source (joined around piece.source) ys part piece.inside in
      subst (PartAsks next (next + length (f ++ g))) from.gives
      (joined-asks next (next + length (f ++ g)) around piece.source from.source
      (parts-wider next next (next + length f) (next + length (f ++ g)) (omega arith) (omega (arith, length-append f g)) xs one piece.source piece.among)
      (parts-wider (next + length f) next (next + length f + length g) (next + length (f ++ g)) (omega arith) (omega (arith, length-append f g)) ys other from.source from.among))

  no-part : (low high : ℕ) → PartsAsk low high []
  no-part low high part among = absurd among

  empty-part : (low high : ℕ) → PartsAsk low high (record { variables = []; literals = [] } ∷ [])
  empty-part low high part (inl here) l among = absurd (subst (λ (p : Part). Among l p.literals) (sym here) among)
  empty-part low high part (inr none) l among = absurd none

  one-part : (low high : ℕ) (literal : Literal) → Asks low high literal → PartsAsk low high (record { variables = []; literals = literal ∷ [] } ∷ [])
  one-part low high literal asks part (inr none) l among = absurd none
  one-part low high literal asks part (inl here) l among = by (subst (λ (p : Part). Among l p.literals) (sym here) among)
    where
      by : Among l (literal ∷ []) → Asks low high l
      by (inl same) = subst (Asks low high) same asks
      by (inr none) = absurd none

  pub in_turn-asks : (makes : List (ℕ → Made Part)) → Each AsksFrom makes → AsksFrom (in_turn makes)
  in_turn-asks [] each next = record { items = no-part next (next + length {A = Fresh} []); fresh = tt }
  in_turn-asks (first ∷ more) each next =
      let one = each.0 next in
      let later = next + length (first next).fresh in
      let rest = in_turn-asks more each.1 later in
      record {
        items = two-parts next (first next).items (in_turn more later).items (first next).fresh (in_turn more later).fresh one.items rest.items;
        fresh = fresh-two next (first next).fresh (in_turn more later).fresh one.fresh rest.fresh;
      }

  pub all_of-asks : (around : ℕ) (makes : List (ℕ → Made Part)) → Each AsksFrom makes → AsksFrom (all_of around makes)
  all_of-asks around [] each next = record { items = empty-part next (next + length {A = Fresh} []); fresh = tt }
  all_of-asks around (first ∷ more) each next =
      let one = each.0 next in
      let later = next + length (first next).fresh in
      let rest = all_of-asks around more each.1 later in
      record {
        items = pair-parts next around (first next).items (all_of around more later).items (first next).fresh (all_of around more later).fresh one.items rest.items;
        fresh = fresh-two next (first next).fresh (all_of around more later).fresh one.fresh rest.fresh;
      }

  -- ---- conditions

  exists-asks : (variables : List Typed) (inside : Known) (positive : Bool) (scope : Scope) (around : ℕ) → ((scope : Scope) (around : ℕ) → AsksFrom (inside.cut positive scope around)) →
      AsksFrom (exists_inside domain problem variables inside positive scope around)
  exists-asks variables inside positive scope around held next =
      let inner = held _ _ next in
      record {
        items = λ part among l within.
            let from = map_source (with_variables (ranges_of domain problem variables)) _ part among in
            inner.items from.source from.among l (subst (λ (p : Part). Among l p.literals) (sym from.gives) within);
        fresh = inner.fresh;
      }

  none-asks : (variables : List Typed) (inside : Known) (positive : Bool) (scope : Scope) (around : ℕ) → ((scope : Scope) (around : ℕ) → AsksFrom (inside.cut positive scope around)) →
      AsksFrom (none_inside domain problem variables inside positive scope around)
  none-asks variables inside positive scope around held next =
      let arguments = free_slots domain problem variables inside scope in
      let made = exists_inside domain problem variables inside positive (renumbered arguments 0 []) (length arguments) (suc next) in
      let body = exists-asks variables inside positive (renumbered arguments 0 []) (length arguments) held (suc next) in
      let high = next + suc (length made.fresh) in
      record {
        items = one-part next high (Holds false (fresh_number domain problem next) (map (λ (slot : Slot). _) arguments)) (inr (omega arith, omega arith));
        fresh = (
          parts-wider (suc next) (suc next) (suc next + length made.fresh) high (omega arith) (omega arith) made.items body.items,
          fresh-higher (suc next) (suc next + length made.fresh) high (omega arith) made.fresh body.fresh,
        );
      }

  abbrev AreAmong : List Mention → Type 0
  AreAmong mentions = (m : Mention) → Among m mentions → Among m all

  abbrev Anywhere : (Name → Bool) → Scope → ℕ → Type 0
  Anywhere is_free scope around = Unit {0}

  abbrev Shown : ℕ → ℕ → Made Part → Type 0
  Shown around = MadeAsks

  laws : Laws domain problem AreAmong Anywhere Shown
  laws = record {
    told_left = λ one other sub m among. sub m (among_left m one other among);
    told_right = λ one other sub m among. sub m (among_right m one other among);
    within_left = λ one other scope around within. tt;
    within_right = λ one other scope around within. tt;
    at_atom = λ atom sub positive scope around within next.
        record {
          items = one-part next (next + length {A = Fresh} []) (Holds positive (predicate_number domain atom.predicate.name) (map (place_of domain problem scope) atom.terms))
              (inl (record { mention = Asked atom; among = sub (Asked atom) (inl refl); named = atom.predicate; inside = inl refl; same = refl }));
          fresh = tt;
        };
    at_equal = λ left right at sub positive scope around within next.
        record { items = one-part next (next + length {A = Fresh} []) (Equal positive (place_of domain problem scope left) (place_of domain problem scope right)) tt; fresh = tt };
    in_turn_shown = λ around. in_turn-asks;
    all_of_shown = all_of-asks;
    exists_shown = λ variables inside positive scope around held within. exists-asks variables inside positive scope around (λ scope around. held scope around tt);
    none_shown = λ variables inside positive scope around held within. none-asks variables inside positive scope around (λ scope around. held scope around tt);
  }

  pub condition-asks : (condition : Condition) → AreAmong (in_condition condition) → (positive : Bool) (scope : Scope) (around : ℕ) → AsksFrom ((known domain problem condition).cut positive scope around)
  condition-asks condition sub positive scope around = cuts-shown domain problem AreAmong Anywhere Shown laws condition sub positive scope around tt

  -- ---- effects

  abbrev RequiredAsks : List (ℕ → ℕ → Made Part) → Type 0
  RequiredAsks required = Each (λ (cut : ℕ → ℕ → Made Part). (around : ℕ) → AsksFrom (cut around)) required

  asks-here : (around : ℕ) (required : List (ℕ → ℕ → Made Part)) → RequiredAsks required → Each AsksFrom (map (λ cut. cut around) required)
  asks-here around [] ask = tt
  asks-here around (cut ∷ required) ask = (ask.0 around, asks-here around required ask.1)

  asks-also : (required : List (ℕ → ℕ → Made Part)) (cut : ℕ → ℕ → Made Part) → RequiredAsks required → ((around : ℕ) → AsksFrom (cut around)) → RequiredAsks (required ++ cut ∷ [])
  asks-also [] cut ask also = (also, tt)
  asks-also (first ∷ required) cut ask also = (ask.0, asks-also required cut ask.1 also)

  abbrev EffectAsks : Rows domain problem → Unit {0} → Unit {0} → List Mention → Type 0
  EffectAsks rows unused unused' mentions =
      AreAmong mentions → (required : List (ℕ → ℕ → Made Part)) → RequiredAsks required → (scope : Scope) (around next : ℕ) → FreshAsks next (next + length (rows required scope around next).fresh) (rows required scope around next).fresh

  abbrev pub EffectOf : Effect → Type 0
  EffectOf effect = EffectAsks (rows_of domain problem effect) tt tt (in_effect effect)

  effects-ask : (members : List Effect) → Each EffectOf members → AreAmong (flat_map (λ mentions. mentions) (map in_effect members)) → (required : List (ℕ → ℕ → Made Part)) → RequiredAsks required → (scope : Scope) (around next : ℕ) →
      FreshAsks next (next + length (in_turn (map (λ member. member required scope around) (map (rows_of domain problem) members)) next).fresh) (in_turn (map (λ member. member required scope around) (map (rows_of domain problem) members)) next).fresh
  effects-ask [] each sub required ask scope around next = tt
  effects-ask (member ∷ members) each sub required ask scope around next =
      let first = rows_of domain problem member required scope around next in
      fresh-two next first.fresh (in_turn (map (λ member. member required scope around) (map (rows_of domain problem) members)) (next + length first.fresh)).fresh
      (each.0 (λ m among. sub m (among_left m (in_effect member) (flat_map (λ mentions. mentions) (map in_effect members)) among)) required ask scope around next)
      (effects-ask members each.1 (λ m among. sub m (among_right m (in_effect member) (flat_map (λ mentions. mentions) (map in_effect members)) among)) required ask scope around (next + length first.fresh))

  pub effect-asks : (effect : Effect) → EffectOf effect
  effect-asks = four.by_folds (Rows domain problem) (Unit {0}) (Unit {0}) (List Mention) (row_step domain problem) (λ layer. tt) (λ layer. tt) effect_step EffectAsks record {
    at_nothing = λ at sub required ask scope around next. tt;
    at_add = λ atom sub required ask scope around next. (all_of-asks around (map (λ cut. cut around) required) (asks-here around required ask) next).fresh;
    at_delete = λ atom sub required ask scope around next. (all_of-asks around (map (λ cut. cut around) required) (asks-here around required ask) next).fresh;
    at_and = λ members at held sub required ask scope around next. effects-ask members held sub required ask scope around next;
    at_when = λ condition inside at held sub required ask scope around next.
        held (λ m among. sub m (among_right m (in_condition condition) (in_effect inside) among)) (required ++ (λ around. parts domain problem condition true scope around) ∷ [])
        (asks-also required (λ around. parts domain problem condition true scope around) ask (λ around. condition-asks condition (λ m among. sub m (among_left m (in_condition condition) (in_effect inside) among)) true scope around)) scope around next;
    at_forall = λ variables inside at held sub required ask scope around next. held (λ m among. sub m (inr among)) required ask _ _ next;
    at_increase = λ term cost at sub required ask scope around next. tt;
  }
