-- What an effect writes is a declared basic atom of declared objects, in the files and in the normal task.
use Rattle.std.proofs.Common.{◌≡◌, ℕ, ◌+◌, Bool, true, false, not, ◌&&◌, List, [], ◌∷◌, ◌++◌, map, length, refl, sym, ap, ◌∙◌, subst, arith, inl, inr, ◌⊎◌}
use Rattle.std.specs.List.{list_all, list_any, flat_map}
use Rattle.std.proofs.lemmas.Bool.{and_parts, and_from, or_cases, false≢true, not-true}
use Rattle.std.proofs.lemmas.List.Folds.{list_any-append}
use Rattle.pddl_lexer.specs.declared.position.At.{At}
use Rattle.pddl_syntax.specs.declared.types.Atom.{Atom}
use Rattle.pddl_syntax.specs.declared.types.Domain.{Domain}
use Rattle.pddl_syntax.specs.declared.types.Effect.{Effect, Effect-F}
use Rattle.pddl_syntax.specs.declared.types.Problem.{Problem}
use Rattle.pddl_syntax.specs.declared.types.Named.{Named}
use Rattle.pddl_syntax.specs.declared.types.Typed.{Typed}
use Rattle.pddl_syntax.specs.Words.{Name}
use Rattle.pddl_syntax.specs.Objects as pddl
use Rattle.pddl_syntax.specs.Holds as holds
use Rattle.pddl_syntax.specs.Step as step
use Rattle.pddl_syntax.proofs.ConditionCases.{Each}
use Rattle.pddl_syntax.proofs.SameAtoms.{same_atom}
use Rattle.fault_positions.specs.Mentions.{Mention, Written, written_predicates, in_condition, in_effect, effect_step}
use Rattle.fault_positions.specs.Scopes as scopes
use Rattle.type_checker.proofs.NoFaults.{left_empty, right_empty}
use Rattle.lists.proofs.Items.{Among, passing}
use Rattle.normal_task.specs.declared.task.GroundAtom.{GroundAtom}
use Rattle.normal_task.specs.Numbers.{predicate_number, ranges_of}
use Rattle.normal_task.specs.Meaning as task
use Rattle.normal_task.specs.Meaning.{atom_of, State, Binding, objects_at, choices, answers, are_met}
use Rattle.normal_task.specs.Parts.{Scope, scope_inside, Part, Made, in_turn, all_of}
use Rattle.normal_task.specs.Normalised.{Rows, effect_row, written, row_step, rows_of, numbered_atom}
use Rattle.normal_task.specs.Same.{is_known_atom}
use Rattle.normal_task.proofs.Anys.{any-map}
use Rattle.normal_task.proofs.Alls.{all-left, all-right}
use Rattle.normal_task.proofs.Mentioned.{is_known_mention, is_known_term, is_declared, AreKnown}
use Rattle.normal_task.proofs.Scopes.{length-append, length-map, longer, number, is_known, inside-stands}
use Rattle.normal_task.proofs.ConditionsMean.{choices-numbers, terms-objects, ShowsFull, named-choice-length}
use Rattle.normal_task.proofs.Bound.{in-inside, terms-bound}
use Rattle.normal_task.proofs.EffectsMean.{StandAll, with_variables-write}
use Rattle.type_checker.proofs.EffectFolds.{by_folds}
use Rattle.normal_task.proofs.StartsAndGoals.{same-task_atom}

module _ (domain : Domain) (problem : Problem) where
  -- the predicates that are written aren't derived
  abbrev pub is_basic_mention : Mention → Bool
  is_basic_mention mention = list_all (λ (name : Named). not (holds.is_derived domain name.name)) (written_predicates mention)

  abbrev pub AreBasic : List Mention → Type 0
  AreBasic mentions = list_all is_basic_mention mentions ≡ true

  -- a declared basic atom of declared objects
  pub record Basic (atom : holds.GroundAtom) : Type 0 where
    pub known : is_known_atom domain problem atom ≡ true
    pub basic : holds.is_derived domain atom.predicate ≡ false

  -- one whose numbers these are
  pub record Image (target : GroundAtom) : Type 0 where
    pub atom : holds.GroundAtom
    pub is_basic : Basic atom
    pub same : numbered_atom domain problem atom ≡ target

  ground-basic : (atom : Atom) → AreKnown domain problem (Written atom ∷ []) → AreBasic (Written atom ∷ []) → (names : List Name) (scope : Scope) (named : pddl.Binding) (binding : Binding) →
      scopes.unbound_terms names atom.terms ≡ [] → StandAll domain problem names scope named binding → Basic (holds.ground named atom)
  ground-basic atom mentioned basic names scope named binding unbound stand =
      let mention = (and_parts (is_known_mention domain problem (Written atom)) true mentioned).0 in
      let sides = and_parts (is_declared domain problem atom.predicate.name && true) (list_all (is_known_term domain problem) atom.terms) mention in
      let there = terms-objects domain problem scope named binding atom.terms sides.1 (λ name is. stand name (terms-bound names atom.terms unbound name is)) in
      let name = (and_parts (is_declared domain problem atom.predicate.name) true sides.0).0 in
      record {
        known = and_from (is_declared domain problem atom.predicate.name) (list_all (is_known domain problem) (map (holds.object_of named) atom.terms)) name there.1;
        basic = not-true (holds.is_derived domain atom.predicate.name) (and_parts (not (holds.is_derived domain atom.predicate.name)) true (and_parts (is_basic_mention (Written atom)) true basic).0).0;
      }

  module _ (full : holds.State) (numbered : State) (shows : ShowsFull domain problem full numbered) (adds : Bool) where
    -- both say of what they write that it is basic
    abbrev WritesBasic : Rows domain problem → (pddl.Binding → holds.State) → (scopes.Scope → List At) → List Mention → Type 0
    WritesBasic rows change unbound mentions =
        AreKnown domain problem mentions → AreBasic mentions → (names : List Name) (scope : Scope) (named : pddl.Binding) (binding : Binding) → unbound names ≡ [] → StandAll domain problem names scope named binding →
        (((atom : holds.GroundAtom) → change named atom ≡ true → Basic atom)
        × ((required : List (ℕ → ℕ → Made Part)) (next : ℕ) (target : GroundAtom) → task.writes numbered adds (rows required scope (length binding) next).items binding target ≡ true → Image target))

    abbrev change : Effect → pddl.Binding → holds.State
    change = step.writes domain problem full adds

    abbrev Shown : Effect → Type 0
    Shown effect = WritesBasic (rows_of domain problem effect) (change effect) (scopes.in_effect effect) (in_effect effect)

    atom-basic : (this : Bool) (atom : Atom) (test : Bool) → AreKnown domain problem (Written atom ∷ []) → AreBasic (Written atom ∷ []) → (names : List Name) (scope : Scope) (named : pddl.Binding) (binding : Binding) → scopes.unbound_terms names atom.terms ≡ [] → StandAll domain problem names scope named binding →
        (((other : holds.GroundAtom) → (test && holds.is_same_atom (holds.ground named atom) other) ≡ true → Basic other)
        × ((required : List (ℕ → ℕ → Made Part)) (next : ℕ) (target : GroundAtom) → task.writes numbered adds (written domain problem this atom required scope (length binding) next).items binding target ≡ true → Image target))
    atom-basic this atom test mentioned basic names scope named binding unbound stand = (
      λ other is.
          let same = (and_parts test (holds.is_same_atom (holds.ground named atom) other) is).1 in
          subst Basic (same_atom (holds.ground named atom) other same) (ground-basic atom mentioned basic names scope named binding unbound stand),
      λ required next target some.
          let parts = (all_of (length binding) (map (λ cut. cut (length binding)) required) next).items in
          let part = passing (λ part. task.row_writes numbered adds binding target (effect_row domain problem this atom scope part)) parts (sym (any-map (task.row_writes numbered adds binding target) (effect_row domain problem this atom scope) parts) ∙ some) in
          let row = effect_row domain problem this atom scope part.item in
          let chosen = passing (λ objects. task.is_on numbered target row (binding ++ objects)) (choices row.variables) (and_parts (answers adds row.adds) (list_any (λ objects. task.is_on numbered target row (binding ++ objects)) (choices row.variables)) part.passes).1 in
          let objects = objects_at (binding ++ chosen.item) row.places in
          let same = same-task_atom (atom_of row.predicate objects) target (and_parts (task.is_same_atom (atom_of row.predicate objects) target) (are_met numbered (binding ++ chosen.item) row.condition) chosen.passes).0 in
          let mention = (and_parts (is_known_mention domain problem (Written atom)) true mentioned).0 in
          let sides = and_parts (is_declared domain problem atom.predicate.name && true) (list_all (is_known_term domain problem) atom.terms) mention in
          let there = terms-objects domain problem scope named (binding ++ chosen.item) atom.terms sides.1 (λ name is. longer domain problem scope named binding chosen.item name (stand name (terms-bound names atom.terms unbound name is))) in
          record {
            atom = holds.ground named atom;
            is_basic = ground-basic atom mentioned basic names scope named binding unbound stand;
            same = ap (atom_of (predicate_number domain atom.predicate.name)) (sym there.0) ∙ same;
          },
    )

    members-basic : (members : List Effect) → Each Shown members → AreKnown domain problem (flat_map (λ mentions. mentions) (map in_effect members)) → AreBasic (flat_map (λ mentions. mentions) (map in_effect members)) →
        (names : List Name) (scope : Scope) (named : pddl.Binding) (binding : Binding) → flat_map (λ member. member names) (map scopes.in_effect members) ≡ [] → StandAll domain problem names scope named binding →
        (((atom : holds.GroundAtom) → list_any (λ member. member named atom) (map change members) ≡ true → Basic atom)
        × ((required : List (ℕ → ℕ → Made Part)) (next : ℕ) (target : GroundAtom) →
        task.writes numbered adds (in_turn (map (λ member. member required scope (length binding)) (map (rows_of domain problem) members)) next).items binding target ≡ true → Image target))
    members-basic [] each mentioned basic names scope named binding unbound stand = ((λ atom some. absurd (false≢true some)), λ required next target some. absurd (false≢true some))
    members-basic (member ∷ members) each mentioned basic names scope named binding unbound stand =
        let here =
        each.0 (all-left (is_known_mention domain problem) (in_effect member) (flat_map (λ mentions. mentions) (map in_effect members)) mentioned) (all-left is_basic_mention (in_effect member) (flat_map (λ mentions. mentions) (map in_effect members)) basic) names scope named binding
        (left_empty (scopes.in_effect member names) (flat_map (λ member. member names) (map scopes.in_effect members)) unbound) stand in
        let rest =
        members-basic members each.1 (all-right (is_known_mention domain problem) (in_effect member) (flat_map (λ mentions. mentions) (map in_effect members)) mentioned) (all-right is_basic_mention (in_effect member) (flat_map (λ mentions. mentions) (map in_effect members)) basic) names scope named binding
        (right_empty (scopes.in_effect member names) (flat_map (λ member. member names) (map scopes.in_effect members)) unbound) stand in (
          (λ atom some. either (or_cases (change member named atom) (list_any (λ member. member named atom) (map change members)) some) (here.0 atom) (rest.0 atom)),
          λ required next target some.
              let first = rows_of domain problem member required scope (length binding) next in
              let later = next + length first.fresh in
              let behind = in_turn (map (λ member. member required scope (length binding)) (map (rows_of domain problem) members)) later in
              either (or_cases (task.writes numbered adds first.items binding target) (task.writes numbered adds behind.items binding target) (sym (list_any-append (task.row_writes numbered adds binding target) first.items behind.items) ∙ some))
              (here.1 required next target) (rest.1 required later target),
        )
      where
        either : {X Y Z : Type 0} → X ⊎ Y → (X → Z) → (Y → Z) → Z
        either (inl x) f g = f x
        either (inr y) f g = g y

    forall-basic : (variables : List Typed) (inside : Effect) (at : At) → Shown inside →
        WritesBasic (row_step domain problem (Effect-F.Forall variables (rows_of domain problem inside) at)) (step.writes_step domain problem full adds (Effect-F.Forall variables (change inside) at))
        (scopes.effect_step (Effect-F.Forall variables (scopes.in_effect inside) at)) (effect_step (Effect-F.Forall variables (in_effect inside) at))
    forall-basic variables inside at held mentioned basic names scope named binding unbound stand = (
      (λ atom some.
          let found = passing (λ objects. change inside (pddl.bound variables objects named) atom) (pddl.choices domain problem variables) some in
          (inner found.item found.among).0 atom found.passes),
      λ required next target some.
          let rows = (rows_of domain problem inside required (scope_inside domain problem variables (length binding) scope) (length binding + length variables) next).items in
          let test : List Name → Bool = λ objects. task.writes numbered adds rows (binding ++ map (number domain problem) objects) target in
          let found =
          passing test (pddl.choices domain problem variables)
          (sym
          (with_variables-write domain problem full numbered shows adds binding target (ranges_of domain problem variables) rows
          ∙ ap (list_any (λ objects. task.writes numbered adds rows (binding ++ objects) target)) (choices-numbers domain problem variables)
          ∙ any-map (λ objects. task.writes numbered adds rows (binding ++ objects) target) (map (number domain problem)) (pddl.choices domain problem variables))
          ∙ some) in
          let long : length (binding ++ map (number domain problem) found.item) ≡ length binding + length variables =
          omega (arith, length-append binding (map (number domain problem) found.item), length-map (number domain problem) found.item, named-choice-length domain problem full numbered shows variables found.item found.among) in
          (inner found.item found.among).1 required next target
          (subst (λ (n : ℕ). task.writes numbered adds (rows_of domain problem inside required (scope_inside domain problem variables (length binding) scope) n next).items (binding ++ map (number domain problem) found.item) target ≡ true) (sym long) found.passes),
    )
      where
        inner : (objects : List Name) → Among objects (pddl.choices domain problem variables) →
            (((atom : holds.GroundAtom) → change inside (pddl.bound variables objects named) atom ≡ true → Basic atom)
            × ((required : List (ℕ → ℕ → Made Part)) (next : ℕ) (target : GroundAtom) →
            task.writes numbered adds (rows_of domain problem inside required (scope_inside domain problem variables (length binding) scope) (length (binding ++ map (number domain problem) objects)) next).items (binding ++ map (number domain problem) objects) target ≡ true → Image target))
        inner objects among =
            held (and_parts (true && true) _ mentioned).1 (and_parts true _ basic).1 (scopes.inside_of variables names) (scope_inside domain problem variables (length binding) scope) (pddl.bound variables objects named) (binding ++ map (number domain problem) objects) unbound
            (λ name inside_it. inside-stands domain problem variables objects (length binding) scope named binding name refl among (λ unlisted. stand name (in-inside variables names name inside_it unlisted)))

    -- what an effect writes is basic
    pub effect-basic : (effect : Effect) → Shown effect
    effect-basic = by_folds (Rows domain problem) (pddl.Binding → holds.State) (scopes.Scope → List At) (List Mention) (row_step domain problem) (step.writes_step domain problem full adds) scopes.effect_step effect_step WritesBasic record {
      at_nothing = λ at mentioned basic names scope named binding unbound stand. ((λ atom some. absurd (false≢true some)), λ required next target some. absurd (false≢true some));
      at_add = λ atom mentioned basic names scope named binding unbound stand. atom-basic true atom adds mentioned basic names scope named binding unbound stand;
      at_delete = λ atom mentioned basic names scope named binding unbound stand. atom-basic false atom (not adds) mentioned basic names scope named binding unbound stand;
      at_and = λ members at held mentioned basic names scope named binding unbound stand. members-basic members held mentioned basic names scope named binding unbound stand;
      at_when = λ condition inside at held mentioned basic names scope named binding unbound stand.
          let rest =
          held (all-right (is_known_mention domain problem) (in_condition condition) (in_effect inside) mentioned) (all-right is_basic_mention (in_condition condition) (in_effect inside) basic) names scope named binding
          (right_empty (scopes.in_condition condition names) (scopes.in_effect inside names) unbound) stand in
          ((λ atom some. rest.0 atom (and_parts (holds.holds domain problem full condition named) (change inside named atom) some).1), λ required next target some. rest.1 _ next target some);
      at_forall = forall-basic;
      at_increase = λ term cost at mentioned basic names scope named binding unbound stand. ((λ atom some. absurd (false≢true some)), λ required next target some. absurd (false≢true some));
    }
