-- An effect adds and deletes in the files what its rows add and delete in the normal task.
use Rattle.std.proofs.Common.{append-nil, ◌≡◌, ℕ, ◌+◌, ◌≤◌, Bool, true, false, not, ◌&&◌, ◌||◌, List, [], ◌∷◌, ◌++◌, map, length, refl, sym, ap, ◌∙◌, subst, arith}
use Rattle.std.specs.Prelude.{if◌then◌else◌}
use Rattle.std.specs.List.{list_all, list_any, flat_map, AllZip}
use Rattle.std.proofs.lemmas.Bool.{and_parts, and_from}
use Rattle.std.proofs.lemmas.List.Folds.{list_any-append, list_all-append}
use Rattle.std.proofs.Math.Bool.{and-false, and-true, and_assoc}
use Rattle.pddl_lexer.specs.declared.position.At.{At}
use Rattle.pddl_syntax.specs.declared.types.Atom.{Atom}
use Rattle.pddl_syntax.specs.declared.types.Condition.{Condition}
use Rattle.pddl_syntax.specs.declared.types.Domain.{Domain}
use Rattle.pddl_syntax.specs.declared.types.Effect.{Effect, Effect-F}
use Rattle.pddl_syntax.specs.declared.types.Problem.{Problem}
use Rattle.pddl_syntax.specs.declared.types.Typed.{Typed}
use Rattle.pddl_syntax.specs.Words.{Name}
use Rattle.pddl_syntax.specs.Objects as pddl
use Rattle.pddl_syntax.specs.Holds as holds
use Rattle.pddl_syntax.specs.Step as step
use Rattle.pddl_syntax.proofs.ConditionCases.{Each}
use Rattle.fault_positions.specs.Mentions.{Mention, Written, in_condition, in_effect, effect_step}
use Rattle.fault_positions.specs.Scopes as scopes
use Rattle.type_checker.proofs.NoFaults.{left_empty, right_empty}
use Rattle.lists.proofs.Items.{same_any}
use Rattle.normal_task.specs.declared.task.EffectRow.{EffectRow}
use Rattle.normal_task.specs.declared.task.GroundAtom.{GroundAtom}
use Rattle.normal_task.specs.Numbers.{head_names, predicate_number, ranges_of}
use Rattle.normal_task.specs.Meaning as task
use Rattle.normal_task.specs.Meaning.{atom_of, State, Binding, objects_at, choices, answers, are_met}
use Rattle.normal_task.specs.Parts.{Scope, scope_inside, Part, Made, in_turn, all_of, place_of, known, parts}
use Rattle.normal_task.specs.Normalised.{Rows, effect_row, written, row_with_variables, row_step, rows_of, numbered_atom}
use Rattle.normal_task.specs.Same.{is_known_atom}
use Rattle.normal_task.proofs.Anys.{any-map, any-same, any-swap, any-and_left}
use Rattle.normal_task.proofs.Alls.{all-left, all-right}
use Rattle.normal_task.proofs.Chosen.{any-choices_append}
use Rattle.normal_task.proofs.Mentioned.{is_known_mention, is_known_term, is_declared, AreKnown}
use Rattle.normal_task.proofs.Scopes.{append-assoc, length-append, length-map, Stands, longer, number, is_known, inside-stands}
use Rattle.normal_task.proofs.Fits.{FitsFrom, InScopes, condition-fits}
use Rattle.normal_task.proofs.PartsMean.{part_met, GivenAt, GivenIn, numbered-left, numbered-right, MeansFrom, EachMeans, all_of-means}
pub use Rattle.normal_task.proofs.ConditionsMean.{same-objects}
use Rattle.normal_task.proofs.ConditionsMean.{choices-numbers, terms-objects, ShowsFull, same-number, condition-means, named-choice-length}
use Rattle.normal_task.proofs.Bound.{is_in, in-inside, terms-bound, free-bound}
use Rattle.type_checker.proofs.EffectFolds.{by_folds}

and_or : (a b c : Bool) → ((a && b) || (a && c)) ≡ (a && (b || c))
and_or true b c = refl
and_or false b c = refl

exchange : (a b c : Bool) → (a && (b && c)) ≡ (c && (a && b))
exchange true true true = refl
exchange true true false = refl
exchange true false true = refl
exchange true false false = refl
exchange false b true = refl
exchange false b false = refl

answered : (this adds : Bool) → answers adds this ≡ (if this then adds else not adds)
answered true true = refl
answered true false = refl
answered false true = refl
answered false false = refl

module _ (domain : Domain) (problem : Problem) where
  abbrev pub declared : ℕ
  declared = length domain.predicates

  -- the rows of each member, in turn
  abbrev pub turns : List (ℕ → ℕ → Made Part) → Scope → ℕ → List Effect → List (ℕ → Made EffectRow)
  turns required scope around members = map (λ member. member required scope around) (map (rows_of domain problem) members)

  -- the names stand for variables in scope
  abbrev pub StandAll : List Name → Scope → pddl.Binding → Binding → Type 0
  StandAll names scope named binding = (name : Name) → is_in names name ≡ true → Stands domain problem scope named binding name

  -- numbered atoms are the same where the atoms are
  pub same-numbered : (a b : holds.GroundAtom) → is_known_atom domain problem a ≡ true → is_known_atom domain problem b ≡ true → task.is_same_atom (numbered_atom domain problem a) (numbered_atom domain problem b) ≡ holds.is_same_atom a b
  same-numbered a b known_a known_b =
      let one = and_parts (is_declared domain problem a.predicate) (list_all (is_known domain problem) a.objects) known_a in
      let other = and_parts (is_declared domain problem b.predicate) (list_all (is_known domain problem) b.objects) known_b in
      let names = same-number (head_names domain.predicates) a.predicate b.predicate one.0 other.0 in
      let objects = same-objects domain problem a.objects b.objects one.1 other.1 in
      cc (names, objects)

  -- ---- what is required around an effect

  -- each condition fits, however many variables are around it from here on
  abbrev pub RequiredFits : ℕ → List (ℕ → ℕ → Made Part) → Type 0
  RequiredFits around required = Each (λ (cut : ℕ → ℕ → Made Part). (more : ℕ) → around ≤ more → FitsFrom declared more (cut more)) required

  pub fits-wider : (around more : ℕ) → around ≤ more → (required : List (ℕ → ℕ → Made Part)) → RequiredFits around required → RequiredFits more required
  fits-wider around more fewer [] fit = tt
  fits-wider around more fewer (cut ∷ required) fit = (λ most least. fit.0 most (omega (arith, fewer, least)), fits-wider around more fewer required fit.1)

  pub fits-here : (around : ℕ) (required : List (ℕ → ℕ → Made Part)) → RequiredFits around required → Each (FitsFrom declared around) (map (λ cut. cut around) required)
  fits-here around [] fit = tt
  fits-here around (cut ∷ required) fit = (fit.0 around (omega arith), fits-here around required fit.1)

  pub fits-also : (around : ℕ) (required : List (ℕ → ℕ → Made Part)) (cut : ℕ → ℕ → Made Part) → RequiredFits around required → ((more : ℕ) → around ≤ more → FitsFrom declared more (cut more)) → RequiredFits around (required ++ cut ∷ [])
  fits-also around [] cut fit also = (also, tt)
  fits-also around (first ∷ required) cut fit also = (fit.0, fits-also around required cut fit.1 also)

  module _ (full : holds.State) (numbered : State) (shows : ShowsFull domain problem full numbered) where
    abbrev CutMeans : Binding → (ℕ → ℕ → Made Part) → Bool → Type 0
    CutMeans binding cut truth = (more : Binding) → MeansFrom declared numbered (binding ++ more) (cut (length (binding ++ more))) truth

    -- each condition means so much, whatever stands behind the binding
    abbrev pub Required : Binding → List (ℕ → ℕ → Made Part) → List Bool → Type 0
    Required binding = AllZip (CutMeans binding)

    required-longer : (binding behind : Binding) (required : List (ℕ → ℕ → Made Part)) (truths : List Bool) → Required binding required truths → Required (binding ++ behind) required truths
    required-longer binding behind [] [] is = tt
    required-longer binding behind [] (truth ∷ truths) is = is
    required-longer binding behind (cut ∷ required) [] is = is
    required-longer binding behind (cut ∷ required) (truth ∷ truths) is =
        (λ more. subst (λ (b : Binding). MeansFrom declared numbered b (cut (length b)) truth) (sym (append-assoc binding behind more)) (is.0 (behind ++ more)), required-longer binding behind required truths is.1)

    required-here : (binding : Binding) (required : List (ℕ → ℕ → Made Part)) (truths : List Bool) → Required binding required truths → EachMeans declared numbered binding (map (λ cut. cut (length binding)) required) truths
    required-here binding [] [] is = tt
    required-here binding [] (truth ∷ truths) is = is
    required-here binding (cut ∷ required) [] is = is
    required-here binding (cut ∷ required) (truth ∷ truths) is =
        (subst (λ (b : Binding). MeansFrom declared numbered b (cut (length b)) truth) (append-nil binding) (is.0 []), required-here binding required truths is.1)

    required-also : (binding : Binding) (required : List (ℕ → ℕ → Made Part)) (truths : List Bool) (cut : ℕ → ℕ → Made Part) (truth : Bool) → Required binding required truths →
        CutMeans binding cut truth → Required binding (required ++ cut ∷ []) (truths ++ truth ∷ [])
    required-also binding [] [] cut truth is also = (also, tt)
    required-also binding [] (t ∷ truths) cut truth is also = absurd is
    required-also binding (first ∷ required) [] cut truth is also = absurd is
    required-also binding (first ∷ required) (t ∷ truths) cut truth is also = (is.0, required-also binding required truths cut truth is.1 also)

    module _ (adds : Bool) where
      abbrev all_true : List Bool → Bool
      all_true truths = list_all (λ truth. truth) truths

      abbrev some_row : Binding → GroundAtom → List EffectRow → Bool
      some_row binding atom rows = task.writes numbered adds rows binding atom

      abbrev pub EffectMeans : Rows domain problem → (pddl.Binding → holds.State) → (scopes.Scope → List At) → List Mention → Type 0
      EffectMeans rows change unbound mentions =
          AreKnown domain problem mentions → (required : List (ℕ → ℕ → Made Part)) (truths : List Bool) (names : List Name) (scope : Scope) (named : pddl.Binding) (binding : Binding) →
          unbound names ≡ [] → StandAll names scope named binding → RequiredFits (length binding) required → Required binding required truths →
          (next : ℕ) → GivenIn declared numbered next (rows required scope (length binding) next).fresh → (atom : holds.GroundAtom) → is_known_atom domain problem atom ≡ true →
          some_row binding (numbered_atom domain problem atom) (rows required scope (length binding) next).items ≡ (all_true truths && change named atom)

      abbrev made : Binding → List (ℕ → ℕ → Made Part) → ℕ → List Part
      made binding required next = (all_of (length binding) (map (λ cut. cut (length binding)) required) next).items

      abbrev is_written : pddl.Binding → Atom → holds.GroundAtom → Bool
      is_written named atom other = holds.is_same_atom (holds.ground named atom) other

      -- a row for the atom
      row-means : (this : Bool) (atom : Atom) → AreKnown domain problem (Written atom ∷ []) → (names : List Name) (scope : Scope) (named : pddl.Binding) (binding : Binding) →
          scopes.unbound_terms names atom.terms ≡ [] → StandAll names scope named binding → (other : holds.GroundAtom) → is_known_atom domain problem other ≡ true → (part : Part) →
          task.row_writes numbered adds binding (numbered_atom domain problem other) (effect_row domain problem this atom scope part) ≡ (answers adds this && (is_written named atom other && part_met numbered binding part))
      row-means this atom mentioned names scope named binding unbound stand other known_other part =
          ap (λ b. answers adds this && b)
          (any-same (λ objects. task.is_on numbered (numbered_atom domain problem other) (effect_row domain problem this atom scope part) (binding ++ objects))
          (λ objects. is_written named atom other && are_met numbered (binding ++ objects) part.literals)
          (λ objects. ap (λ b. b && are_met numbered (binding ++ objects) part.literals) (one objects)) (choices part.variables)
          ∙ any-and_left (is_written named atom other) (λ objects. are_met numbered (binding ++ objects) part.literals) (choices part.variables))
        where
          parts : (is_declared domain problem atom.predicate.name ≡ true) × (list_all (is_known_term domain problem) atom.terms ≡ true)
          parts =
              let mention = (and_parts (is_known_mention domain problem (Written atom)) true mentioned).0 in
              let sides = and_parts (is_declared domain problem atom.predicate.name && true) (list_all (is_known_term domain problem) atom.terms) mention in
              ((and_parts (is_declared domain problem atom.predicate.name) true sides.0).0, sides.1)

          one : (objects : List ℕ) → task.is_same_atom (atom_of (predicate_number domain atom.predicate.name) (objects_at (binding ++ objects) (map (place_of domain problem scope) atom.terms))) (numbered_atom domain problem other) ≡ is_written named atom other
          one objects =
              let there = terms-objects domain problem scope named (binding ++ objects) atom.terms parts.1 (λ name is. longer domain problem scope named binding objects name (stand name (terms-bound names atom.terms unbound name is))) in
              ap (λ (os : List ℕ). task.is_same_atom (atom_of (predicate_number domain atom.predicate.name) os) (numbered_atom domain problem other)) there.0
              ∙ same-numbered (holds.ground named atom) other (and_from (is_declared domain problem atom.predicate.name) (list_all (is_known domain problem) (map (holds.object_of named) atom.terms)) parts.0 there.1) known_other

      -- an atom that is written
      written-means : (this : Bool) (atom : Atom) → AreKnown domain problem (Written atom ∷ []) → (required : List (ℕ → ℕ → Made Part)) (truths : List Bool) (names : List Name) (scope : Scope) (named : pddl.Binding) (binding : Binding) →
          scopes.unbound_terms names atom.terms ≡ [] → StandAll names scope named binding → RequiredFits (length binding) required → Required binding required truths →
          (next : ℕ) → GivenIn declared numbered next (written domain problem this atom required scope (length binding) next).fresh → (other : holds.GroundAtom) → is_known_atom domain problem other ≡ true →
          some_row binding (numbered_atom domain problem other) (written domain problem this atom required scope (length binding) next).items ≡ (all_true truths && (answers adds this && is_written named atom other))
      written-means this atom mentioned required truths names scope named binding unbound stand fit is next given other known_other =
          any-map (task.row_writes numbered adds binding (numbered_atom domain problem other)) (effect_row domain problem this atom scope) (made binding required next)
          ∙ any-same (λ part. task.row_writes numbered adds binding (numbered_atom domain problem other) (effect_row domain problem this atom scope part)) (λ part. answers adds this && (is_written named atom other && part_met numbered binding part))
          (row-means this atom mentioned names scope named binding unbound stand other known_other) (made binding required next)
          ∙ any-and_left (answers adds this) (λ part. is_written named atom other && part_met numbered binding part) (made binding required next)
          ∙ ap (λ b. answers adds this && b) (any-and_left (is_written named atom other) (part_met numbered binding) (made binding required next))
          ∙ ap (λ b. answers adds this && (is_written named atom other && b))
          (all_of-means declared numbered binding (map (λ cut. cut (length binding)) required) truths (fits-here (length binding) required fit) (required-here binding required truths is) next given)
          ∙ exchange (answers adds this) (is_written named atom other) (all_true truths)

      -- ---- effects inside

      rows-in_turn : (binding : Binding) (atom : GroundAtom) (first : Made EffectRow) (rest : List EffectRow) → some_row binding atom (first.items ++ rest) ≡ (some_row binding atom first.items || some_row binding atom rest)
      rows-in_turn binding atom first rest = list_any-append (task.row_writes numbered adds binding atom) first.items rest

      abbrev change : Effect → pddl.Binding → holds.State
      change = step.writes domain problem full adds

      abbrev Meant : Effect → Type 0
      Meant effect = EffectMeans (rows_of domain problem effect) (change effect) (scopes.in_effect effect) (in_effect effect)

      members-mean : (members : List Effect) → Each Meant members → AreKnown domain problem (flat_map (λ mentions. mentions) (map in_effect members)) →
          (required : List (ℕ → ℕ → Made Part)) (truths : List Bool) (names : List Name) (scope : Scope) (named : pddl.Binding) (binding : Binding) →
          flat_map (λ member. member names) (map scopes.in_effect members) ≡ [] → StandAll names scope named binding → RequiredFits (length binding) required → Required binding required truths →
          (next : ℕ) → GivenIn declared numbered next (in_turn (turns required scope (length binding) members) next).fresh → (atom : holds.GroundAtom) → is_known_atom domain problem atom ≡ true →
          some_row binding (numbered_atom domain problem atom) (in_turn (turns required scope (length binding) members) next).items ≡ (all_true truths && list_any (λ member. member named atom) (map change members))
      members-mean [] each mentioned required truths names scope named binding unbound stand fit is next given atom known_atom = sym (and-false (all_true truths))
      members-mean (member ∷ members) each mentioned required truths names scope named binding unbound stand fit is next given atom known_atom =
          let first = rows_of domain problem member required scope (length binding) next in
          let later = next + length first.fresh in
          let rest = in_turn (turns required scope (length binding) members) later in
          let here =
          each.0 (all-left (is_known_mention domain problem) (in_effect member) (flat_map (λ mentions. mentions) (map in_effect members)) mentioned) required truths names scope named binding
          (left_empty (scopes.in_effect member names) (flat_map (λ member. member names) (map scopes.in_effect members)) unbound) stand fit is next (numbered-left (GivenAt declared numbered) next first.fresh rest.fresh given) atom known_atom in
          let there =
          members-mean members each.1 (all-right (is_known_mention domain problem) (in_effect member) (flat_map (λ mentions. mentions) (map in_effect members)) mentioned) required truths names scope named binding
          (right_empty (scopes.in_effect member names) (flat_map (λ member. member names) (map scopes.in_effect members)) unbound) stand fit is later (numbered-right (GivenAt declared numbered) next first.fresh rest.fresh given) atom known_atom in
          rows-in_turn binding (numbered_atom domain problem atom) first rest.items
          ∙ ap (λ b. b || some_row binding (numbered_atom domain problem atom) rest.items) here
          ∙ ap (λ b. (all_true truths && change member named atom) || b) there
          ∙ and_or (all_true truths) (change member named atom) (list_any (λ member. member named atom) (map change members))

      in_scopes : (names : List Name) (scope : Scope) (named : pddl.Binding) (binding : Binding) → StandAll names scope named binding → (condition : Condition) → scopes.in_condition condition names ≡ [] → (more : ℕ) → length binding ≤ more → InScopes domain problem (known domain problem condition).is_free scope more
      in_scopes names scope named binding stand condition unbound more least name free =
          let is = stand name (free-bound domain problem condition names unbound name free) in
          record { slot = is.slot; found = is.found; within = omega (arith, least, is.within) }

      when-means : (condition : Condition) (inside : Effect) (at : At) → Meant inside →
          EffectMeans (row_step domain problem (Effect-F.When condition (rows_of domain problem inside) at)) (step.writes_step domain problem full adds (Effect-F.When condition (change inside) at))
          (scopes.effect_step (Effect-F.When condition (scopes.in_effect inside) at)) (effect_step (Effect-F.When condition (in_effect inside) at))
      when-means condition inside at held mentioned required truths names scope named binding unbound stand fit is next given atom known_atom =
          held (all-right (is_known_mention domain problem) (in_condition condition) (in_effect inside) mentioned) (required ++ cut ∷ []) (truths ++ holds.holds domain problem full condition named ∷ []) names scope named binding
          (right_empty (scopes.in_condition condition names) (scopes.in_effect inside names) unbound) stand
          (fits-also (length binding) required cut fit
          (λ more least. condition-fits domain problem condition (all-left (is_known_mention domain problem) (in_condition condition) (in_effect inside) mentioned) true scope more (in_scopes names scope named binding stand condition here_bound more least)))
          (required-also binding required truths cut (holds.holds domain problem full condition named) is
          (λ more. condition-means domain problem full numbered shows condition (all-left (is_known_mention domain problem) (in_condition condition) (in_effect inside) mentioned) true scope named (binding ++ more)
          (λ name free. longer domain problem scope named binding more name (stand name (free-bound domain problem condition names here_bound name free)))))
          next given atom known_atom
          ∙ ap (λ b. b && change inside named atom) (list_all-append (λ truth. truth) truths (holds.holds domain problem full condition named ∷ []) ∙ ap (λ b. all_true truths && b) (and-true (holds.holds domain problem full condition named)))
          ∙ and_assoc (all_true truths) (holds.holds domain problem full condition named) (change inside named atom)
        where
          here_bound : scopes.in_condition condition names ≡ []
          here_bound = left_empty (scopes.in_condition condition names) (scopes.in_effect inside names) unbound

          cut : ℕ → ℕ → Made Part
          cut around = parts domain problem condition true scope around

      abbrev inner : List Typed → Rows domain problem → List (ℕ → ℕ → Made Part) → Scope → Binding → ℕ → List EffectRow
      inner variables rows required scope binding next = (rows required (scope_inside domain problem variables (length binding) scope) (length binding + length variables) next).items

      -- variables in front of those of the rows
      pub with_variables-write : (binding : Binding) (atom : GroundAtom) (ranges : List (List ℕ)) (rows : List EffectRow) →
          some_row binding atom (map (row_with_variables domain problem ranges) rows) ≡ list_any (λ objects. some_row (binding ++ objects) atom rows) (choices ranges)
      with_variables-write binding atom ranges rows =
          any-map (task.row_writes numbered adds binding atom) (row_with_variables domain problem ranges) rows
          ∙ any-same (λ row. task.row_writes numbered adds binding atom (row_with_variables domain problem ranges row)) (λ row. list_any (λ os. task.row_writes numbered adds (binding ++ os) atom row) (choices ranges))
          (λ row.
          ap (λ b. answers adds row.adds && b)
          (any-choices_append (λ objects. task.is_on numbered atom row (binding ++ objects)) ranges row.variables
          ∙ any-same (λ os. list_any (λ ps. task.is_on numbered atom row (binding ++ (os ++ ps))) (choices row.variables)) (λ os. list_any (λ ps. task.is_on numbered atom row ((binding ++ os) ++ ps)) (choices row.variables))
          (λ os. any-same (λ ps. task.is_on numbered atom row (binding ++ (os ++ ps))) (λ ps. task.is_on numbered atom row ((binding ++ os) ++ ps))
          (λ ps. ap (λ (b : Binding). task.is_on numbered atom row b) (sym (append-assoc binding os ps))) (choices row.variables)) (choices ranges))
          ∙ sym (any-and_left (answers adds row.adds) (λ os. list_any (λ ps. task.is_on numbered atom row ((binding ++ os) ++ ps)) (choices row.variables)) (choices ranges))) rows
          ∙ any-swap (λ row os. task.row_writes numbered adds (binding ++ os) atom row) rows (choices ranges)

      forall-means : (variables : List Typed) (inside : Effect) (at : At) → Meant inside →
          EffectMeans (row_step domain problem (Effect-F.Forall variables (rows_of domain problem inside) at)) (step.writes_step domain problem full adds (Effect-F.Forall variables (change inside) at))
          (scopes.effect_step (Effect-F.Forall variables (scopes.in_effect inside) at)) (effect_step (Effect-F.Forall variables (in_effect inside) at))
      forall-means variables inside at held mentioned required truths names scope named binding unbound stand fit is next given atom known_atom =
          let rows = rows_of domain problem inside in
          let target = numbered_atom domain problem atom in
          with_variables-write binding target (ranges_of domain problem variables) (inner variables rows required scope binding next)
          ∙ ap (list_any (λ objects. some_row (binding ++ objects) target (inner variables rows required scope binding next))) (choices-numbers domain problem variables)
          ∙ any-map (λ objects. some_row (binding ++ objects) target (inner variables rows required scope binding next)) (map (number domain problem)) (pddl.choices domain problem variables)
          ∙ same_any (λ objects. some_row (binding ++ map (number domain problem) objects) target (inner variables rows required scope binding next)) (λ objects. all_true truths && change inside (pddl.bound variables objects named) atom) (pddl.choices domain problem variables)
          (λ objects among.
          let long : length (binding ++ map (number domain problem) objects) ≡ length binding + length variables =
          omega (arith, length-append binding (map (number domain problem) objects), length-map (number domain problem) objects, named-choice-length domain problem full numbered shows variables objects among) in
          subst (λ (n : ℕ). GivenIn declared numbered next (rows required (scope_inside domain problem variables (length binding) scope) n next).fresh →
          some_row (binding ++ map (number domain problem) objects) target (rows required (scope_inside domain problem variables (length binding) scope) n next).items ≡ (all_true truths && change inside (pddl.bound variables objects named) atom)) long
          (λ given_here.
          held (all_right_of mentioned) required truths (scopes.inside_of variables names) (scope_inside domain problem variables (length binding) scope) (pddl.bound variables objects named) (binding ++ map (number domain problem) objects) unbound
          (λ name inside_it. inside-stands domain problem variables objects (length binding) scope named binding name refl among (λ unlisted. stand name (in-inside variables names name inside_it unlisted)))
          (fits-wider (length binding) (length (binding ++ map (number domain problem) objects)) (omega (arith, length-append binding (map (number domain problem) objects))) required fit)
          (required-longer binding (map (number domain problem) objects) required truths is) next given_here atom known_atom) given)
          ∙ any-and_left (all_true truths) (λ objects. change inside (pddl.bound variables objects named) atom) (pddl.choices domain problem variables)
        where
          all_right_of : AreKnown domain problem (effect_step (Effect-F.Forall variables (in_effect inside) at)) → AreKnown domain problem (in_effect inside)
          all_right_of known = (and_parts (true && true) _ known).1

      -- the rows of an effect write what it writes
      pub effect-means : (effect : Effect) → Meant effect
      effect-means = by_folds (Rows domain problem) (pddl.Binding → holds.State) (scopes.Scope → List At) (List Mention) (row_step domain problem) (step.writes_step domain problem full adds) scopes.effect_step effect_step EffectMeans record {
        at_nothing = λ at mentioned required truths names scope named binding unbound stand fit is next given atom known_atom. sym (and-false (all_true truths));
        at_add = λ written_atom mentioned required truths names scope named binding unbound stand fit is next given atom known_atom.
            written-means true written_atom mentioned required truths names scope named binding unbound stand fit is next given atom known_atom ∙ ap (λ a. all_true truths && (a && is_written named written_atom atom)) (answered true adds);
        at_delete = λ written_atom mentioned required truths names scope named binding unbound stand fit is next given atom known_atom.
            written-means false written_atom mentioned required truths names scope named binding unbound stand fit is next given atom known_atom ∙ ap (λ a. all_true truths && (a && is_written named written_atom atom)) (answered false adds);
        at_and = λ members at. members-mean members;
        at_when = when-means;
        at_forall = forall-means;
        at_increase = λ term cost at mentioned required truths names scope named binding unbound stand fit is next given atom known_atom. sym (and-false (all_true truths));
      }
