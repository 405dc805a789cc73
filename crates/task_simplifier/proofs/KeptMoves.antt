-- The values that a variable's moves lead to from the initial one are its kept values.
use Rattle.std.proofs.Common.{◌≡◌, ℕ, ◌+◌, ◌<◌, ◌≤◌, Bool, true, false, not, cond, ◌&&◌, ◌||◌, eqb, List, [], ◌∷◌, ◌++◌, length, map, get_or, Option, Some, None, ◌⊎◌, refl, sym, ap, ◌∙◌, subst, inl, inr, arith}
use Rattle.std.specs.Prelude.{IsSomeAnd}
use Rattle.std.specs.List.{Contains, find, flat_map, slice_get}
use Rattle.std.specs.List.Sorted.{IsStrictlyIncreasing}
use Rattle.std.specs.Option.{option_map, option_map_or, option_or, option_to_list, unwrap_or}
use Rattle.std.proofs.lemmas.Bool.{cases_eq, cases_lt, and_parts, and_from, eqb-true, ne_eqb, eq-eqb, false≢true}
use Rattle.std.proofs.lemmas.Option.{none-some, same_Some}
use Rattle.std.proofs.lemmas.List.{length-append}
use Rattle.std.proofs.lemmas.List.Elements.{Contains-append_left, Contains-append_right, Contains-append_cases}
use Rattle.std.proofs.Math.ListN.{get_or-append}
use Rattle.std.proofs.Math.Seq.{get_or-append_seam}
use Rattle.sas_task.specs.declared.parts.Pair.{Pair}
use Rattle.sas_task.specs.declared.parts.Variable.{Variable}
use Rattle.sas_task.specs.declared.parts.Effect.{Effect}
use Rattle.sas_task.specs.declared.parts.Operator.{Operator}
use Rattle.sas_task.specs.declared.parts.Rule.{Rule}
use Rattle.sas_task.specs.Task.{Task}
use Rattle.sas_task.specs.Valid.{IsValid, IsValue}
use Rattle.sas_task.specs.Output.{value_in}
use Rattle.lists.proofs.Members.{no_member, member_first, member_single, all_pass, each_passes, find_found, find_nothing, member_map, map_member, flat_map_member, member_flat_map, all_from_members}
use Rattle.sas_task.proofs.ValidParts.{effect_law, rule_law}
use Rattle.sas_restriction.specs.Closed.{Leaves}
use Rattle.names.specs.declared.arcs.Arc.{Arc}
use Rattle.graph_search.specs.Reached.{IsReached, First, Next, AreReached}
use Rattle.task_simplifier.specs.declared.moves.Move.{Move}
use Rattle.task_simplifier.specs.Kept.{IsKept, Initial, ByEffect, ByRule, AreKept}
use Rattle.task_simplifier.specs.Projection.{kept_in}
use Rattle.task_simplifier.specs.Moves.{leave, named, agree, move_to, moves_on, moves_of_effect, moves_of_operator, moves_of_rule, moves_of, arc}

-- the value from which a move leads
abbrev source : ℕ → Move → ℕ
source start move = (arc start move).from

-- what chains of moves lead to from the first value
abbrev Leads : ℕ → List Move → ℕ → Type 0
Leads start moves = IsReached (start ∷ []) (map (arc start) moves)

-- ---- what conditions leave

leaves_from : (ps : List Pair) (var val : ℕ) → leave ps var val ≡ true → Leaves ps var val
leaves_from ps var val all p in' on =
    by_test (eqb p.var var) (eq-eqb p.var var on) (all_pass (λ (p : Pair). not (eqb p.var var) || eqb p.val val) ps p all in')
  where
    by_test : (b : Bool) → b ≡ true → (not b || eqb p.val val) ≡ true → p.val ≡ val
    by_test true e is = eqb-true p.val val is
    by_test false e is = absurd (false≢true e)

leave_from : (ps : List Pair) (var val : ℕ) → Leaves ps var val → leave ps var val ≡ true
leave_from ps var val leaves =
    each_passes (λ (p : Pair). not (eqb p.var var) || eqb p.val val) ps (λ p in'.
    elim (cases_eq p.var var) [
      | inl same ↦ by_test (eqb p.var var) (eqb p.val val) (eq-eqb p.val val (leaves p in' same))
      | inr other ↦ ap (λ b. not b || eqb p.val val) (ne_eqb p.var var other)
    ])
  where
    by_test : (a b : Bool) → b ≡ true → (not a || b) ≡ true
    by_test true b e = e
    by_test false b e = refl

-- conditions that name no value leave each
none_named : (ps : List Pair) (var val : ℕ) → value_in ps var ≡ None → Leaves ps var val
none_named ps var val none p in' on = absurd (false≢true (sym (find_nothing (λ (p : Pair). eqb p.var var) ps (nothing (find (λ (p : Pair). eqb p.var var) ps) none) p in') ∙ eq-eqb p.var var on))
  where
    nothing : (o : Option Pair) → option_map (λ (p : Pair). p.val) o ≡ None → o ≡ None
    nothing None e = refl
    nothing (Some p) e = absurd (none-some p.val (sym e))

-- a value that is left is the one that is named
named_is : (ps : List Pair) (var val x : ℕ) → value_in ps var ≡ Some x → Leaves ps var val → x ≡ val
named_is ps var val x is leaves = by_found (find (λ (p : Pair). eqb p.var var) ps) refl is
  where
    by_found : (o : Option Pair) → find (λ (p : Pair). eqb p.var var) ps ≡ o → option_map (λ (p : Pair). p.val) o ≡ Some x → x ≡ val
    by_found None at e = absurd (none-some x e)
    by_found (Some p) at e =
        let f = find_found (λ (p : Pair). eqb p.var var) ps p at in
        sym (same_Some p.val x e) ∙ leaves p f.0 (eqb-true p.var var f.1)

-- ---- the move that two lists of conditions make

module _ (var to : ℕ) (first second : List Pair) where
  abbrev both_leave : ℕ → Bool
  both_leave val = leave first var val && leave second var val

  -- what is named, in both lists
  abbrev Names : Option ℕ → Type 0
  Names from = option_map_or both_leave from true ≡ true → (start : ℕ) → Leaves first var (unwrap_or from start) × Leaves second var (unwrap_or from start)

  what_leaves : Names (named var first second)
  what_leaves = by_named (value_in first var) refl (value_in second var) refl
    where
      at_value : (x : ℕ) → Names (Some x)
      at_value x is start = let parts = and_parts (leave first var x) (leave second var x) is in (leaves_from first var x parts.0, leaves_from second var x parts.1)

      by_named : (a : Option ℕ) → value_in first var ≡ a → (b : Option ℕ) → value_in second var ≡ b → Names (option_or a b)
      by_named (Some x) at b at' = at_value x
      by_named None at (Some x) at' = at_value x
      by_named None at None at' = λ is start. (none_named first var start at, none_named second var start at')

  -- a value that both leave is the one that is named, if one is
  abbrev Left : ℕ → Option ℕ → Type 0
  Left val from = (option_map_or both_leave from true ≡ true) × ((from ≡ Some val) ⊎ (from ≡ None))

  is_left : (val : ℕ) → Leaves first var val → Leaves second var val → Left val (named var first second)
  is_left val one two = by_named (value_in first var) refl (value_in second var) refl
    where
      at_value : (x : ℕ) → x ≡ val → Left val (Some x)
      at_value x same =
          (ap both_leave same ∙ and_from (leave first var val) (leave second var val) (leave_from first var val one) (leave_from second var val two), inl (ap (λ v. Some v) same))

      by_named : (a : Option ℕ) → value_in first var ≡ a → (b : Option ℕ) → value_in second var ≡ b → Left val (option_or a b)
      by_named (Some x) at b at' = at_value x (named_is first var val x at one)
      by_named None at (Some x) at' = at_value x (named_is second var val x at' two)
      by_named None at None at' = (refl, inr refl)

  -- a move that they make of a variable
  record Made (other start : ℕ) (move : Move) : Type 0 where
    on : var ≡ other
    target : to ≡ move.to
    one : Leaves first var (source start move)
    two : Leaves second var (source start move)

  made : (other start : ℕ) (move : Move) → Contains (moves_on other var to first second) move → Made other start move
  made other start move = by_tests (eqb var other) refl (agree var first second) refl
    where
      by_tests : (a : Bool) → eqb var other ≡ a → (b : Bool) → agree var first second ≡ b →
          Contains (cond a (option_to_list (cond b (Some (record { from = named var first second; to = to })) None)) []) move → Made other start move
      by_tests false on b agrees in' = absurd (no_member move in')
      by_tests true on false agrees in' = absurd (no_member move in')
      by_tests true on true agrees in' =
          let is = member_single (record { from = named var first second; to = to }) move in' in
          let leaves = what_leaves agrees start in
          record {
            on = eqb-true var other on;
            target = ap (λ (m : Move). m.to) is;
            one = subst (λ (m : Move). Leaves first var (source start m)) is leaves.0;
            two = subst (λ (m : Move). Leaves second var (source start m)) is leaves.1;
          }

  -- what a value that they leave leads to
  abbrev step : Move
  step = record { from = named var first second; to = to }

  there : (other : ℕ) → var ≡ other → agree var first second ≡ true → Contains (moves_on other var to first second) step
  there other on agrees =
      subst (λ b. Contains (cond b (option_to_list (move_to var to first second)) []) step) (sym (eq-eqb var other on))
      (subst (λ b. Contains (option_to_list (cond b (Some step) None)) step) (sym agrees) (member_first step []))

  leads_on : (other start val : ℕ) → var ≡ other → Leaves first var val → Leaves second var val → (moves : List Move) → ((move : Move) → Contains (moves_on other var to first second) move → Contains moves move) →
      Leads start moves val → Leads start moves to
  leads_on other start val on one two moves inside reached =
      let left = is_left val one two in
      Next (arc start step) (from left.1) (member_map (arc start) moves step (inside step (there other on left.0)))
    where
      from : (named var first second ≡ Some val) ⊎ (named var first second ≡ None) → Leads start moves (source start step)
      from (inl is) = subst (λ o. Leads start moves (unwrap_or o start)) (sym is) reached
      from (inr none) = subst (λ o. Leads start moves (unwrap_or o start)) (sym none) (First start (member_first start []))

-- ---- the moves of a variable of a task

module _ (task : Task) (var : ℕ) where
  abbrev pub start : ℕ
  start = get_or task.state var 0

  abbrev moves : List Move
  moves = moves_of task var

  -- the effect or the rule that makes a move
  data Maker (move : Move) : Type 0 where
    Effecting : (o : Operator) → Contains task.operators o → (e : Effect) → Contains o.effects e → Made e.var e.after o.conditions e.conditions var start move → Maker move
    Ruling : (r : Rule) → Contains task.rules r → Made r.var r.after r.conditions [] var start move → Maker move

  maker : (move : Move) → Contains moves move → Maker move
  maker move in' =
      elim (Contains-append_cases (flat_map (moves_of_operator var) task.operators) (flat_map (moves_of_rule var) task.rules) move in') [
        | inl here ↦
            let o = flat_map_member (moves_of_operator var) task.operators move here in
            let e = flat_map_member (moves_of_effect var o.0) o.0.effects move o.2 in
            Effecting o.0 o.1 e.0 e.1 (made e.0.var e.0.after o.0.conditions e.0.conditions var start move e.2)
        | inr here ↦
            let r = flat_map_member (moves_of_rule var) task.rules move here in
            Ruling r.0 r.1 (made r.0.var r.0.after r.0.conditions [] var start move r.2)
      ]

  effect_inside : (o : Operator) → Contains task.operators o → (e : Effect) → Contains o.effects e → (move : Move) → Contains (moves_of_effect var o e) move → Contains moves move
  effect_inside o in-o e in-e move in' =
      Contains-append_left (flat_map (moves_of_operator var) task.operators) (flat_map (moves_of_rule var) task.rules) move
      (member_flat_map (moves_of_operator var) task.operators o move in-o (member_flat_map (moves_of_effect var o) o.effects e move in-e in'))

  rule_inside : (r : Rule) → Contains task.rules r → (move : Move) → Contains (moves_of_rule var r) move → Contains moves move
  rule_inside r in-r move in' =
      Contains-append_right (flat_map (moves_of_operator var) task.operators) (flat_map (moves_of_rule var) task.rules) move
      (member_flat_map (moves_of_rule var) task.rules r move in-r in')

  reached_kept : (val : ℕ) → Leads start moves val → IsKept task var val
  reached_kept val (First from in') = subst (IsKept task var) (member_single start val in') Initial
  reached_kept val (Next a from in') =
      let move = map_member (arc start) moves a in' in
      subst (λ (b : Arc). IsKept task var b.from → IsKept task var b.to) move.2 (by_maker move.0 (maker move.0 move.1)) (reached_kept a.from from)
    where
      by_maker : (move : Move) → Maker move → IsKept task var (source start move) → IsKept task var move.to
      by_maker move (Effecting o in-o e in-e is) kept =
          ByEffect (source start move) move.to kept
          (record { operator = o; effect = e; of_task = in-o; of_operator = in-e; on = is.on; to = is.target; leaves = subst (λ v. Leaves o.conditions v (source start move)) is.on is.one; leaves_too = subst (λ v. Leaves e.conditions v (source start move)) is.on is.two })
      by_maker move (Ruling r in-r is) kept =
          ByRule (source start move) move.to kept
          (record { rule = r; of_task = in-r; on = is.on; to = is.target; leaves = subst (λ v. Leaves r.conditions v (source start move)) is.on is.one })

  kept_reached : (val : ℕ) → IsKept task var val → Leads start moves val
  kept_reached val Initial = First start (member_first start [])
  kept_reached val (ByEffect from next kept move) =
      subst (Leads start moves) move.to
      (leads_on move.effect.var move.effect.after move.operator.conditions move.effect.conditions var start from move.on
      (subst (λ v. Leaves move.operator.conditions v from) (sym move.on) move.leaves) (subst (λ v. Leaves move.effect.conditions v from) (sym move.on) move.leaves_too)
      moves (effect_inside move.operator move.of_task move.effect move.of_operator) (kept_reached from kept))
  kept_reached val (ByRule from next kept move) =
      subst (Leads start moves) move.to
      (leads_on move.rule.var move.rule.after move.rule.conditions [] var start from move.on
      (subst (λ v. Leaves move.rule.conditions v from) (sym move.on) move.leaves) (λ p in'. absurd (no_member p in'))
      moves (rule_inside move.rule move.of_task) (kept_reached from kept))

  -- ---- the list of kept values

  abbrev pub value_count : ℕ
  value_count = option_map_or (λ (v : Variable). length v.facts) (slice_get task.variables var) 0

  value_below : (val : ℕ) → IsValue task var val → val < value_count
  value_below val value = by_variable (slice_get task.variables var) value
    where
      by_variable : (o : Option Variable) → IsSomeAnd o (λ (v : Variable). val < length v.facts) → val < option_map_or (λ (v : Variable). length v.facts) o 0
      by_variable None is = absurd is
      by_variable (Some v) is = is

  -- these are the kept values of the variable, in order
  pub record Lists (list : List ℕ) : Type 0 where
    pub sorted : IsStrictlyIncreasing list
    pub only : (val : ℕ) → Contains list val → IsKept task var val
    pub each : (val : ℕ) → IsKept task var val → Contains list val

  pub lists : IsValid task → var < length task.variables → (list : List ℕ) → AreReached value_count (start ∷ []) (map (arc start) moves) list → Lists list
  lists valid below list reached =
      record {
        sorted = reached.sorted;
        only = λ val in'. reached_kept val (reached.only val in');
        each = λ val kept.
            reached.each (all_from_members (λ first. first < value_count) (start ∷ []) starts) (all_from_members (λ (a : Arc). a.to < value_count) (map (arc start) moves) targets) val (kept_reached val kept);
      }
    where
      starts : (first : ℕ) → Contains (start ∷ []) first → first < value_count
      starts first in' = subst (λ v. v < value_count) (member_single start first in') (value_below start (valid.state var below))

      targets : (a : Arc) → Contains (map (arc start) moves) a → a.to < value_count
      targets a in' = let move = map_member (arc start) moves a in' in subst (λ (b : Arc). b.to < value_count) move.2 (by_maker move.0 (maker move.0 move.1))
        where
          by_maker : (move : Move) → Maker move → move.to < value_count
          by_maker move (Effecting o in-o e in-e is) =
              value_below move.to (subst (λ v. IsValue task v move.to) is.on (subst (IsValue task e.var) is.target (effect_law task valid o in-o e in-e).value))
          by_maker move (Ruling r in-r is) =
              value_below move.to (subst (λ v. IsValue task v move.to) is.on (subst (IsValue task r.var) is.target (rule_law task valid r in-r).value))

-- the lists of the variables so far, with one more
abbrev pub AllListed : Task → ℕ → List (List ℕ) → Type 0
AllListed task count kept = (length kept ≡ count) × ((var : ℕ) → var < count → Lists task var (kept_in kept var))

pub one_more : (task : Task) (count : ℕ) (kept new : List (List ℕ)) (list : List ℕ) → new ≡ kept ++ list ∷ [] → AllListed task count kept → Lists task count list → AllListed task (count + 1) new
one_more task count kept new list new-is before this =
    subst (AllListed task (count + 1)) (sym new-is) (
      let longer = length-append kept (list ∷ []) in
          let same = before.0 in
          omega (arith, longer, same),
      λ var low. elim (cases_lt var count) [
        | inl below ↦ subst (Lists task var) (sym (get_or-append kept (list ∷ []) [] var (subst (λ n. var < n) (sym before.0) below))) (before.1 var below)
        | inr past ↦
            let last : var ≡ count = omega (arith, low, past) in
            let at : get_or (kept ++ list ∷ []) count [] ≡ list = ap (λ n. get_or (kept ++ list ∷ []) n []) (sym before.0) ∙ get_or-append_seam kept list [] [] in
            subst (λ v. Lists task v (kept_in (kept ++ list ∷ []) v)) (sym last) (subst (Lists task count) (sym at) this)
      ],
    )

pub all_kept : (task : Task) (count : ℕ) (kept : List (List ℕ)) → length task.variables ≤ count → AllListed task count kept → AreKept task (kept_in kept)
all_kept task count kept past all =
    record {
      sorted = λ var below. (all.1 var (omega (arith, below, past))).sorted;
      only = λ var val below. (all.1 var (omega (arith, below, past))).only val;
      each = λ var val below. (all.1 var (omega (arith, below, past))).each val;
    }
