-- One object that doesn't fit.
use Rattle.std.proofs.Common.{◌≡◌, [], ℕ, List, Some, None, set, get_or, length, sym, ap, ◌∙◌, arith}
use Rattle.lists.proofs.Members.{no_member}
use Rattle.static_matcher.specs.Partial.{Partial, all_ranges, may_be_completed}
use Rattle.static_matcher.proofs.Searching.{StandsAt, all_added, stands_somewhere, open_at, put_back, object_passed}
use Rattle.static_matcher.proofs.partial.Scope.has_object.Goals as goal

pub may_be_completed_with-requires : goal.may_be_completed_with-requires
may_be_completed_with-requires c =
    let partial = c.args.partial.now in
    let variable = c.args.variable in
    let object = get_or c.range-object-items.result.now c.loop-object.object-index 0 in
    ap (λ (p : Partial). may_be_completed c.args.self.now.tables.now c.args.self.now.literals.now (set (set p variable (Some object)) variable None)) c.loop-object.invariant.0
    ∙ ap (may_be_completed c.args.self.now.tables.now c.args.self.now.literals.now) (put_back partial variable (Some object) (open_at partial variable (sym c.is_open.ensures ∙ c.if-not-is_open.false)).1)
    ∙ c.requires

pub loop-object-preserved : goal.loop-object-preserved
loop-object-preserved c =
    let task = c.args.self.now.tables.now in
    let literals = c.args.self.now.literals.now in
    let ranges = all_ranges c.args.self.now.start.now c.args.self.now.ranges.now in
    let partial = c.args.partial.now in
    let variable = c.args.variable in
    let count = c.loop-object.object-index in
    let object = get_or c.range-object-items.result.now count 0 in
    let chosen : set c.loop-object.partial variable (Some object) ≡ set partial variable (Some object) = ap (λ (p : Partial). set p variable (Some object)) c.loop-object.invariant.0 in
    let is : object ≡ get_or (get_or ranges variable []) count 0 = ap (λ (r : List ℕ). get_or r count 0) c.range-object-items.ensures in (
      ap (λ (p : Partial). set p variable None) chosen ∙ put_back partial variable (Some object) (open_at partial variable (sym c.is_open.ensures ∙ c.if-not-is_open.false)).1,
      object_passed task literals ranges partial variable object [] [] count is c.loop-object.invariant.1 (ap (may_be_completed task literals) (sym chosen) ∙ sym c.in_ok-may.ensures ∙ c.if-may.false),
    )

pub returns-then-may-clause-taken_back : goal.returns-then-may-clause-taken_back
returns-then-may-clause-taken_back c =
    let partial = c.args.partial.now in
    let object = get_or c.range-object-items.result.now c.loop-object.object-index 0 in
    ap (λ (p : Partial). set (set p c.args.variable (Some object)) c.args.variable None) c.loop-object.invariant.0
    ∙ put_back partial c.args.variable (Some object) (open_at partial c.args.variable (sym c.is_open.ensures ∙ c.if-not-is_open.false)).1

pub returns-clause-none : goal.returns-clause-none
returns-clause-none c none binding match completes =
    let ranges = all_ranges c.args.self.now.start.now c.args.self.now.ranges.now in
    let partial = c.args.partial.now in
    let variable = c.args.variable in
    let end = c.loop-object-test.false in
    let long = ap (λ (l : List ℕ). length l) c.range-object-items.ensures in
    let adds =
    all_added (StandsAt ranges variable) c.args.self.now.tables.now c.args.self.now.literals.now ranges partial [] [] c.loop-object.object-index c.loop-object.invariant.1
    (λ binding match completes.
    let one = stands_somewhere ranges partial variable binding match.choice completes (open_at partial variable (sym c.is_open.ensures ∙ c.if-not-is_open.false)).0 in
    let low = one.1 in
    (one.0, omega (arith, low, end, long), one.2)) in
    no_member binding (adds.whole binding match completes)
