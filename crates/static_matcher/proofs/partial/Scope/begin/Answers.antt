-- From the first objects on.
use Rattle.std.proofs.Common.{◌≡◌, ◌++◌, length, take, drop, subst, sym, ap, ◌∙◌, arith}
use Rattle.std.proofs.lemmas.List.{take-append-le, take_all}
use Rattle.std.proofs.lemmas.Bool.{true≢false}
use Rattle.static_matcher.specs.Partial.{Partial, all_ranges, IsWithin, Completes, may_be_completed}
use Rattle.static_matcher.proofs.Partials.{may_complete}
use Rattle.static_matcher.proofs.Searching.{first_within, first_completed}
use Rattle.static_matcher.proofs.partial.Scope.begin.Goals as goal

pub returns-then-not-may-clause-completes : goal.returns-then-not-may-clause-completes
returns-then-not-may-clause-completes c binding is =
    let task = c.args.self.now.tables.now in
    let literals = c.args.self.now.literals.now in
    let first = c.in_ok-first.first.items in
    let completed : Completes first binding = subst (λ (p : Partial). Completes p binding) (sym c.in_ok-first.ensures) (first_completed c.args.self.now.start.now c.args.self.now.ranges.now binding is.choice) in
    true≢false (sym (may_complete first binding completed task literals is.may) ∙ ap (may_be_completed task literals) (sym c.as_slice.ensures.value) ∙ sym c.in_ok-may.ensures ∙ c.if-not-may.true)

pub returns-then-not-have-clause-completes : goal.returns-then-not-have-clause-completes
returns-then-not-have-clause-completes c binding is =
    c.in_ok-have.ensures.none c.if-not-have.true binding is
    (subst (λ (p : Partial). Completes p binding) (sym (c.as_mut_slice.ensures.value ∙ c.in_ok-first.ensures)) (first_completed c.args.self.now.start.now c.args.self.now.ranges.now binding is.choice))

pub returns-clause-may : goal.returns-clause-may
returns-clause-may c =
    let start = c.args.self.now.start.now in
    let ranges = c.args.self.now.ranges.now in
    let first = c.in_ok-first.first.items in
    let after = c.all_have_objects.new.partial in
    let same : after ≡ first = c.in_ok-have.ensures.taken_back ∙ c.as_mut_slice.ensures.value in
    let long = ap (λ (l : Partial). length l) same in
    let ok = c.in_ok-first.first.ok.0 in
    let back : take c.in_ok-first.first.len (after ++ drop (length after) first) ≡ first =
    take-append-le c.in_ok-first.first.len after (drop (length after) first) (omega (arith, long, ok)) ∙ take_all c.in_ok-first.first.len after (omega (arith, long, ok)) ∙ same in record {
      within = subst (λ (p : Partial). IsWithin (all_ranges start ranges) p) (sym (back ∙ c.in_ok-first.ensures)) (first_within start ranges);
      may = ap (may_be_completed c.args.self.now.tables.now c.args.self.now.literals.now) (back ∙ sym c.as_slice.ensures.value) ∙ sym c.in_ok-may.ensures ∙ c.if-not-may.false;
    }

pub returns-clause-completes : goal.returns-clause-completes
returns-clause-completes c binding is =
    let first = c.in_ok-first.first.items in
    let after = c.all_have_objects.new.partial in
    let same : after ≡ first = c.in_ok-have.ensures.taken_back ∙ c.as_mut_slice.ensures.value in
    let long = ap (λ (l : Partial). length l) same in
    let ok = c.in_ok-first.first.ok.0 in
    let back : take c.in_ok-first.first.len (after ++ drop (length after) first) ≡ first =
    take-append-le c.in_ok-first.first.len after (drop (length after) first) (omega (arith, long, ok)) ∙ take_all c.in_ok-first.first.len after (omega (arith, long, ok)) ∙ same in
    subst (λ (p : Partial). Completes p binding) (sym (back ∙ c.in_ok-first.ensures)) (first_completed c.args.self.now.start.now c.args.self.now.ranges.now binding is.choice)
