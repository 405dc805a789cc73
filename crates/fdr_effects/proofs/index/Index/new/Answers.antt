-- One more set, and all of them.
use Rattle.std.proofs.Common.{◌≡◌, ◌≤◌, [], length, replicate, sym, ap, ◌∙◌, subst, inl, inr, arith}
use Rattle.std.proofs.lemmas.Bool.{cases_lt}
use Rattle.std.proofs.lemmas.List.{get_or_default, get_or_past, length-replicate}
use Rattle.lists.specs.Rows.{Adds}
use Rattle.lists.proofs.RowSteps.{nothing, added_to_none}
use Rattle.fdr_effects.specs.Places.{set_of}
use Rattle.fdr_effects.specs.Marks.{place_in}
use Rattle.fdr_effects.proofs.Indexed.{places_below, next_set, places_by_set, no_places}
use Rattle.fdr_effects.proofs.index.Index.new.Goals as goal

pub loop-var-init : goal.loop-var-init
loop-var-init c = subst (Adds (λ fact. []) (replicate c.args.facts [])) (sym c.in_ok-of_fact.ensures) (nothing (replicate c.args.facts []))

pub loop-var-preserved : goal.loop-var-preserved
loop-var-preserved c =
    let sets = c.args.sets.now in
    let var = c.loop-var.var in
    let rows = c.loop-var.of_fact in
    let new = c.push_set.new.rows in
    let is_set : c.as_slice.result.now ≡ set_of sets var = c.as_slice.ensures ∙ c.index-sets-var.is ∙ get_or_default sets var _ [] c.loop-var-test.true in
    next_set sets var (replicate c.args.facts []) rows new c.loop-var.invariant (subst (λ set. Adds (place_in var set) rows new) is_set c.in_ok-push_set.ensures)

pub invariant_of-result : goal.invariant_of-result
invariant_of-result c fact =
    let sets = c.args.sets.now in
    let facts = c.args.facts in
    let rows = c.loop-var.of_fact in
    let all : c.loop-var.var ≡ length sets = omega arith in
    elim (cases_lt fact facts) [
      | inl below ↦ added_to_none facts (places_below sets c.loop-var.var) rows c.loop-var.invariant fact below ∙ ap (λ n. places_below sets n fact) all ∙ sym (places_by_set sets fact)
      | inr past ↦
          let count = c.loop-var.invariant.count ∙ length-replicate facts [] in
          let beyond : length rows ≤ fact = omega arith in
          get_or_past rows fact [] beyond ∙ sym (no_places sets facts fact c.requires.facts past)
    ]
