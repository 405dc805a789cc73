use Rattle.std.proofs.Common.{List, ◌++◌, map, ap, ◌∙◌, arith, ℕ}
use Rattle.normal_task.specs.Normalised.{axiom_row}
use Rattle.normal_task.specs.declared.parts.Part.{Part}
use Rattle.normaliser.proofs.FreshAxioms.{axioms-more}
use Rattle.normaliser.proofs.axioms.push_fresh_axioms.Goals as goal

pub loop-number-preserved : goal.loop-number-preserved
loop-number-preserved c =
    let domain = c.args.numbering.now.domain in
    let problem = c.args.numbering.now.problem in
    axioms-more domain problem c.args.fresh.now c.loop-number.number c.index-fresh-number.result (omega arith) c.index-fresh-number.is
    c.args.rows.now.items c.loop-number.rows.items c.push_axioms.new.rows.items c.loop-number.invariant c.in_ok-predicate.predicate c.in_ok-predicate.ensures
    (c.in_ok-push_axioms.ensures
    ∙ ap (λ (l : List (List ℕ)). c.loop-number.rows.items ++ map (axiom_row domain problem c.in_ok-predicate.predicate l) c.as_slice-in-loop-number.result.now) c.as_slice.ensures
    ∙ ap (λ (l : List Part). c.loop-number.rows.items ++ map (axiom_row domain problem c.in_ok-predicate.predicate c.index-fresh-number.result.arguments) l) c.as_slice-in-loop-number.ensures)
