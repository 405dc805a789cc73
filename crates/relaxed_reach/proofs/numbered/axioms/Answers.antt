use Rattle.std.proofs.Common.{◌&&◌, map, sym, ap, ◌∙◌}
use Rattle.std.proofs.lemmas.Option.{cond_some}
use Rattle.ground_task.specs.GroundTask.{axiom_row as ground_axiom}
use Rattle.ground_task.specs.Settled.{is_open, kept_condition, kept_axiom}
use Rattle.reached_task.specs.Reachable.{is_among, number_of, numbering}
use Rattle.reached_task.specs.ReachedTask.{axiom_row}
use Rattle.relaxed_reach.proofs.KeptTurns.{is_none, kept_turn, left_turn}
use Rattle.relaxed_reach.proofs.numbered.axioms.Goals.{in-Some+in_ok-condition+in-Some-2+in_ok-push, in-Some+in_ok-condition+in_default-2, in_default}
use Rattle.relaxed_reach.proofs.numbered.axioms.Goals as goal

pub loop-row-preserved : goal.loop-row-preserved
loop-row-preserved c =
    let facts = c.args.facts.now in
    let by = numbering facts in
    let row = c.row-item.result in
    let open' = is_open by row.condition in
    let kept = c.loop-row.kept.items in
    elim c.match-number.branch [
      | in-Some+in_ok-condition+in-Some-2+in_ok-push w ↦
          let fact = cond_some (is_among facts row.atom) (number_of facts row.atom) w.in-Some.fact (sym c.number.ensures ∙ w.in-Some.is) in
          let condition = cond_some open' (kept_condition by row.condition) w.in-Some-2.condition (sym w.in_ok-condition.ensures ∙ w.in-Some-2.is) in
          ap (λ k. map axiom_row k.items) w.kept-is ∙ ap (map axiom_row) w.in_ok-push.ensures.items
          ∙ kept_turn axiom_row (kept_axiom by) (λ row. by.keeps row.atom && is_open by row.condition) ground_axiom c.args.axioms.now c.loop-row.row-index row c.loop-row-test.true c.row-item.is kept _
          c.loop-row.invariant (ap (λ b. b && open') fact.0 ∙ condition.0)
          (ap (λ n. record { condition = w.in-Some-2.condition; atom = n }) (sym fact.1) ∙ ap (λ k. record { condition = k; atom = number_of facts row.atom }) (sym condition.1))
      | in-Some+in_ok-condition+in_default-2 w ↦
          let fact = cond_some (is_among facts row.atom) (number_of facts row.atom) w.in-Some.fact (sym c.number.ensures ∙ w.in-Some.is) in
          ap (λ k. map axiom_row k.items) w.kept-is
          ∙ left_turn axiom_row (kept_axiom by) (λ row. by.keeps row.atom && is_open by row.condition) ground_axiom c.args.axioms.now c.loop-row.row-index row c.loop-row-test.true c.row-item.is kept c.loop-row.invariant
          (ap (λ b. b && open') fact.0 ∙ is_none open' (kept_condition by row.condition) (sym w.in_ok-condition.ensures ∙ w.in_default-2.is))
      | in_default w ↦
          ap (λ k. map axiom_row k.items) w.kept-is
          ∙ left_turn axiom_row (kept_axiom by) (λ row. by.keeps row.atom && is_open by row.condition) ground_axiom c.args.axioms.now c.loop-row.row-index row c.loop-row-test.true c.row-item.is kept c.loop-row.invariant
          (ap (λ b. b && open') (is_none (is_among facts row.atom) (number_of facts row.atom) (sym c.number.ensures ∙ w.in_default.is)))
    ]
