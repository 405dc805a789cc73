use Rattle.std.proofs.Common.{map, refl, ap, ◌∙◌}
use Rattle.std.specs.Prelude.{filter}
use Rattle.ground_task.specs.GroundTask.{axiom_row as ground_axiom}
use Rattle.ground_task.specs.Settled.{kept_axioms}
use Rattle.reached_task.specs.Reachable.{is_among, number_of, numbering}
use Rattle.relaxed_reach.proofs.task.over.Goals as goal

pub returns : goal.returns
returns c rows left =
    let atoms = c.args.atoms.now in
    record {
      facts = c.in_ok-facts.ensures;
      init = c.in_ok-numbers.ensures ∙ ap (λ inits. map (number_of atoms) (filter (is_among atoms) inits)) c.as_slice.ensures;
      actions = left;
      axioms = c.in_ok-axioms.ensures ∙ ap (λ rows. kept_axioms (numbering atoms) (map ground_axiom rows)) c.as_slice-2.ensures;
      goal = c.in_ok-goal.ensures;
      metric = refl;
    }
