use Rattle.std.proofs.Common.{◌≡◌, sym, ◌∙◌, subst, false}
use Rattle.ground_task.specs.declared.types.GoalRow.TheVariants.{All}
use Rattle.ground_task.specs.Lawful.{IsLawful}
use Rattle.task_tests.proofs.Lawful.{task_of, lawful}
use Rattle.task_tests.proofs.moves.task.Goals as goal

pub returns : goal.returns
returns c =
    let init = c.args.init.items in
    let moves = c.args.moves.items in
    let predicates = sym c.in_ok-predicates.ensures in
    let objects = sym c.in_ok-objects.ensures in
    let starts = sym c.from_vec.ensures in
    let actions = sym c.from_vec-2.ensures in
    let axioms = sym (c.from_vec-3.ensures ∙ c.new.ensures.items) in
    let literals = sym c.no_literals.ensures in
    let same : task_of c.args.count init moves ≡ record {
      normal_predicates = c.in_ok-predicates.field-0;
      objects = c.in_ok-objects.field-0;
      init = c.from_vec.result;
      actions = c.from_vec-2.result;
      axioms = c.from_vec-3.result;
      goal = All c.no_literals.result;
      metric = false;
    } = λ i. record { normal_predicates = predicates i; objects = objects i; init = starts i; actions = actions i; axioms = axioms i; goal = All (literals i); metric = false } in
    subst IsLawful same (lawful c.args.count init moves c.requires.init c.requires.moves)
