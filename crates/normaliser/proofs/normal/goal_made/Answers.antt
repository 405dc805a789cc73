use Rattle.std.proofs.Common.{[], true, ap, subst, ◌∙◌}
use Rattle.std.specs.Prelude.{IfOk}
use Rattle.pddl_syntax.specs.declared.types.Problem.{Problem}
use Rattle.normal_task.specs.declared.parts.Part.{Part}
use Rattle.normal_task.specs.Normalised.{goal_of}
use Rattle.normal_task.specs.Parts.{Made, Scope, parts}
use Rattle.normal_rows.specs.MadeThings.{IsMadeOf}
use Rattle.normal_rows.proofs.MadeSame.{made-same}
use Rattle.normaliser.proofs.normal.goal_made.Goals as goal

pub returns : goal.returns
returns c =
    let domain = c.args.numbering.now.domain in
    let problem = c.args.numbering.now.problem in
    subst (λ (m : Made Part). IfOk c.goal_of.result (IsMadeOf (goal_of domain problem m m.items c.args.next)))
    (made-same (parts domain problem c.problem.result.now.goal true c.new-scope.result 0 c.args.next) c.in_ok-parts.parts.items c.in_ok-parts.parts.fresh c.in_ok-parts.ensures
    ∙ ap (λ (s : Scope). parts domain problem c.problem.result.now.goal true s 0 c.args.next) c.new-scope.ensures
    ∙ ap (λ (x : Problem). parts domain problem x.goal true [] 0 c.args.next) c.problem.ensures)
    c.goal_of.ensures
