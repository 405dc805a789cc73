use Rattle.std.proofs.Common.{[], rules, sym, subst}
use Rattle.translator.specs.Ending.{Ending}
use Rattle.run_task.specs.RunTask.{Start}
use Rattle.translator.specs.Stages.{IsMadeOf, text_by}
use Rattle.translator.proofs.Stages.{stops_at_domain, stops_at_problem, stops_in_domain, stops_in_problem, stops_in_check, comes_to_pair, starved}
use Rattle.translator.proofs.translation.task_of.Goals as goal

pub returns-in_err-domain_tree-clause-err : goal.returns-in_err-domain_tree-clause-err
returns-in_err-domain_tree-clause-err c =
    let stops = stops_at_domain (text_by c.args.domain.now) (text_by c.args.problem.now) _ c.in_err-domain_tree.ensures in
    search (rules, stops)

pub returns-in_err-problem_tree-clause-err : goal.returns-in_err-problem_tree-clause-err
returns-in_err-problem_tree-clause-err c =
    let stops = stops_at_problem (text_by c.args.domain.now) (text_by c.args.problem.now) _ c.in_ok-domain_tree.ensures _ c.in_err-problem_tree.ensures in
    search (rules, stops)

pub returns-in_err-read_domain-clause-err : goal.returns-in_err-read_domain-clause-err
returns-in_err-read_domain-clause-err c =
    let stops = stops_in_domain (text_by c.args.domain.now) (text_by c.args.problem.now) _ c.in_ok-domain_tree.ensures _ c.in_ok-problem_tree.ensures _ c.in_err-read_domain.ensures.reading in
    search (rules, stops)

pub returns-in_err-read_problem-clause-err : goal.returns-in_err-read_problem-clause-err
returns-in_err-read_problem-clause-err c =
    let stops = stops_in_problem (text_by c.args.domain.now) (text_by c.args.problem.now) _ c.in_ok-domain_tree.ensures _ c.in_ok-problem_tree.ensures _ c.in_ok-read_domain.ensures.reading _ c.in_err-read_problem.ensures.reading in
    search (rules, stops)

pub returns-in_err-checked-clause-err : goal.returns-in_err-checked-clause-err
returns-in_err-checked-clause-err c =
    let stops = stops_in_check (text_by c.args.domain.now) (text_by c.args.problem.now) _ c.in_ok-domain_tree.ensures _ c.in_ok-problem_tree.ensures _ c.in_ok-read_domain.ensures.reading _ c.in_ok-read_problem.ensures.reading _ c.in_err-checked.ensures.pair in
    search (rules, stops)

pub returns-in_err-made-clause-err : goal.returns-in_err-made-clause-err
returns-in_err-made-clause-err c = starved _ c.from_residual-in_err-made.result c.from_residual-in_err-made.ensures.1

pub returns-clause-ok : goal.returns-clause-ok
returns-clause-ok c =
    let made = c.in_ok-made.made in
    let comes = comes_to_pair (text_by c.args.domain.now) (text_by c.args.problem.now) _ c.in_ok-domain_tree.ensures _ c.in_ok-problem_tree.ensures _ c.in_ok-read_domain.ensures.reading _ c.in_ok-read_problem.ensures.reading c.in_ok-checked.checked c.in_ok-checked.ensures.pair in
    subst (λ (e : Ending Start). IsMadeOf e c.args.settings [] made.found made.task) (sym comes) c.in_ok-made.ensures
