use Rattle.run_task.proofs.Translated.{tells_too, passed_translates}
use Rattle.run_task.proofs.laws.tasks_translate.Goals as goal

pub returns : goal.returns
returns c pair settings passes found task checked is =
    let first = is.first in
    let owed = c.run_task_translates.ensures pair settings found first checked is.is_found is.is_run_task in
    let stands = c.passes_keep.ensures.stands passes first task owed.valid is.chain in
    let valid = c.passes_keep.ensures.valid passes first task owed.valid is.chain in
    let tells = tells_too first task (c.passes_keep.ensures.costs passes first task is.chain) owed.tells in
    record {
      valid = valid;
      tells = tells;
      translates = passed_translates passes pair.domain pair.problem first task owed.translates is.chain stands valid tells c.solutions_cost_the_total.ensures;
    }
