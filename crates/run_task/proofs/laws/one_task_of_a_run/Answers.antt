use Rattle.run_task.proofs.OneTask.{one_run_task, one_task_of_pair}
use Rattle.run_task.specs.OneTask.{OneRunTask}
use Rattle.run_task.proofs.laws.one_task_of_a_run.Goals as goal

pub returns : goal.returns
returns c =
    let task : OneRunTask =
    one_run_task c.one_ground_task.ensures c.one_but_for_order.ensures.reached c.one_but_for_order.ensures.layers c.one_set_of_groups.ensures c.one_cover_of_same.ensures
    c.one_but_for_order-2.ensures.one c.one_but_for_order-2.ensures.agree c.orders_forgotten.ensures.one in
    record { task = task; pair = one_task_of_pair task c.finds.ensures.one c.passes_keep.ensures.one }
