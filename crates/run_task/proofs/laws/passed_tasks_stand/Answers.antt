use Rattle.run_task.proofs.laws.passed_tasks_stand.Goals as goal

pub returns : goal.returns
returns c passes written task valid chain =
    record { valid = c.passes_keep.ensures.valid passes written task valid chain; keeps = c.passes_keep.ensures.stands passes written task valid chain }
