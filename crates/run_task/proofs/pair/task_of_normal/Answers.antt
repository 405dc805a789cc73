use Rattle.run_task.proofs.pair.task_of_normal.Goals as goal

pub simplified-requires : goal.simplified-requires
simplified-requires c = record {
  lawful = c.requires;
  well_formed = c.finds.ensures.well_formed c.args.normal.now c.args.settings.max_candidates c.in_ok-found.found c.in_ok-found.ensures;
}
