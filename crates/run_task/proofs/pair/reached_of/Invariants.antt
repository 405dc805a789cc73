use Rattle.run_task.proofs.pair.reached_of.Given as goal

abbrev pub ghosts-reached : goal.ghosts-reached
ghosts-reached a = record { name = a.blank.name; parts = a.blank.parts }
