use Rattle.task_tests.proofs.grounds.reached_of.Given as goal

abbrev pub ghosts-reached_by : goal.ghosts-reached_by
ghosts-reached_by a = record { name = a.blank.name; parts = a.blank.parts }
