use Rattle.reached_task.proofs.ReachedMeaning.{same_meaning, true_are_facts}
use Rattle.reached_task.proofs.laws.same_meaning.Goals as goal

pub returns-clause-meaning : goal.returns-clause-meaning
returns-clause-meaning c task reached ranked is = same_meaning task reached ranked is

pub returns-clause-facts : goal.returns-clause-facts
returns-clause-facts c task reached ranked is = true_are_facts task reached ranked is
