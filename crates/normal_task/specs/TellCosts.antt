-- When the names of a planning task's steps tell what they cost.
use Rattle.std.specs.Prelude.{◌≡◌, Contains}
use Rattle.planning.specs.Task.{PlanningTask}

-- steps of one name have one cost
abbrev pub NamesTellCosts : {A S : Type 0} → PlanningTask A S → Type 0
NamesTellCosts {A} {S} task = (one other : S) → Contains task.steps one → Contains task.steps other → task.name_of one ≡ task.name_of other → task.cost_of one ≡ task.cost_of other
