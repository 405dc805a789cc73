-- The repairs of a well-formed candidate are well formed, each once, and have one part more.
use Rattle.std.proofs.Common.{◌≡◌, Bool, true, false, [], Option, Some, None}
use Rattle.std.specs.Prelude.{if◌then◌else◌}
use Rattle.lists.proofs.Items.{Among, filter_among}
use Rattle.lists.proofs.NoRepeats.{Once, once_filter}
use Rattle.normal_task.specs.declared.task.Normal.{Normal}
use Rattle.contradictions.specs.declared.types.Candidate.{Candidate}
use Rattle.invariant_check.specs.declared.types.AddPlace.{AddPlace}
use Rattle.invariant_check.specs.Accepted.{is_light}
use Rattle.invariant_check.specs.Extensions.{extensions}
use Rattle.invariant_check.specs.Repairs.{first_unbalanced, balances_add}
use Rattle.invariant_check.specs.WellFormed.{is_well_formed}
use Rattle.invariant_check.proofs.Extended.{extension_formed, once_extensions}
use Rattle.invariant_guess.specs.Trial.{repairs_of, repairs}

pub repair_extends : (task : Normal) (candidate other : Candidate) → Among other (repairs task candidate) → Among other (extensions task candidate)
repair_extends task candidate other = by (is_light task candidate)
  where
    at : (first : Option AddPlace) → Among other (repairs_of task candidate first) → Among other (extensions task candidate)
    at None none = absurd none
    at (Some place) there = (filter_among (balances_add task place) other (extensions task candidate) there).0

    by : (b : Bool) → Among other (if b then repairs_of task candidate (first_unbalanced task candidate 0 task.schemas) else []) → Among other (extensions task candidate)
    by true there = at (first_unbalanced task candidate 0 task.schemas) there
    by false none = absurd none

pub repair_formed : (task : Normal) (candidate : Candidate) → is_well_formed task candidate ≡ true → (other : Candidate) → Among other (repairs task candidate) → is_well_formed task other ≡ true
repair_formed task candidate formed other there = extension_formed task candidate formed other (repair_extends task candidate other there)

pub once_repairs : (task : Normal) (candidate : Candidate) → is_well_formed task candidate ≡ true → Once (repairs task candidate)
once_repairs task candidate formed = by (is_light task candidate)
  where
    at : (first : Option AddPlace) → Once (repairs_of task candidate first)
    at None = tt
    at (Some place) = once_filter (balances_add task place) (extensions task candidate) (once_extensions task candidate formed)

    by : (b : Bool) → Once (if b then repairs_of task candidate (first_unbalanced task candidate 0 task.schemas) else [])
    by true = at (first_unbalanced task candidate 0 task.schemas)
    by false = tt
