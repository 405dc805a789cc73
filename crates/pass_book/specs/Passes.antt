-- What passes of each kind make of tasks, one after the other.
use Rattle.std.specs.Prelude.{ℕ, Bool, ◌==◌, not, List, Option}
use Rattle.std.specs.List.{list_any, find}
use Rattle.runs.specs.Runs.{Leads}
use Rattle.sas_task.specs.Task.{Task}
use Rattle.sas_restriction.specs.Reordered.{IsReordered}
use Rattle.sas_restriction.specs.Reduced.{IsReduced}
use Rattle.pass_possible.specs.Pruned.{IsPruned}
use Rattle.pass_book.specs.declared.kind.PassKind.{PassKind}
use Rattle.pass_book.specs.declared.kind.PassKind.TheVariants.{Order, Relevance, H2}

-- the new task is what a pass of the kind makes of the old one
abbrev pub Meets : PassKind → Task → Task → Type 0
Meets Order old new = IsReordered old new
Meets Relevance old new = IsReduced old new
Meets H2 old new = IsPruned old new

-- tasks lead from the old one to the new one, each made of the one before by a pass of the next kind
abbrev pub IsChain : List PassKind → Task → Task → Type 0
IsChain kinds old new = Leads (λ before kind after. Meets kind before after) old kinds new

-- each kind has a number of its own
abbrev pub number_of : PassKind → ℕ
number_of Order = 0
number_of Relevance = 1
number_of H2 = 2

abbrev pub same_kind : PassKind → PassKind → Bool
same_kind one other = number_of one == number_of other

-- whether the kind is among those held
abbrev pub is_held : List PassKind → PassKind → Bool
is_held held kind = list_any (λ k. same_kind k kind) held

-- the first of the kinds that isn't held
abbrev pub first_missing : List PassKind → List PassKind → Option PassKind
first_missing held kinds = find (λ kind. not (is_held held kind)) kinds
