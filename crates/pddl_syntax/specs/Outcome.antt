-- What reading a place of a file gives: its value, or all its faults in order; and what the code answers.
use Rattle.std.specs.Prelude.{◌≡◌, ◌≢◌, List, [], ◌∷◌, ◌++◌, Result, Ok, Err}
use Rattle.pddl_lexer.specs.Members.{Members, NoMore, WordThen, ListThen}
use Rattle.pddl_lexer.specs.declared.fault.Fault.{Fault}
use Rattle.lists.specs.declared.stop.Stop.{Stop}
use Rattle.lists.specs.declared.stop.Stop.TheVariants as stops

-- a value; or a first fault and those after it
pub data Reading (A : Type 0) : Type 0 where
  Reads : (value : A) → Reading A
  Faults : (fault : Fault) (more : List Fault) → Reading A

-- made of what one place reads
abbrev pub made : {A B : Type 0} → (A → B) → Reading A → Reading B
made f (Reads x) = Reads (f x)
made f (Faults fault more) = Faults fault more

-- made of what two places read; their faults stand one after another
abbrev pub both : {A B C : Type 0} → (A → B → C) → Reading A → Reading B → Reading C
both f (Reads x) (Reads y) = Reads (f x y)
both f (Reads x) (Faults fault more) = Faults fault more
both f (Faults fault more) (Reads y) = Faults fault more
both f (Faults fault more) (Faults other others) = Faults fault (more ++ other ∷ others)

-- a list that is itself at fault isn't looked into
abbrev pub own : {A : Type 0} → Result (Unit {0}) Fault → Reading A → Reading A
own (Ok none) inside = inside
own (Err fault) inside = Faults fault []

-- the place is at fault
abbrev pub refused : {A : Type 0} → Fault → Reading A
refused fault = Faults fault []

-- these faults come last
abbrev pub with_last : {A : Type 0} → List Fault → Reading A → Reading A
with_last [] reading = reading
with_last (fault ∷ more) (Reads x) = Faults fault more
with_last (fault ∷ more) (Faults first others) = Faults first (others ++ fault ∷ more)

-- made of what each place reads
abbrev pub joined : {A : Type 0} → List (Reading A) → Reading (List A)
joined [] = Reads []
joined (first ∷ more) = both (λ x xs. x ∷ xs) first (joined more)

-- a rule at each member; it is given the member and those after it
abbrev pub at_each : {A : Type 0} → (Members → A) → Members → List A
at_each rule NoMore = []
at_each rule (WordThen at word more) = rule (WordThen at word more) ∷ at_each rule more
at_each rule (ListThen at inside more) = rule (ListThen at inside more) ∷ at_each rule more

-- each member, by the rule of one
abbrev pub every : {A : Type 0} → (Members → Reading A) → Members → Reading (List A)
every rule members = joined (at_each rule members)

-- ---- what the code answers

abbrev pub Outcome : Type 0 → Type 0
Outcome A = Result A (Stop Fault)

-- the value, or the first fault
abbrev pub first : {A : Type 0} → Reading A → Outcome A
first (Reads x) = Ok x
first (Faults fault more) = Err (stops.Fault fault)

-- What a function that reads gives is the value exactly where there is no fault, and else the first fault. Only where memory
-- runs out it gives `NoMemory` in place of either.
abbrev pub Gives : {A : Type 0} → Outcome A → Outcome A → Type 0
Gives (Ok x) reading = reading ≡ Ok x
Gives (Err e) reading = e ≢ stops.NoMemory → reading ≡ Err e
