-- How a run ends by what its files hold, and each of its stages.
use Rattle.std.specs.Prelude.{ℕ, List, [], ◌∷◌}
use Rattle.pddl_lexer.specs.declared.fault.Fault.{Fault}
use Rattle.messages.specs.declared.outcome.Message.{Message}
use Rattle.messages.specs.declared.outcome.Message.TheVariants as messages

-- There is something to go on with; or the file of this name is absent; or it is refused, with this message.
pub data Ending (A : Type 0) : Type 0 where
  Gives : (value : A) → Ending A
  Absent : (name : List ℕ) → Ending A
  Refused : (name : List ℕ) (message : Message) → Ending A

-- one stage after another: the next goes on with what the one before gives
infixl 10 ◌>>=◌
abbrev pub ◌>>=◌ : {A B : Type 0} → Ending A → (A → Ending B) → Ending B
Gives value >>= next = next value
Absent name >>= next = Absent name
Refused name message >>= next = Refused name message

-- the value, or the first of the faults of the file of this name
abbrev pub unless : {A : Type 0} → List ℕ → List Fault → A → Ending A
unless name [] value = Gives value
unless name (fault ∷ more) value = Refused name (messages.Fault fault)
