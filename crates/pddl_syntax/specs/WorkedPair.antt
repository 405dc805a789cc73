-- A domain and a problem for worked examples: a lamp that one action switches on, which costs 3.
use Rattle.std.specs.Prelude.{true, [], ◌∷◌, codes}
use Rattle.pddl_lexer.specs.declared.position.At.{At}
use Rattle.pddl_syntax.specs.declared.types.Action.{Action}
use Rattle.pddl_syntax.specs.declared.types.Atom as atoms
use Rattle.pddl_syntax.specs.declared.types.Condition.TheVariants.{True, Atom}
use Rattle.pddl_syntax.specs.declared.types.Cost.TheVariants.{Number}
use Rattle.pddl_syntax.specs.declared.types.Domain.{Domain}
use Rattle.pddl_syntax.specs.declared.types.Effect.TheVariants.{Add, And, Increase}
use Rattle.pddl_syntax.specs.declared.types.Named.{Named}
use Rattle.pddl_syntax.specs.declared.types.Problem.{Problem}
use Rattle.pddl_syntax.specs.Words.{Name}

-- the first position of a text
abbrev pub start : At
start = record { line = 1; column = 1 }

-- the name, at the start
abbrev pub named : Name → Named
named name = record { name = name; at = start }

-- an atom without arguments
abbrev pub alone : Name → atoms.Atom
alone name = record { predicate = named name; terms = []; at = start }

-- `(:action switch :effect (and (lit) (increase (total-cost) 3)))`
abbrev pub switch : Action
switch =
    record {
      name = named (codes "switch");
      parameters = [];
      precondition = True start;
      effect = And (Add (alone (codes "lit")) ∷ Increase (alone (codes "total-cost")) (Number 3) start ∷ []) start;
    }

abbrev pub lamp : Domain
lamp =
    record {
      types = [];
      constants = [];
      predicates = record { name = named (codes "lit"); variables = [] } ∷ [];
      functions = record { name = named (codes "total-cost"); variables = [] } ∷ [];
      actions = switch ∷ [];
      axioms = [];
    }

-- the lamp is off, is to be lit, and the total cost is to be small
abbrev pub lit_lamp : Problem
lit_lamp = record { objects = []; init = []; goal = Atom (alone (codes "lit")); metric = true }
