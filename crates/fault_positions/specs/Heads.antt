-- What a table of declared heads knows of them.
use Rattle.std.specs.Prelude.{◌≡◌, ℕ, Bool, ◌&&◌, ◌==◌, List, length, nat_eq}
use Rattle.std.specs.Borrow.{Bor}
use Rattle.std.specs.List.{list_any}
use Rattle.pddl_syntax.specs.declared.types.Head.{Head}
use Rattle.pddl_syntax.specs.Words.{Name, is_same}
use Rattle.fault_positions.specs.Names.{is_declared}

-- one of the heads has the name, and so many variables
abbrev pub takes : List Head → Name → ℕ → Bool
takes heads name arity = list_any (λ head. is_same head.name.name name && (length head.variables == arity)) heads

-- a name in memory, with a number of arguments
abbrev pub Key : Type 0
Key = Bor (List ℕ) × ℕ

abbrev pub is_same_key : Key → Key → Bool
is_same_key key other = is_same key.0.now other.0.now && nat_eq key.1 other.1

-- the names, and the names with their numbers of arguments, are those of the heads
pub record Know (heads : List Head) (names : List Name) (keys : List Key) : Type 0 where
  pub named : (name : Name) → list_any (is_same name) names ≡ is_declared heads name
  pub used : (key : Key) → list_any (is_same_key key) keys ≡ takes heads key.0.now key.1
