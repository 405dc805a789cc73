-- A table of heads with their numbers of variables, with one head more.
use Rattle.std.proofs.Common.{◌≡◌, ℕ, ◌+◌, ◌<◌, true, false, cond, ◌&&◌, ◌||◌, List, [], ◌∷◌, length, take, get_or, nat_eq, sym, ap, ◌∙◌}
use Rattle.std.specs.List.{list_any}
use Rattle.std.proofs.lemmas.List.Folds.{list_any-append}
use Rattle.lists.proofs.LoopSteps.{take_next}
use Rattle.pddl_syntax.specs.declared.types.Head.{Head}
use Rattle.pddl_syntax.specs.Words.{is_same}
use Rattle.fault_positions.specs.Heads.{Key, is_same_key, takes}
use Rattle.lists.proofs.Items.{last_of}

-- the keys are those of the heads
abbrev pub AreKeys : List Head → List Key → Type 0
AreKeys heads keys = (other : Key) → list_any (is_same_key other) keys ≡ takes heads other.0.now other.1

pub keys_none : (keys : List Key) → keys ≡ [] → AreKeys [] keys
keys_none keys none other = ap (list_any (is_same_key other)) none

pub keys_turn : (heads : List Head) (i : ℕ) (head : Head) → i < length heads → head ≡ get_or heads i head
    → (keys new_keys : List Key) (key : Key) → key.0.now ≡ head.name.name → key.1 ≡ length head.variables
    → ((other : Key) → list_any (is_same_key other) new_keys ≡ cond (is_same_key key other) true (list_any (is_same_key other) keys))
    → AreKeys (take i heads) keys
    → AreKeys (take (i + 1) heads) new_keys
keys_turn heads i head within is_head keys new_keys key is_name is_arity keyed known other =
    keyed other
    ∙ ap (cond (is_same_key key other) true) (known other)
    ∙ last_of (is_same_key key other) (takes (take i heads) other.0.now other.1)
    ∙ ap (λ name. takes (take i heads) other.0.now other.1 || ((is_same name other.0.now && nat_eq key.1 other.1) || false)) is_name
    ∙ ap (λ arity. takes (take i heads) other.0.now other.1 || ((is_same head.name.name other.0.now && nat_eq arity other.1) || false)) is_arity
    ∙ sym (list_any-append (λ head. is_same head.name.name other.0.now && nat_eq (length head.variables) other.1) (take i heads) (head ∷ []))
    ∙ ap (λ heads. takes heads other.0.now other.1) (sym (take_next heads i head within is_head))
