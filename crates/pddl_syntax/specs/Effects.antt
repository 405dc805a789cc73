-- Effects (of PDDL 2.2, with costs of 3.1), or their faults.
use Rattle.std.specs.Prelude.{ℕ, Bool, ◌||◌, List, [], ◌∷◌, drop, slice_index_or, codes, if◌then◌else◌}
use Rattle.pddl_lexer.specs.declared.position.At.{At}
use Rattle.pddl_lexer.specs.Positions.{nowhere}
use Rattle.pddl_lexer.specs.Members.{Members, NoMore, WordThen, ListThen, is_empty, is_list, position, word, inside, rest}
use Rattle.pddl_lexer.specs.declared.fault.ShapePlace.TheVariants as places
use Rattle.pddl_syntax.specs.declared.effect.EffectHead.{EffectHead}
use Rattle.pddl_syntax.specs.declared.effect.EffectHead.TheVariants as heads
use Rattle.pddl_syntax.specs.declared.expected.Expected.TheVariants as expected
use Rattle.pddl_syntax.specs.declared.types.Atom.{Atom}
use Rattle.pddl_syntax.specs.declared.types.Cost.{Cost}
use Rattle.pddl_syntax.specs.declared.types.Cost.TheVariants as costs
use Rattle.pddl_syntax.specs.declared.types.Effect.{Effect}
use Rattle.pddl_syntax.specs.declared.types.Effect.TheVariants.{Nothing, Add, Delete, And, When, Forall, Increase}
use Rattle.pddl_syntax.specs.Conditions.{condition}
use Rattle.pddl_syntax.specs.Outcome.{Reading, Reads, made, both, own, refused, joined}
use Rattle.pddl_syntax.specs.Shapes.{unsupported, malformed, check_all, check_exact}
use Rattle.pddl_syntax.specs.Values.{atom, number, variables}
use Rattle.pddl_syntax.specs.Words.{spells}

-- a change of a number that is no increase
abbrev pub is_unsupported : List ℕ → Bool
is_unsupported bytes = spells (codes "decrease") bytes || spells (codes "assign") bytes || spells (codes "scale-up") bytes || spells (codes "scale-down") bytes

-- what the first word of an effect says
abbrev pub effect_head : List ℕ → EffectHead
effect_head bytes =
    if spells (codes "and") bytes then heads.And
    else if spells (codes "when") bytes then heads.When
    else if spells (codes "forall") bytes then heads.Forall
    else if spells (codes "not") bytes then heads.Not
    else if spells (codes "increase") bytes then heads.Increase
    else if is_unsupported bytes then heads.Unsupported
    else heads.Atom

-- the atom here, or the function that is increased
abbrev pub changed_atom : Members → Reading Atom
changed_atom m = atom expected.Term places.Effect (position m) (inside m)

-- a whole number, or (NAME TERM*)
abbrev pub cost : Members → Reading Cost
cost m = if is_list m then made costs.Term (atom expected.Term places.Cost (position m) (inside m)) else made costs.Number (number m)

-- A list with this head, at this position, with these members: `m` are those after the head, `members` those as effects, and `two` the second
-- of them.
unfoldable pub by_head : EffectHead → At → (whole m : Members) → (members : Reading (List Effect)) → (two : Reading Effect) → Reading Effect
by_head heads.And at whole m members two = made (λ effects. And effects at) (own (check_all (expected.List places.Effect) m) members)
by_head heads.When at whole m members two =
    own (check_exact places.Effect at (expected.List places.Condition ∷ expected.List places.Effect ∷ []) m)
    (both (λ condition effect. When condition effect at) (condition m) two)
by_head heads.Forall at whole m members two =
    own (check_exact places.Effect at (expected.List places.VariableList ∷ expected.List places.Effect ∷ []) m)
    (both (λ bound effect. Forall bound effect at) (variables m) two)
by_head heads.Not at whole m members two =
    own (check_exact places.Effect at (expected.List places.Effect ∷ []) m) (made Delete (changed_atom m))
by_head heads.Increase at whole m members two =
    own (check_exact places.Effect at (expected.List places.Effect ∷ expected.Cost ∷ []) m)
    (both (λ term cost. Increase term cost at) (changed_atom m) (cost (rest m)))
by_head heads.Unsupported at whole m members two = refused (unsupported at)
by_head heads.Atom at whole m members two = made Add (atom expected.Term places.Effect at whole)

-- a list at this position; `members` and `two` are what its members after the first are as effects
abbrev pub effect_list : At → Members → (members : Reading (List Effect)) → (two : Reading Effect) → Reading Effect
effect_list at inside members two =
    if is_empty inside then Reads (Nothing at)
    else if is_list inside then refused (malformed places.Effect (position inside))
    else by_head (effect_head (word inside)) at inside (rest inside) members two

-- where no effect stands; the faults of the list around it say so
abbrev pub no_effect : Reading Effect
no_effect = refused (malformed places.Effect nowhere)

-- the effect at a position
abbrev pub effect_at : List (Reading Effect) → ℕ → Reading Effect
effect_at readings position = slice_index_or readings position no_effect

-- each member as an effect
unfoldable pub effects : Members → List (Reading Effect)
effects NoMore = []
effects (WordThen at word more) = refused (malformed places.Effect at) ∷ effects more
effects (ListThen at inside more) = effect_list at inside (joined (drop 1 (effects inside))) (effect_at (effects inside) 2) ∷ effects more

-- the first member as an effect
unfoldable pub effect : Members → Reading Effect
effect m = effect_at (effects m) 0
