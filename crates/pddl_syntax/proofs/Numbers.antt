-- No number that is read is too large, and no cost of an effect is.
use Rattle.std.proofs.Common.{◌≡◌, ℕ, zero, suc, ◌≤◌, Bool, true, false, List, [], ◌∷◌, map, drop, nat_le, refl, sym, subst}
use Rattle.std.specs.Prelude.{All, if◌then◌else◌}
use Rattle.std.specs.List.{flat_map}
use Rattle.std.proofs.lemmas.Bool.{leb-true}
use Rattle.std.proofs.lemmas.List.Elements.{All-nil, All-cons, All-head, All-tail, All-append}
use Rattle.pddl_lexer.specs.declared.position.At.{At}
use Rattle.pddl_lexer.specs.Positions.{nowhere}
use Rattle.pddl_lexer.specs.Members.{Members, NoMore, WordThen, ListThen, is_list, position, word, inside, rest}
use Rattle.pddl_lexer.specs.declared.fault.Fault.{Fault}
use Rattle.pddl_lexer.specs.declared.fault.ShapePlace.TheVariants as places
use Rattle.pddl_syntax.specs.declared.effect.EffectHead.{EffectHead}
use Rattle.pddl_syntax.specs.declared.effect.EffectHead.TheVariants as heads
use Rattle.pddl_syntax.specs.declared.expected.Expected.TheVariants as expected
use Rattle.pddl_syntax.specs.declared.types.Atom.{Atom}
use Rattle.pddl_syntax.specs.declared.types.Cost.{Cost}
use Rattle.pddl_syntax.specs.declared.types.Cost.TheVariants as costs
use Rattle.pddl_syntax.specs.declared.types.Effect.{Effect}
use Rattle.pddl_syntax.specs.declared.types.Effect.TheVariants.{Nothing, Add, Delete, And, When, Forall, Increase}
use Rattle.pddl_syntax.specs.Conditions.{condition}
use Rattle.pddl_syntax.specs.Effects.{changed_atom, cost, by_head, effect_head, effect_list, effect_at, effects, effect}
use Rattle.pddl_syntax.specs.Outcome.{Reading, Reads, made, own, refused, joined}
use Rattle.pddl_syntax.specs.Shapes.{check_all, check_exact, malformed, unsupported}
use Rattle.pddl_syntax.specs.Spelled.{IsSmall}
use Rattle.pddl_syntax.specs.Step.{increases_step, increases}
use Rattle.pddl_syntax.specs.Values.{atom, number, variables}
use Rattle.pddl_syntax.specs.Words.{largest}
use Rattle.pddl_syntax.proofs.ConditionCases.{Each}
use Rattle.pddl_syntax.proofs.EffectCases as e
use Rattle.pddl_syntax.proofs.Given.{own_reads, made_reads, both_reads, pairs_have, nothing_has, refused_never}
use Rattle.lists.specs.Digits.{value_of}

-- ---- numbers

pub number_small : (m : Members) (n : ℕ) → number m ≡ Reads n → n ≤ largest
number_small m n read = by (nat_le (value_of (word m)) largest) refl
  where
    by : (small : Bool) → nat_le (value_of (word m)) largest ≡ small → n ≤ largest
    by true small =
        let same : value_of (word m) ≡ n = cc (read, small) in
        subst (λ k. k ≤ largest) same (leb-true (value_of (word m)) largest small)
    by false large = absurd (cc (read, large))

-- ---- the costs of an effect

abbrev pub HasSmall : Effect → Type 0
HasSmall effect = All IsSmall (increases effect)

as_folded : (effect : Effect) (costs : List Cost) → increases effect ≡ costs → All IsSmall costs → HasSmall effect
as_folded effect costs same all = subst (All IsSmall) (sym same) all

pub nothing_small : (at : At) → HasSmall (Nothing at)
nothing_small at = as_folded (Nothing at) [] (e.fold-Nothing (List Cost) increases_step at) (All-nil IsSmall)

all_small : (members : List Effect) → All HasSmall members → All IsSmall (flat_map (λ costs. costs) (map increases members))
all_small [] small = All-nil IsSmall
all_small (member ∷ members) small =
    All-append IsSmall (increases member) (flat_map (λ costs. costs) (map increases members))
    (All-head HasSmall member members small) (all_small members (All-tail HasSmall member members small))

-- ---- effects that are read

cost_small : (m : Members) (c : Cost) → cost m ≡ Reads c → IsSmall c
cost_small m c e = by (is_list m) e
  where
    by : (listed : Bool) → (if listed then made costs.Term (atom expected.Term places.Cost (position m) (inside m)) else made costs.Number (number m)) ≡ Reads c → IsSmall c
    by true found = let read = made_reads costs.Term (atom expected.Term places.Cost (position m) (inside m)) c found in subst IsSmall read.1.1 tt
    by false found = let read = made_reads costs.Number (number m) c found in subst IsSmall read.1.1 (number_small m read.0 read.1.0)

abbrev ReadsSmall : Reading Effect → Type 0
ReadsSmall reading = (effect : Effect) → reading ≡ Reads effect → HasSmall effect

abbrev ReadSmall : Reading (List Effect) → Type 0
ReadSmall reading = (effects : List Effect) → reading ≡ Reads effects → All HasSmall effects

refused_small : (fault : Fault) → ReadsSmall (refused fault)
refused_small fault effect is = absurd (refused_never fault effect is)

members_small : (readings : List (Reading Effect)) → Each ReadsSmall readings → ReadSmall (joined readings)
members_small [] each effects is = nothing_has HasSmall effects is
members_small (reading ∷ readings) each effects is = pairs_have HasSmall reading (joined readings) each.0 (members_small readings each.1) effects is

after_first : (readings : List (Reading Effect)) → Each ReadsSmall readings → Each ReadsSmall (drop 1 readings)
after_first [] each = tt
after_first (reading ∷ readings) each = each.1

at_place : (readings : List (Reading Effect)) (place : ℕ) → Each ReadsSmall readings → ReadsSmall (effect_at readings place)
at_place [] place each = refused_small (malformed places.Effect nowhere)
at_place (one ∷ more) zero each = each.0
at_place (one ∷ more) (suc place) each = at_place more place each.1

module _ (at : At) (whole m : Members) (members : Reading (List Effect)) (two : Reading Effect) (all : ReadSmall members) (inner : ReadsSmall two) where
  by_head_small : (head : EffectHead) → ReadsSmall (by_head head at whole m members two)
  unfolding by_head
  by_head_small heads.And effect is =
      let read = made_reads (λ effects. And effects at) (own (check_all (expected.List places.Effect) m) members) effect is in
      let inside = own_reads (check_all (expected.List places.Effect) m) members read.0 read.1.0 in
      subst HasSmall read.1.1 (as_folded (And read.0 at) _ (e.fold-And (List Cost) increases_step read.0 at) (all_small read.0 (all read.0 inside.1)))
  by_head_small heads.When effect is =
      let read = own_reads (check_exact places.Effect at (expected.List places.Condition ∷ expected.List places.Effect ∷ []) m) _ effect is in
      let parts = both_reads (λ condition effect. When condition effect at) (condition m) two effect read.1 in
      subst HasSmall parts.1.1.1.1 (as_folded (When parts.0 parts.1.0 at) _ (e.fold-When (List Cost) increases_step parts.0 parts.1.0 at) (inner parts.1.0 parts.1.1.1.0))
  by_head_small heads.Forall effect is =
      let read = own_reads (check_exact places.Effect at (expected.List places.VariableList ∷ expected.List places.Effect ∷ []) m) _ effect is in
      let parts = both_reads (λ bound effect. Forall bound effect at) (variables m) two effect read.1 in
      subst HasSmall parts.1.1.1.1 (as_folded (Forall parts.0 parts.1.0 at) _ (e.fold-Forall (List Cost) increases_step parts.0 parts.1.0 at) (inner parts.1.0 parts.1.1.1.0))
  by_head_small heads.Not effect is =
      let read = own_reads (check_exact places.Effect at (expected.List places.Effect ∷ []) m) _ effect is in
      let deleted = made_reads Delete (changed_atom m) effect read.1 in
      subst HasSmall deleted.1.1 (as_folded (Delete deleted.0) [] (e.fold-Delete (List Cost) increases_step deleted.0) (All-nil IsSmall))
  by_head_small heads.Increase effect is =
      let read = own_reads (check_exact places.Effect at (expected.List places.Effect ∷ expected.Cost ∷ []) m) _ effect is in
      let parts = both_reads (λ term cost. Increase term cost at) (changed_atom m) (cost (rest m)) effect read.1 in
      let small = All-cons IsSmall parts.1.0 [] (cost_small (rest m) parts.1.0 parts.1.1.1.0) (All-nil IsSmall) in
      subst HasSmall parts.1.1.1.1 (as_folded (Increase parts.0 parts.1.0 at) _ (e.fold-Increase (List Cost) increases_step parts.0 parts.1.0 at) small)
  by_head_small heads.Unsupported effect is = absurd (refused_never (unsupported at) effect is)
  by_head_small heads.Atom effect is =
      let added = made_reads Add (atom expected.Term places.Effect at whole) effect is in
      subst HasSmall added.1.1 (as_folded (Add added.0) [] (e.fold-Add (List Cost) increases_step added.0) (All-nil IsSmall))

list_small : (at : At) (m : Members) (members : Reading (List Effect)) (two : Reading Effect) → ReadSmall members → ReadsSmall two → ReadsSmall (effect_list at m members two)
list_small at NoMore members two all inner effect is =
    let same : Nothing at ≡ effect = cc (is) in
    subst HasSmall same (nothing_small at)
list_small at (WordThen here word more) members two all inner effect is = by_head_small at (WordThen here word more) more members two all inner (effect_head word) effect is
list_small at (ListThen here inside more) members two all inner effect is = refused_small (malformed places.Effect here) effect is

effects_small : (m : Members) → Each ReadsSmall (effects m)
unfolding effects
effects_small NoMore = tt
effects_small (WordThen at word more) = (refused_small (malformed places.Effect at), effects_small more)
effects_small (ListThen at inside more) =
    let each = effects_small inside in
    let members = members_small (drop 1 (effects inside)) (after_first (effects inside) each) in
    (list_small at inside (joined (drop 1 (effects inside))) (effect_at (effects inside) 2) members (at_place (effects inside) 2 each), effects_small more)

-- an effect that is read has no cost that is too large
pub effect_small : (m : Members) (effect_read : Effect) → effect m ≡ Reads effect_read → HasSmall effect_read
unfolding effect
effect_small m effect_read is = at_place (effects m) 0 (effects_small m) effect_read is
