use Rattle.std.proofs.Common.{◌≡◌, ◌<◌, ◌^◌, ℕ, List, ◌++◌, length, take, drop, sym, ◌∙◌, subst, arith}
use Rattle.std.specs.List.{All}
use Rattle.std.proofs.Math.Seq.{take-append_seam}
use Rattle.std.proofs.lemmas.List.Elements.{All-from_get_or}
use Rattle.reached_task.specs.declared.types.Reached.{Reached}
use Rattle.reached_task.specs.Lawful.{IsLawful}
use Rattle.reached_task.specs.Layers.{AreLayers}
use Rattle.names.specs.declared.arcs.Arc.{Arc}
use Rattle.axiom_layers.specs.Arcs.{arcs_of, AreSound, IsAbove, AreHeld}
use Rattle.axiom_layers.proofs.Found.{sound, are_layers}
use Rattle.axiom_layers.proofs.Lifts.{below_count}
use Rattle.axiom_layers.proofs.lifting.layers.Goals as goal

-- what is written over a whole list is the list
written : (len : ℕ) (now rest : List ℕ) → len ≡ length now → take len (now ++ rest) ≡ now
written len now rest is = subst (λ n. take n (now ++ rest) ≡ now) (sym is) (take-append_seam now rest)

found : (reached : Reached) → IsLawful reached → (arcs : List Arc) → arcs ≡ arcs_of reached → (layers : List ℕ) → length layers ≡ length reached.facts → AreHeld arcs layers → All (IsAbove layers) arcs → AreLayers reached layers
found reached lawful arcs is layers count held above =
    are_layers reached lawful layers count (subst (λ (l : List Arc). AreHeld l layers) is held) (subst (λ (l : List Arc). All (IsAbove layers) l) is above)

small : (count : ℕ) (arcs : List Arc) (layers : List ℕ) → length layers ≡ count → AreSound count arcs → AreHeld arcs layers → count < 2 ^ 63 → All (λ layer. layer < 2 ^ 63) layers
small count arcs layers same is held short =
    All-from_get_or (λ (layer : ℕ). layer < 2 ^ 63) layers 0 (λ fact within.
    let below = below_count arcs layers (subst (λ n. AreSound n arcs) (sym same) is) held fact within in
    omega (arith, below, same, short))

sound_arcs : (reached : Reached) → IsLawful reached → (arcs : List Arc) → arcs ≡ arcs_of reached → (count : ℕ) → length reached.facts ≡ count → AreSound count arcs
sound_arcs reached lawful arcs is count same = subst (λ n. AreSound n arcs) same (subst (λ (l : List Arc). AreSound (length reached.facts) l) (sym is) (sound reached lawful))

pub lift_to_rest-requires-clause-sound : goal.lift_to_rest-requires-clause-sound
lift_to_rest-requires-clause-sound c =
    let facts = c.len-facts.ensures in
    let count : length c.args.reached.now.facts ≡ length c.as_mut_slice.result.now = omega (arith, facts, c.as_mut_slice.ensures.len, c.in_ok-layers.ensures.len) in
    sound_arcs c.args.reached.now c.requires.lawful c.as_slice-2.result.now (c.as_slice-2.ensures.value ∙ c.in_ok-arcs.ensures) (length c.as_mut_slice.result.now) count

pub returns-clause-layers : goal.returns-clause-layers
returns-clause-layers c =
    let now : List ℕ = c.lift_to_rest.new.layers in
    let facts = c.len-facts.ensures in
    let count : length now ≡ length c.args.reached.now.facts = omega (arith, facts, c.as_mut_slice.ensures.len, c.in_ok-layers.ensures.len) in
    let len : c.in_ok-layers.layers.len ≡ length now = omega (arith, c.as_mut_slice.ensures.len) in
    subst (AreLayers c.args.reached.now) (sym (written c.in_ok-layers.layers.len now (drop (length now) c.in_ok-layers.layers.items) len))
    (found c.args.reached.now c.requires.lawful c.as_slice-2.result.now (c.as_slice-2.ensures.value ∙ c.in_ok-arcs.ensures) now count c.lift_to_rest.ensures.held c.lift_to_rest.ensures.above)

pub returns-clause-small : goal.returns-clause-small
returns-clause-small c =
    let now : List ℕ = c.lift_to_rest.new.layers in
    let size : length now ≡ length c.as_mut_slice.result.now = omega arith in
    let len : c.in_ok-layers.layers.len ≡ length now = omega (arith, c.as_mut_slice.ensures.len) in
    let is : AreSound (length c.as_mut_slice.result.now) c.as_slice-2.result.now = (
    let facts = c.len-facts.ensures in
    let count : length c.args.reached.now.facts ≡ length c.as_mut_slice.result.now = omega (arith, facts, c.as_mut_slice.ensures.len, c.in_ok-layers.ensures.len) in
    sound_arcs c.args.reached.now c.requires.lawful c.as_slice-2.result.now (c.as_slice-2.ensures.value ∙ c.in_ok-arcs.ensures) (length c.as_mut_slice.result.now) count
    ) in
    subst (All (λ (layer : ℕ). layer < 2 ^ 63)) (sym (written c.in_ok-layers.layers.len now (drop (length now) c.in_ok-layers.layers.items) len))
    (small (length c.as_mut_slice.result.now) c.as_slice-2.result.now now size is c.lift_to_rest.ensures.held (omega (arith, c.as_mut_slice.ensures.len)))
