use Rattle.std.proofs.Common.{Bor, ◌∷◌, [], ◌++◌, map, take_all, ap, ◌∙◌}
use Rattle.std.proofs.lemmas.List.{map-append}
use Rattle.pddl_syntax.specs.Holds.{object_of}
use Rattle.pddl_syntax.specs.Words.{Name}
use Rattle.fault_positions.specs.AtomTables.{names_in}
use Rattle.lists.proofs.LoopSteps.{map_turn}
use Rattle.fault_positions.proofs.initial.key_of.Goals as goal

pub loop-term-preserved : goal.loop-term-preserved
loop-term-preserved c =
    let now = λ (name : Bor Name). name.now in
    map_turn c.as_slice-term-items.result.now c.loop-term.term-index c.term-item.result c.loop-term-test.true c.term-item.is (object_of [])
    (c.args.atom.now.predicate.name ∷ []) (names_in c.loop-term.key) (names_in c.push-in-loop-term.new.self) c.loop-term.invariant
    (ap (map now) (c.in_ok-push-2.ensures {u = tt}).items
    ∙ map-append now c.loop-term.key.items (c.object_name.result ∷ [])
    ∙ ap (λ (name : Name). names_in c.loop-term.key ++ name ∷ []) c.object_name.ensures)

pub returns : goal.returns
returns c =
    c.loop-term.invariant
    ∙ ap (λ terms. c.args.atom.now.predicate.name ∷ map (object_of []) terms)
    (take_all c.loop-term.term-index c.as_slice-term-items.result.now c.loop-term-test.false ∙ c.as_slice-term-items.ensures)
