use Rattle.std.proofs.Common.{true, false, cond, Some, None, map, sym, ap, ◌∙◌}
use Rattle.std.specs.Prelude.{filter}
use Rattle.std.proofs.lemmas.Option.{cond_some}
use Rattle.reached_task.specs.Reachable.{is_among, number_of}
use Rattle.relaxed_reach.proofs.KeptTurns.{is_none, number_turn, all_next}
use Rattle.relaxed_reach.proofs.numbered.all_numbers.Goals as goal

pub loop-atom-preserved : goal.loop-atom-preserved
loop-atom-preserved c =
    let facts = c.args.facts.now in
    let atoms = c.args.atoms.now in
    let i = c.loop-atom.atom-index in
    let atom = c.atom-item.result in
    let told = sym c.number.ensures ∙ c.in-Some.is in
    let found = cond_some (is_among facts atom) (number_of facts atom) c.in-Some.number told in (
      c.in_ok-push.ensures.items ∙ number_turn facts atoms i atom c.loop-atom-test.true c.atom-item.is c.loop-atom.numbers.items c.loop-atom.invariant.0 c.in-Some.number told,
      all_next facts atoms i atom c.loop-atom-test.true c.atom-item.is _ c.loop-atom.invariant.1 true found.0,
    )

pub returns-in_default : goal.returns-in_default
returns-in_default c =
    let facts = c.args.facts.now in
    let atoms = c.args.atoms.now in
    let atom = c.atom-item.result in
    let none = is_none (is_among facts atom) (number_of facts atom) (sym c.number.ensures ∙ c.in_default.is) in
    sym (ap (λ all. cond all (Some (map (number_of facts) (filter (is_among facts) atoms))) None)
    (all_next facts atoms c.loop-atom.atom-index atom c.loop-atom-test.true c.atom-item.is _ c.loop-atom.invariant.1 false none))
