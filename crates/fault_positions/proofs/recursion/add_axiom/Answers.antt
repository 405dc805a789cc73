use Rattle.std.proofs.Common.{◌≡◌, ◌++◌, List, OnOk, map, ap, subst, ◌∙◌}
use Rattle.std.specs.List.{flat_map}
use Rattle.pddl_syntax.specs.Words.{Name}
use Rattle.names.specs.Links.{link}
use Rattle.fault_positions.specs.Mentions.{Mention, asked_predicates}
use Rattle.fault_positions.specs.Seen.{all_seen}
use Rattle.fault_positions.proofs.recursion.add_axiom.Goals as goal

pub returns : goal.returns
returns c =
    let grown = λ (from : Name) (mentions : List Mention). OnOk c.add_asked.result (c.add_asked.new.links ≡ c.args.links.now ++ map (λ predicate. link from predicate.name) (flat_map asked_predicates mentions)) in
    subst (grown c.args.rule.now.head.name.name) (ap all_seen c.deref.ensures.value ∙ c.in_ok-mentions.ensures {u = tt})
    (subst (λ (from : Name). grown from (all_seen c.deref.result.now)) c.as_slice.ensures c.add_asked.ensures)
