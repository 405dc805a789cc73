use Rattle.std.proofs.Common.{◌≡◌, map}
use Rattle.std.proofs.lemmas.Result.{IfOk-weaker}
use Rattle.names.specs.Components.{has_one_root}
use Rattle.names.specs.Cycles.{closes, links_of}
use Rattle.names.proofs.Evidence.{shown_answers}
use Rattle.names.proofs.cycles.closing_among.Goals as goal

pub returns-then-are_right : goal.returns-then-are_right
returns-then-are_right c =
    IfOk-weaker c.stay.result
    (λ answers. answers.items ≡ map (λ arc. has_one_root c.in_ok-searches.searches.against.items arc.from arc.to) c.deref-then-are_right.result.now)
    (λ answers. answers.items ≡ map (closes (links_of c.args.pairs.now)) (links_of c.args.pairs.now))
    (λ answers. shown_answers c.args.names.now (links_of c.args.pairs.now) c.in_ok-searches.searches.against.items c.in_ok-searches.searches.along.items c.len-2.result
    c.in_ok-arcs.arcs.items c.deref-2.result.now c.deref-then-are_right.result.now answers.items c.len-2.ensures c.in_ok-arcs.ensures c.deref-2.ensures.value c.deref-then-are_right.ensures.value
    (c.are_right.ensures c.if-are_right.true))
    c.stay.ensures
