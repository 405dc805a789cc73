-- One name more, one that has no kind, and all of them.
use Rattle.std.proofs.Common.{◌+◌, map, drop, sym, ap, ◌∙◌}
use Rattle.translator.proofs.Requested.{nothing_yet, one_more, one_lacks, each_named, behind}
use Rattle.translator.specs.Asked.{kinds_named}
use Rattle.translator.proofs.request.kinds_named.Goals as goal

pub loop-name-init : goal.loop-name-init
loop-name-init g c =
    let held = map (λ pass. pass.kind) c.args.book.now.passes.items in
    let names = map (λ name. name.now) c.args.names.now in
    nothing_yet held (λ name. name.now) c.args.names.now ∙ ap (λ kinds. behind kinds (kinds_named held names)) (sym c.new-kinds.ensures.items)

pub returns-in_default : goal.returns-in_default
returns-in_default g c =
    one_lacks (map (λ pass. pass.kind) c.args.book.now.passes.items) (λ name. name.now) c.args.names.now c.loop-name.name-index _ c.loop-name.kinds.items c.loop-name-test.true
    (sym c.in_default.is ∙ c.kind_held.ensures) c.loop-name.invariant

pub loop-name-preserved : goal.loop-name-preserved
loop-name-preserved g c =
    let held = map (λ pass. pass.kind) c.args.book.now.passes.items in
    let names = map (λ name. name.now) c.args.names.now in
    one_more held (λ name. name.now) c.args.names.now c.loop-name.name-index _ c.in-Some.kind c.loop-name.kinds.items c.loop-name-test.true
    (sym c.in-Some.is ∙ c.kind_held.ensures) c.loop-name.invariant
    ∙ ap (λ kinds. behind kinds (kinds_named held (drop (c.loop-name.name-index + 1) names))) (sym c.in_ok-push.ensures.items)

pub returns : goal.returns
returns g c =
    each_named (map (λ pass. pass.kind) c.args.book.now.passes.items) (λ name. name.now) c.args.names.now c.loop-name.name-index c.loop-name.kinds.items c.loop-name-test.false c.loop-name.invariant
