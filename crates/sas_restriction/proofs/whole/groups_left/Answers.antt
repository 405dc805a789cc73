-- One item more, and all of them.
use Rattle.std.proofs.Common.{◌≤◌, ltb, length, sym, ◌∙◌, arith}
use Rattle.lists.proofs.LoopSteps.{take_got}
use Rattle.sas_restriction.proofs.Pieces.{made_piece, made_pieces, piece_more, piece_all}
use Rattle.sas_restriction.specs.Listed.{chosen}
use Rattle.sas_restriction.specs.Choice.{new_group}
use Rattle.sas_restriction.proofs.whole.groups_left.Goals as goal

pub loop-i-preserved : goal.loop-i-preserved
loop-i-preserved c =
    piece_more (made_piece (new_group (chosen c.args.shown.now)) (λ g. ltb 1 (length g.facts))) c.args.task.now.groups c.loop-i.i c.group.result.now c.loop-i.groups.items c.add_group.new.groups.items
    (take_got c.args.task.now.groups c.loop-i.i c.group.result.now c.group.ensures) c.loop-i.invariant c.in_ok-add_group.ensures

pub returns : goal.returns
returns c =
    let past : length c.args.task.now.groups ≤ c.loop-i.i = omega arith in
    piece_all (made_piece (new_group (chosen c.args.shown.now)) (λ g. ltb 1 (length g.facts))) c.args.task.now.groups c.loop-i.i c.loop-i.groups.items past c.loop-i.invariant
    ∙ sym (made_pieces (new_group (chosen c.args.shown.now)) (λ g. ltb 1 (length g.facts)) c.args.task.now.groups)
