-- One item more, and all of them.
use Rattle.std.proofs.Common.{◌≤◌, length, sym, ◌∙◌, arith}
use Rattle.lists.proofs.LoopSteps.{take_got}
use Rattle.sas_restriction.proofs.Pieces.{kept_piece, kept_pieces, piece_more, piece_all}
use Rattle.sas_restriction.specs.Listed.{chosen}
use Rattle.sas_restriction.specs.Choice.{rule_stays, new_rule}
use Rattle.sas_restriction.proofs.parts.rules_left.Goals as goal

pub loop-i-preserved : goal.loop-i-preserved
loop-i-preserved c =
    piece_more (kept_piece (rule_stays (chosen c.args.shown.now)) (new_rule (chosen c.args.shown.now))) c.args.task.now.rules c.loop-i.i c.rule.result.now c.loop-i.rules.items c.add_rule.new.rules.items
    (take_got c.args.task.now.rules c.loop-i.i c.rule.result.now c.rule.ensures) c.loop-i.invariant c.in_ok-add_rule.ensures

pub returns : goal.returns
returns c =
    let past : length c.args.task.now.rules ≤ c.loop-i.i = omega arith in
    piece_all (kept_piece (rule_stays (chosen c.args.shown.now)) (new_rule (chosen c.args.shown.now))) c.args.task.now.rules c.loop-i.i c.loop-i.rules.items past c.loop-i.invariant
    ∙ sym (kept_pieces (rule_stays (chosen c.args.shown.now)) (new_rule (chosen c.args.shown.now)) c.args.task.now.rules)
