use Rattle.std.proofs.Common.{◌||◌, ◌∙◌, ap}
use Rattle.std.specs.List.{list_any}
use Rattle.std.proofs.lemmas.List.{take_all}
use Rattle.lists.proofs.LoopSteps.{any_turn}
use Rattle.names.specs.Names.{is_same}
use Rattle.mutex_groups.specs.Found.{gives}
use Rattle.mutex_groups.proofs.grouping.add_each_group.Goals as goal

pub loop-atom-preserved : goal.loop-atom-preserved
loop-atom-preserved c = λ facts weighed numbered group.
    any_turn c.args.init.now c.loop-atom.atom-index c.atom-item.result c.loop-atom-test.true c.atom-item.is (gives c.args.candidate.now c.args.init.now facts group) (list_any (is_same group) c.args.groups.now)
    (list_any (is_same group) c.loop-atom.groups) (list_any (is_same group) c.add_group.new.groups) (c.loop-atom.invariant facts weighed numbered group) (c.in_ok-add_group.ensures c.args.init.now facts weighed numbered group)

pub returns : goal.returns
returns c = λ facts weighed numbered group.
    c.loop-atom.invariant facts weighed numbered group
    ∙ ap (λ l. list_any (gives c.args.candidate.now c.args.init.now facts group) l || list_any (is_same group) c.args.groups.now) (take_all c.loop-atom.atom-index c.args.init.now c.loop-atom-test.false)
