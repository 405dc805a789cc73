use Rattle.fault_positions.proofs.ConditionSizes.{imply_listed, imply_paired, forall_replaced, exists_replaced, paired_after, listed_after}
use Rattle.fault_positions.proofs.sizes.+size_of.Goals as goal

pub size_listed-loop-member-preserved : goal.size_listed-loop-member-preserved
size_listed-loop-member-preserved t c =
    listed_after c.args.positive c.args.members.now c.loop-member.member-index c.member-item.result c.loop-member-test.true c.member-item.is
    c.loop-member.all c.size_of.result c.listed_with-all.result c.size_of.ensures c.loop-member.invariant c.listed_with-all.ensures

pub size_paired-loop-member-preserved : goal.size_paired-loop-member-preserved
size_paired-loop-member-preserved t c =
    paired_after c.args.positive c.args.members.now c.loop-member.member-index c.member-item.result c.loop-member-test.true c.member-item.is
    c.loop-member.all c.size_of.result c.paired_with-all.result c.size_of.ensures c.loop-member.invariant c.paired_with-all.ensures

pub size_of-returns-in-Imply-true : goal.size_of-returns-in-Imply-true
size_of-returns-in-Imply-true t c =
    imply_listed c.in-Imply-true.premise c.in-Imply-true.conclusion c.in-Imply-true.field-2-0 c.args.condition.now c.get-in-Imply-true.result.now c.get-in-Imply-true-2.result.now
    c.in-Imply-true.is-0 c.get-in-Imply-true.ensures c.get-in-Imply-true-2.ensures c.args.positive c.size_of-premise.result c.size_of-in-Imply-true.result c.listed_with.result
    c.in-Imply-true.is-1 c.size_of-premise.ensures c.size_of-in-Imply-true.ensures c.listed_with.ensures

pub size_of-returns-in-Imply-false : goal.size_of-returns-in-Imply-false
size_of-returns-in-Imply-false t c =
    imply_paired c.in-Imply-false.premise c.in-Imply-false.conclusion c.in-Imply-false.field-2-0 c.args.condition.now c.get-in-Imply-false.result.now c.get-in-Imply-false-2.result.now
    c.in-Imply-false.is-0 c.get-in-Imply-false.ensures c.get-in-Imply-false-2.ensures c.args.positive c.size_of-premise-in-Imply-false.result c.size_of-in-Imply-false.result c.paired_with.result
    c.in-Imply-false.is-1 c.size_of-premise-in-Imply-false.ensures c.size_of-in-Imply-false.ensures c.paired_with.ensures

pub size_of-returns-in-Forall-true : goal.size_of-returns-in-Forall-true
size_of-returns-in-Forall-true t c =
    forall_replaced c.in-Forall-true.field-0-0 c.in-Forall-true.inside c.in-Forall-true.at c.args.condition.now c.get-in-Forall-true.result.now c.get-in-Forall-true.ensures c.args.positive
    c.size_of-in-Forall-true.result c.replaced_at.result c.in-Forall-true.is-0 c.in-Forall-true.is-1 c.size_of-in-Forall-true.ensures c.replaced_at.ensures

pub size_of-returns-in-Exists-false : goal.size_of-returns-in-Exists-false
size_of-returns-in-Exists-false t c =
    exists_replaced c.in-Exists-false.field-0-0 c.in-Exists-false.inside c.in-Exists-false.at c.args.condition.now c.get-in-Exists-false.result.now c.get-in-Exists-false.ensures c.args.positive
    c.size_of-in-Exists-false.result c.replaced_at-in-Exists-false.result c.in-Exists-false.is-0 c.in-Exists-false.is-1 c.size_of-in-Exists-false.ensures c.replaced_at-in-Exists-false.ensures
