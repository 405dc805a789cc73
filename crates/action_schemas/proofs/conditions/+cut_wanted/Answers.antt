use Rattle.std.proofs.Common.{ℕ, not, List, [], ◌∷◌, ◌+◌, map, take, ap, subst, ◌∙◌}
use Rattle.std.specs.Prelude.{IfOk}
use Rattle.std.proofs.lemmas.Result.{IfOk-weaker}
use Rattle.pddl_syntax.specs.declared.types.Condition.{Condition}
use Rattle.normal_task.specs.declared.parts.Part.{Part}
use Rattle.normal_task.specs.Parts.{Made, Known, known, parts}
use Rattle.normal_rows.specs.MadeThings.{IsMadeOf}
use Rattle.action_schemas.specs.Cuts.{combined, wanted_of}
use Rattle.action_schemas.proofs.CutSteps.{imply-is, forall-is, exists-is}
use Rattle.action_schemas.proofs.WantedParts.{member-wanted, two-wanted}
use Rattle.normal_rows.proofs.TurnSteps.{twice-next}
use Rattle.action_schemas.proofs.conditions.+cut_wanted.Goals as goal

pub cut_members-loop-member-preserved : goal.cut_members-loop-member-preserved
cut_members-loop-member-preserved t c =
    let domain = c.args.here.now.numbering.now.domain in
    let problem = c.args.here.now.numbering.now.problem in
    let scope = c.args.here.now.scope.now in
    let around = c.args.here.now.around in
    let cut = λ (member : Known). member.cut c.args.positive scope around in
    let makes = λ (l : List Condition). map cut (map (known domain problem) l) in
    member-wanted c.args.wanted c.args.every c.both-are_paired.result c.both-are_paired.ensures around (makes (take c.loop-member.member-index c.args.members.now)) (makes (take (c.loop-member.member-index + 1) c.args.members.now)) (cut (known domain problem c.member-item.result))
    (twice-next cut (known domain problem) c.args.members.now c.loop-member.member-index c.member-item.result c.loop-member-test.true c.member-item.is)
    c.args.next c.loop-member.made.items c.loop-member.made.fresh c.loop-member.invariant
    c.in_ok-start.start (c.in_ok-start.ensures ∙ ap (λ (n : ℕ). c.args.next + n) c.len.ensures) c.in_ok-more.more.items c.in_ok-more.more.fresh
    (c.in_ok-more.ensures.0 ∙ c.are_made-are_more.ensures.same domain problem scope around c.in_ok-start.start, c.in_ok-more.ensures.1)
    c.in_ok-made-2.made.items c.in_ok-made-2.made.fresh c.in_ok-made-2.ensures.0 c.in_ok-made-2.ensures.1

pub cut_wanted-returns-in_ok-second-in-Imply : goal.cut_wanted-returns-in_ok-second-in-Imply
cut_wanted-returns-in_ok-second-in-Imply t c =
    let domain = c.args.here.now.numbering.now.domain in
    let problem = c.args.here.now.numbering.now.problem in
    let scope = c.args.here.now.scope.now in
    let around = c.args.here.now.around in
    subst (λ (m : Made Part). IfOk c.joined_made.result (IsMadeOf (wanted_of c.args.wanted m)))
    (imply-is domain problem c.args.positive scope around c.args.next c.args.condition.now c.in-Imply.premise c.in-Imply.conclusion c.get-premise.result.now c.get-conclusion.result.now c.in-Imply.field-2 c.in-Imply.is c.get-premise.ensures c.get-conclusion.ensures)
    (IfOk-weaker c.joined_made.result _ (IsMadeOf (wanted_of c.args.wanted (combined (not c.args.positive) around (parts domain problem c.get-premise.result.now (not c.args.positive) scope around ∷ parts domain problem c.get-conclusion.result.now c.args.positive scope around ∷ []) c.args.next))) (λ made are.
    two-wanted c.args.wanted around (parts domain problem c.get-premise.result.now (not c.args.positive) scope around) (parts domain problem c.get-conclusion.result.now c.args.positive scope around) c.args.next
    c.in_ok-first-in-Imply.first.items c.in_ok-first-in-Imply.first.fresh (c.in_ok-first-in-Imply.ensures.0 ∙ c.are_made-are_first.ensures.same domain problem scope around c.args.next, c.in_ok-first-in-Imply.ensures.1)
    c.in_ok-start-in-Imply.start (c.in_ok-start-in-Imply.ensures ∙ ap (λ (n : ℕ). c.args.next + n) c.len.ensures)
    c.in_ok-second-in-Imply.second.items c.in_ok-second-in-Imply.second.fresh (c.in_ok-second-in-Imply.ensures.0 ∙ c.are_made-are_second.ensures.same domain problem scope around c.in_ok-start-in-Imply.start, c.in_ok-second-in-Imply.ensures.1)
    (not c.args.positive) c.both-are_paired.result c.both-are_paired.ensures made.items made.fresh are.0 are.1) c.joined_made.ensures)

pub cut_wanted-returns-in-Forall : goal.cut_wanted-returns-in-Forall
cut_wanted-returns-in-Forall t c =
    let here = c.args.here.now in
    subst (λ (m : Made Part). IfOk c.cut_quantified.result (IsMadeOf (wanted_of c.args.wanted m)))
    (forall-is here.numbering.now.domain here.numbering.now.problem c.args.positive here.scope.now here.around c.args.next c.args.condition.now c.in-Forall.variables c.as_slice-in-Forall.result.now c.in-Forall.inside c.get-in-Forall.result.now c.in-Forall.field-2
    c.as_slice-in-Forall.ensures c.get-in-Forall.ensures c.by_forall-asked.result c.in-Forall.is c.by_forall-asked.ensures)
    c.cut_quantified.ensures

pub cut_wanted-returns-in-Exists : goal.cut_wanted-returns-in-Exists
cut_wanted-returns-in-Exists t c =
    let here = c.args.here.now in
    subst (λ (m : Made Part). IfOk c.cut_quantified-in-Exists.result (IsMadeOf (wanted_of c.args.wanted m)))
    (exists-is here.numbering.now.domain here.numbering.now.problem c.args.positive here.scope.now here.around c.args.next c.args.condition.now c.in-Exists.variables c.as_slice-in-Exists.result.now c.in-Exists.inside c.get-in-Exists.result.now c.in-Exists.field-2
    c.as_slice-in-Exists.ensures c.get-in-Exists.ensures c.by_exists-asked.result c.in-Exists.is c.by_exists-asked.ensures)
    c.cut_quantified-in-Exists.ensures
