use Rattle.std.proofs.Common.{List, [], ◌∷◌, ◌++◌, ◌+◌, ℕ, true, map, take, refl, sym, ap, subst, ◌∙◌}
use Rattle.std.specs.Prelude.{IfOk}
use Rattle.pddl_syntax.specs.declared.types.Effect.{Effect}
use Rattle.pddl_syntax.specs.declared.types.Typed.{Typed}
use Rattle.normal_task.specs.declared.parts.Part.{Part}
use Rattle.normal_task.specs.declared.task.EffectRow.{EffectRow}
use Rattle.normal_task.specs.Normalised.{Rows, rows_of, for_each}
use Rattle.normal_task.specs.Parts.{Made, parts}
use Rattle.normal_rows.specs.MadeThings.{IsMadeOf}
use Rattle.action_schemas.specs.Cuts.{cuts_of}
use Rattle.action_schemas.proofs.EffectRows.{when-is, forall-is, longer-cuts}
use Rattle.normal_rows.proofs.TurnSteps.{twice-next, turn-more}
use Rattle.action_schemas.proofs.effects.+rows_of.Goals as goal

pub rows_of_all-loop-member-preserved : goal.rows_of_all-loop-member-preserved
rows_of_all-loop-member-preserved t c =
    let domain = c.args.numbering.now.domain in
    let problem = c.args.numbering.now.problem in
    let around = c.args.around.now in
    let inside = λ (member : Rows domain problem). member (cuts_of domain problem around.required.now) around.scope.now around.count in
    let makes = λ (l : List Effect). map inside (map (rows_of domain problem) l) in
    turn-more (makes (take c.loop-member.member-index c.args.members.now)) (makes (take (c.loop-member.member-index + 1) c.args.members.now)) (inside (rows_of domain problem c.member-item.result))
    (twice-next inside (rows_of domain problem) c.args.members.now c.loop-member.member-index c.member-item.result c.loop-member-test.true c.member-item.is)
    c.args.next c.loop-member.made.items c.loop-member.made.fresh c.loop-member.invariant
    c.in_ok-start.start (c.in_ok-start.ensures ∙ ap (λ (n : ℕ). c.args.next + n) c.len.ensures) c.in_ok-more.more.items c.in_ok-more.more.fresh c.in_ok-more.ensures
    c.in_ok-made.made.items c.in_ok-made.made.fresh c.in_ok-made.ensures.0 c.in_ok-made.ensures.1

pub rows_of-returns-in_ok-required-in-When : goal.rows_of-returns-in_ok-required-in-When
rows_of-returns-in_ok-required-in-When t c =
    let domain = c.args.numbering.now.domain in
    let problem = c.args.numbering.now.problem in
    let around = c.args.around.now in
    let cuts = cuts_of domain problem around.required.now in
    let longer : List (ℕ → ℕ → Made Part) = cuts ++ (λ (n : ℕ). parts domain problem c.in-When.condition true around.scope.now n) ∷ [] in
    subst (λ (wanted : Made EffectRow). IfOk c.rows_of.result (IsMadeOf wanted))
    (ap (λ (l : List (ℕ → ℕ → Made Part)). rows_of domain problem c.get.result.now l around.scope.now around.count c.args.next)
    (longer-cuts domain problem around.scope.now c.in-When.condition around.required.now c.as_slice-in-When.result.now _ (c.as_slice-in-When.ensures.value ∙ c.in_ok-required-in-When.ensures) refl refl)
    ∙ ap (λ (e : Effect). rows_of domain problem e longer around.scope.now around.count c.args.next) c.get.ensures
    ∙ when-is domain problem cuts around.scope.now around.count c.args.next c.in-When.inside c.in-When.field-2 c.in-When.condition
    ∙ ap (λ (e : Effect). rows_of domain problem e cuts around.scope.now around.count c.args.next) (sym c.in-When.is))
    c.rows_of.ensures

pub rows_of-returns-in-Forall : goal.rows_of-returns-in-Forall
rows_of-returns-in-Forall t c =
    let domain = c.args.numbering.now.domain in
    let problem = c.args.numbering.now.problem in
    let around = c.args.around.now in
    let cuts = cuts_of domain problem around.required.now in
    subst (λ (wanted : Made EffectRow). IfOk c.rows_for_each.result (IsMadeOf wanted))
    (ap (λ (v : List Typed). for_each domain problem v (rows_of domain problem c.get-in-Forall.result.now) cuts around.scope.now around.count c.args.next) c.as_slice-in-Forall.ensures
    ∙ ap (λ (e : Effect). for_each domain problem c.in-Forall.variables (rows_of domain problem e) cuts around.scope.now around.count c.args.next) c.get-in-Forall.ensures
    ∙ forall-is domain problem cuts around.scope.now around.count c.args.next c.in-Forall.inside c.in-Forall.field-2 c.in-Forall.variables
    ∙ ap (λ (e : Effect). rows_of domain problem e cuts around.scope.now around.count c.args.next) (sym c.in-Forall.is))
    c.rows_for_each.ensures
