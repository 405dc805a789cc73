use Rattle.std.proofs.Common.{◌≡◌, List, ℕ, Bool, ◌+◌, map, take, true, ap, ◌∙◌, arith}
use Rattle.std.proofs.lemmas.List.{take_all}
use Rattle.normal_task.specs.declared.parts.Part.{Part}
use Rattle.action_schemas.specs.declared.effects.Required.{Required}
use Rattle.normal_task.specs.Parts.{Made, all_of}
use Rattle.action_schemas.specs.Cuts.{cut_of, cuts_of, wanted_of}
use Rattle.action_schemas.proofs.WantedParts.{member-wanted, itself-and-true, all_required}
use Rattle.normal_rows.proofs.TurnSteps.{twice-next}
use Rattle.action_schemas.proofs.effects.cut_required.Goals as goal

pub loop-one-preserved : goal.loop-one-preserved
loop-one-preserved c =
    let domain = c.args.numbering.now.domain in
    let problem = c.args.numbering.now.problem in
    let makes = λ (l : List _). map (λ (cut : ℕ → ℕ → Made Part). cut c.args.around) (cuts_of domain problem l) in
    member-wanted c.all_have_parts-wanted.result true c.all_have_parts-wanted.result (itself-and-true c.all_have_parts-wanted.result) c.args.around (makes (take c.loop-one.one-index c.args.required.now)) (makes (take (c.loop-one.one-index + 1) c.args.required.now)) (cut_of domain problem c.one-item.result c.args.around)
    (twice-next (λ (cut : ℕ → ℕ → Made Part). cut c.args.around) (cut_of domain problem) c.args.required.now c.loop-one.one-index c.one-item.result c.loop-one-test.true c.one-item.is)
    c.args.next c.loop-one.made.items c.loop-one.made.fresh c.loop-one.invariant
    c.in_ok-start.start (c.in_ok-start.ensures ∙ ap (λ (n : ℕ). c.args.next + n) c.len.ensures) c.in_ok-more.more.items c.in_ok-more.more.fresh c.in_ok-more.ensures
    c.in_ok-made-2.made.items c.in_ok-made-2.made.fresh c.in_ok-made-2.ensures.0 c.in_ok-made-2.ensures.1

pub returns : goal.returns
returns c =
    let domain = c.args.numbering.now.domain in
    let problem = c.args.numbering.now.problem in
    let around = c.args.around in
    let required = c.args.required.now in
    let makes = λ (l : List Required). map (λ (cut : ℕ → ℕ → Made Part). cut around) (cuts_of domain problem l) in
    let wanted = c.all_have_parts-wanted.result in
    let whole : take c.loop-one.one-index required ≡ required = take_all c.loop-one.one-index required (omega (arith, c.loop-one-test.false)) in (
      c.loop-one.invariant.0 ∙ ap (λ (l : List Required). (wanted_of wanted (all_of around (makes l) c.args.next)).items) whole
          ∙ ap (λ (b : Bool). (wanted_of b (all_of around (makes required) c.args.next)).items) c.all_have_parts-wanted.ensures
          ∙ all_required domain problem around (λ (one : Required) (n : ℕ). c.as_many_parts.ensures domain problem one.condition.now true one.scope.now around n) required c.args.next,
      c.loop-one.invariant.1 ∙ ap (λ (l : List Required). (all_of around (makes l) c.args.next).fresh) whole,
    )
