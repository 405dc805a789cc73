use Rattle.std.proofs.Common.{◌≡◌, ℕ, Bool, true, false, not, List, [], ◌∷◌, Some, None, refl, sym, ap, ◌∙◌, subst, if◌then◌else◌}
use Rattle.std.specs.Prelude.{is_some}
use Rattle.std.proofs.lemmas.Bool.{eqb-true}
use Rattle.sas_task.specs.declared.parts.Operator.{Operator}
use Rattle.plan_backmap.specs.Lines.{is_comment, is_step, words, name}
use Rattle.plan_backmap.specs.declared.fault.PlanFault.TheVariants.{BadLine, UnknownStep}
use Rattle.plan_backmap.specs.Plans.{cost_of, step_of, fault_of}
use Rattle.plan_backmap.proofs.mapping.step_of.Goals as goal

-- a comment is no step
no_step : (operators : List Operator) (line : List ℕ) → is_comment line ≡ true → None ≡ step_of operators line
no_step operators [] is = refl
no_step operators (b ∷ line) is = subst (λ (c : ℕ). None ≡ step_of operators (c ∷ line)) (sym (eqb-true b 59 is)) refl

-- what is neither a comment nor a step is a bad line
bad_line : (operators : List Operator) (number : ℕ) (line : List ℕ) → is_comment line ≡ false → is_step line ≡ false → fault_of operators number line ≡ Some (BadLine number)
bad_line operators number line no_comment no_step =
    let known = if is_some (cost_of operators (name (words line))) then None else Some (UnknownStep number) in
    ap (λ (t : Bool). if t then None else if not (is_step line) then Some (BadLine number) else known) no_comment
    ∙ ap (λ (t : Bool). if not t then Some (BadLine number) else known) no_step

pub returns-then-is_comment-clause-step : goal.returns-then-is_comment-clause-step
returns-then-is_comment-clause-step c = no_step c.args.costs.now.operators c.args.line.now (sym c.is_comment.ensures ∙ c.if-is_comment.true)

pub returns-then-not-is_step-clause-fault : goal.returns-then-not-is_step-clause-fault
returns-then-not-is_step-clause-fault c =
    bad_line c.args.costs.now.operators c.args.number c.args.line.now (sym c.is_comment.ensures ∙ c.if-is_comment.false) (sym c.is_step.ensures.step ∙ c.if-not-is_step.true)
