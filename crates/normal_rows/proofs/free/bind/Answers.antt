use Rattle.std.proofs.Common.{Bool, ◌||◌, take, sym, ap, ◌∙◌}
use Rattle.std.specs.List.{list_any}
use Rattle.lists.proofs.LoopSteps.{any_next}
use Rattle.pddl_syntax.specs.Words.{Name, is_same}
use Rattle.pddl_syntax.specs.declared.types.Typed.{Typed}
use Rattle.normal_task.specs.Parts.{is_listed}
use Rattle.normal_rows.proofs.FreeNames.{goes-further, one-more, same-swap}
use Rattle.normal_rows.proofs.free.bind.Goals as goal

pub loop-variable-preserved : goal.loop-variable-preserved
loop-variable-preserved c =
    let before = c.loop-variable.bound in
    let variable = c.variable-item.result in
    let listed = take c.loop-variable.variable-index c.args.variables.now in record {
      on = goes-further c.args.bound.now before c.add.new.self c.as_slice.result.now c.loop-variable.invariant.on (list_any (is_same c.as_slice.result.now) before) c.in_ok-add.ensures.names;
      binds = λ name.
          c.in_ok-add.ensures.added name ∙ ap (λ (n : Name). is_same name n || list_any (is_same name) before) c.as_slice.ensures
          ∙ ap (λ (b : Bool). is_same name variable.name.name || b) (c.loop-variable.invariant.binds name)
          ∙ one-more (is_same name variable.name.name) (is_listed listed name) (list_any (is_same name) c.args.bound.now)
          ∙ ap (λ (b : Bool). b || list_any (is_same name) c.args.bound.now)
          (ap (λ (b : Bool). is_listed listed name || b) (same-swap name variable.name.name)
          ∙ sym (any_next c.args.variables.now c.loop-variable.variable-index variable c.loop-variable-test.true c.variable-item.is (λ (v : Typed). is_same v.name.name name)));
    }
