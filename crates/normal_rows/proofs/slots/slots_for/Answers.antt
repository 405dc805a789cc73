use Rattle.std.proofs.Common.{◌≡◌, ◌++◌, ◌-◌, ◌+◌, ◌<◌, ap, ◌∙◌, take, reverse, arith, length}
use Rattle.normal_rows.specs.Asked.{asks}
use Rattle.normal_task.specs.Parts as spec
use Rattle.normal_rows.proofs.FreeVariables.{one_inwards}
use Rattle.normal_rows.proofs.slots.slots_for.Goals as goal

pub loop-left-preserved : goal.loop-left-preserved
loop-left-preserved c =
    let free = c.args.free.now in
    let variables = c.args.variables.now in
    let left = c.loop-left.left - 1 in
    let inside : left < length variables = omega (arith, c.loop-left.invariant.within, c.loop-left-test.true) in
    let next : left + 1 ≡ c.loop-left.left = omega (arith, c.loop-left-test.true) in
    record {
      within = omega (arith, c.loop-left.invariant.within);
      so_far =
          one_inwards free c.loop-left.inner c.push_if_free.new.inner variables left c.index-variables-left.result inside c.index-variables-left.is
          c.loop-left.slots.items c.push_if_free.new.slots.items c.in_ok-push_if_free.ensures.slots c.in_ok-push_if_free.ensures.inner
          ∙ ap (λ n. spec.slots_for (asks free c.loop-left.inner) (reverse (take n variables)) ++ reverse c.loop-left.slots.items) next ∙ c.loop-left.invariant.so_far;
    }
