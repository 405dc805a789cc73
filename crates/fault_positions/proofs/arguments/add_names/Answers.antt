use Rattle.std.specs.List.{list_any}
use Rattle.pddl_syntax.specs.Words.{is_same}
use Rattle.fault_positions.proofs.NameTests.{names_turn}
use Rattle.fault_positions.proofs.arguments.add_names.Goals as goal

pub loop-typed-preserved : goal.loop-typed-preserved
loop-typed-preserved c =
    names_turn (λ typed. typed.name.name) (λ other. list_any (is_same other) c.args.names.now)
    c.args.list.now c.loop-typed.typed-index c.typed-item.result c.loop-typed-test.true c.typed-item.is
    c.loop-typed.names c.add.new.self c.as_slice.result.now c.as_slice.ensures c.in_ok-add.ensures.added c.loop-typed.invariant
