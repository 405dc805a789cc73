use Rattle.std.proofs.Common.{[], sym, ap, ◌∙◌}
use Rattle.std.specs.List.{list_any}
use Rattle.names.specs.Names.{is_same}
use Rattle.names.specs.declared.links.Ends.{Ends}
use Rattle.names.proofs.CycleNames.{answer_at, named, passed, all_passed}
use Rattle.names.proofs.cycles.on_cycles.Goals as goal
use Rattle.names.proofs.cycles.on_cycles.Goals.{then-index+in_ok-add, else-index}

abbrev no_pair : Ends
no_pair = record { from = record { ref_ptr = (0, 0); now = [] }; to = record { ref_ptr = (0, 0); now = [] } }

pub loop-position-preserved : goal.loop-position-preserved
loop-position-preserved c =
    let pairs = c.args.pairs.now in
    let i = c.loop-position.position in
    let within = c.loop-position-test.true in
    let answer = answer_at pairs i no_pair within c.in_ok-answers.answers.items c.index.result.now c.in_ok-answers.ensures c.index.ensures in
    elim c.if-index.branch [
      | then-index+in_ok-add w ↦ λ name.
          ap (list_any (is_same name)) w.names-is
          ∙ named pairs i no_pair within c.loop-position.names w.add.new.self (sym answer ∙ w.if-index.true) c.loop-position.invariant w.in_ok-add.ensures.added name
      | else-index w ↦ λ name.
          ap (list_any (is_same name)) w.names-is ∙ passed pairs i no_pair within c.loop-position.names (sym answer ∙ w.if-index.false) c.loop-position.invariant name
    ]

pub returns : goal.returns
returns c = all_passed c.args.pairs.now c.loop-position.position c.loop-position.names c.loop-position-test.false c.loop-position.invariant
