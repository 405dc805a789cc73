use Rattle.std.proofs.Common.{◌≡◌, ◌∙◌, ap}
use Rattle.indexmap.proofs.CallerLemmas.{Drains-YieldsInOrder}
use Rattle.indexmap.specs.IndexSet.{insert_all}
use Rattle.invariant_guess.specs.Trial.{is_same}
use Rattle.invariant_guess.proofs.guess.add_new.Goals as goal

pub returns : goal.returns
returns c =
    let ran = c.in_ok-extend.ensures.ran in
    let all : ran.1 ≡ c.into_vec.result.items = Drains-YieldsInOrder _ _ ran.0 ran.1 ran.2.3 ran.4 ∙ ran.2.0 in
    ran.3.0 ∙ ap (insert_all is_same c.args.queue.now.keys) (all ∙ c.into_vec.ensures)
