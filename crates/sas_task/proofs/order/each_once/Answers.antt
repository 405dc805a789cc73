-- The removal of repeats leaves each item once.
use Rattle.std.proofs.Common.{rules}
use Rattle.std.specs.Ordering.{eq_by_cmp}
use Rattle.std.proofs.lemmas.Fn.{dedup_same}
use Rattle.sas_task.proofs.order.each_once.Goals as goal

pub returns : goal.returns
returns g c = dedup_same _ (eq_by_cmp g.T.Ranked.cmp) _ (λ x y b f' x' y' k. search rules) c.args.items.items c.dedup_by.new.self.items c.dedup_by.ensures.filtered
