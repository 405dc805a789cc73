use Rattle.std.proofs.Common.{refl, ap, inl}
use Rattle.std.specs.Prelude.{option_map}
use Rattle.translator.specs.Store.{store}
use Rattle.translator.proofs.Plans.{no_plan}
use Rattle.translator.proofs.work.plan_lines.Goals as goal

pub returns-in-None-clause-ok : goal.returns-in-None-clause-ok
returns-in-None-clause-ok g c = no_plan (store g.F.Files c.args.files.now) _ c.args.task.now _ (ap (option_map (λ name. name.now)) c.in-None.is) c.new.ensures.items

pub returns-in-None-clause-asks : goal.returns-in-None-clause-asks
returns-in-None-clause-asks g c = inl refl
