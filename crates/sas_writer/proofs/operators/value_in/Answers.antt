use Rattle.std.proofs.Common.{rules}
use Rattle.std.proofs.lemmas.List.Sorted.{answers_always}
use Rattle.sas_writer.proofs.Searches.{value_found, value_absent}
use Rattle.sas_writer.proofs.operators.value_in.Goals as goal

pub returns-in-Ok : goal.returns-in-Ok
returns-in-Ok c =
    value_found c.args.conditions.now c.args.var c.requires c.in-Ok.at _ c.in-Ok.ensures.bound (c.in-Ok.ensures.position (λ p. p.var) (answers_always _ _ _ (λ f a r g called. search rules)))

pub returns-in-Err : goal.returns-in-Err
returns-in-Err c =
    value_absent c.args.conditions.now c.args.var c.requires c.in-Err.field-0 (c.in-Err.ensures.position (λ p. p.var) (answers_always _ _ _ (λ f a r g called. search rules)))
