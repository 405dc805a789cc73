use Rattle.std.proofs.Common.{◌∙◌, sym, ap}
use Rattle.std.specs.Option.{option_copied}
use Rattle.ground_task.proofs.KeyTables.{numbers-some, numbers-none}
use Rattle.ground_task.proofs.buckets.Buckets.numbers.Goals as goal

pub returns-in-Some : goal.returns-in-Some
returns-in-Some c =
    c.as_slice.ensures.value
    ∙ sym (numbers-some (λ key. key.items) (λ numbers. numbers.items) c.args.key.now c.self.inside.table.entries c.args.self.now c.self.view_is c.in-Some.numbers.now (sym c.get.ensures.value ∙ ap option_copied c.in-Some.is))

pub returns-in-None : goal.returns-in-None
returns-in-None c =
    sym (numbers-none (λ key. key.items) (λ numbers. numbers.items) c.args.key.now c.self.inside.table.entries c.args.self.now c.self.view_is (sym c.get.ensures.value ∙ ap option_copied c.in-None.is))
