-- The pairs that are kept get their new numbers.
use Rattle.std.proofs.Common.{map, ap, ◌∙◌, rules}
use Rattle.std.proofs.lemmas.Fn.{filter_same}
use Rattle.sas_restriction.specs.Listed.{chosen}
use Rattle.sas_restriction.specs.Choice.{is_shown, new_pair}
use Rattle.sas_restriction.proofs.chosen.Chosen.pairs_left.Goals as goal

pub returns : goal.returns
returns c =
    c.renumber.ensures
    ∙ ap (map (new_pair (chosen c.args.self.now))) (filter_same _ (λ p. is_shown (chosen c.args.self.now) p.var) _ (λ x b f' k. search rules) c.args.pairs.items c.retain.new.self.items c.retain.ensures.filtered)
