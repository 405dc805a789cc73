use Rattle.std.proofs.Common.{ℕ, ap, ◌∙◌}
use Rattle.pddl_lexer.specs.Nodes.{list_entry}
use Rattle.pddl_lexer.proofs.Building.{represents_list}
use Rattle.pddl_lexer.proofs.builder.Builder.begin_list.Goals as goal

pub returns : goal.returns
returns c = λ text partial kept. represents_list text c.args.self.now _ partial _ c.args.at kept c.in_ok-push-2.ensures.items (cc (c.in_ok-push.ensures.items, c.len.ensures)) (ap (λ (d : ℕ). list_entry c.args.at d 0) (c.len-depth.ensures ∙ c.args.self.now.open.ok.0))
