use Rattle.std.proofs.Common.{ℕ, refl, ap, drop, ◌∙◌}
use Rattle.pddl_lexer.specs.Nodes.{word_entry}
use Rattle.pddl_lexer.specs.Tokens.{leading_word}
use Rattle.pddl_lexer.proofs.Building.{represents_word}
use Rattle.pddl_lexer.proofs.builder.Builder.add_word.Goals as goal

pub returns : goal.returns
returns c = λ text partial kept. represents_word text c.args.self.now _ partial _ c.args.at (leading_word (drop c.args.begins text)) kept c.in_ok-push.ensures.items refl (ap (λ (d : ℕ). word_entry c.args.at (leading_word (drop c.args.begins text)) d) (c.len-depth.ensures ∙ c.args.self.now.open.ok.0))
