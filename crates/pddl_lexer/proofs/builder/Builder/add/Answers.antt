use Rattle.std.proofs.Common.{ℕ, List, OnOk, drop, sym, subst}
use Rattle.pddl_lexer.specs.declared.scanner.Mark.{Mark}
use Rattle.pddl_lexer.specs.Tokens.{leading_word}
use Rattle.pddl_lexer.specs.Builder.{Partial, with_mark, Represents}
use Rattle.pddl_lexer.proofs.builder.Builder.add.Goals as goal

pub returns-in-Opening : goal.returns-in-Opening
returns-in-Opening c =
    subst (λ (mark : Mark). OnOk c.begin_list.result ((text : List ℕ) (partial : Partial) → Represents text c.args.self.now partial → Represents text c.begin_list.new.self (with_mark mark c.args.at (leading_word (drop c.args.begins text)) partial)))
    (sym c.in-Opening.is)
    c.begin_list.ensures

pub returns-in-Closing : goal.returns-in-Closing
returns-in-Closing c = λ text partial kept.
    subst (λ (mark : Mark). Represents text c.end_list.new.self (with_mark mark c.args.at (leading_word (drop c.args.begins text)) partial)) (sym c.in-Closing.is) (c.end_list.ensures text partial kept)
