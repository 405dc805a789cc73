use Rattle.std.proofs.Common.{ap, ◌∙◌, arith}
use Rattle.pddl_lexer.specs.Nodes.{content_word}
use Rattle.pddl_lexer.proofs.Places.{same_length, tells, word_told, none_told}
use Rattle.pddl_lexer.proofs.tree.Tree.word.Goals as goal

-- there are as many nodes as the tree has
pub index-requires : goal.index-requires
index-requires c = omega (arith, same_length _ _ _ c.self.view_is c.self.invariant)

pub returns-in-Word : goal.returns-in-Word
returns-in-Word c =
    c.word_at.ensures
    ∙ word_told _ _ _ (tells _ _ _ _ _ c.self.view_is c.self.invariant c.requires c.index.ensures).shows (ap (content_word c.self.inside.text.now) c.in-Word.is)

pub returns-in-List : goal.returns-in-List
returns-in-List c =
    none_told _ _ (tells _ _ _ _ _ c.self.view_is c.self.invariant c.requires c.index.ensures).shows (ap (content_word c.self.inside.text.now) c.in-List.is)
