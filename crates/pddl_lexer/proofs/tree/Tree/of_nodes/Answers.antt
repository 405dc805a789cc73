use Rattle.std.proofs.Common.{List, ap, sym, subst, ◌∙◌}
use Rattle.pddl_lexer.specs.Members.{Members}
use Rattle.pddl_lexer.specs.Nodes.{Entry, members, AreNodesOf}
use Rattle.pddl_lexer.specs.Kept.{reads_all}
use Rattle.pddl_lexer.proofs.tree.Tree.of_nodes.Goals as goal

-- the nodes are read back
pub invariant_of-result : goal.invariant_of-result
invariant_of-result c =
    let same = ap (λ (es : List Entry). members es 0) c.requires.1.shown_are ∙ reads_all c.requires.0 in
    subst (λ (tree : Members). AreNodesOf c.args.text.now tree c.args.nodes.items) (sym same) c.requires.1

pub returns : goal.returns
returns c = λ tree is. ap (λ (es : List Entry). members es 0) is.shown_are ∙ reads_all tree
