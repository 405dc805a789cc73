use Rattle.std.proofs.Common.{subst, arith}
use Rattle.pddl_lexer.specs.Members.{IsOneList}
use Rattle.pddl_lexer.proofs.Places.{same_length, whole_first}
use Rattle.pddl_lexer.proofs.tree.Tree.len.Goals as goal

pub returns-clause-one_list : goal.returns-clause-one_list
returns-clause-one_list c = subst IsOneList c.self.view_is c.self.invariant.one_list

pub returns-clause-nodes : goal.returns-clause-nodes
returns-clause-nodes c = omega (arith, same_length _ _ _ c.self.view_is c.self.invariant)

pub returns-clause-some : goal.returns-clause-some
returns-clause-some c = omega (arith, returns-clause-nodes c, (whole_first _ (returns-clause-one_list c)).0)

pub returns-clause-whole : goal.returns-clause-whole
returns-clause-whole c = (whole_first _ (returns-clause-one_list c)).1
