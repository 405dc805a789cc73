use Rattle.std.proofs.Common.{arith}
use Rattle.pddl_lexer.proofs.Places.{tells, same_length}
use Rattle.pddl_lexer.proofs.tree.Tree.node.Goals as goal

-- there are as many nodes as the tree has
pub index-requires : goal.index-requires
index-requires c = omega (arith, same_length _ _ _ c.self.view_is c.self.invariant)

pub returns-clause-shows : goal.returns-clause-shows
returns-clause-shows c = (_, (tells _ _ _ _ _ c.self.view_is c.self.invariant c.requires c.index.ensures).shows)

pub returns-clause-in_range : goal.returns-clause-in_range
returns-clause-in_range c = (tells _ _ _ _ _ c.self.view_is c.self.invariant c.requires c.index.ensures).in_range

pub returns-clause-depth : goal.returns-clause-depth
returns-clause-depth c = (tells _ _ _ _ _ c.self.view_is c.self.invariant c.requires c.index.ensures).depth_is

pub returns-clause-fits : goal.returns-clause-fits
returns-clause-fits c = omega (arith, same_length _ _ _ c.self.view_is c.self.invariant)
