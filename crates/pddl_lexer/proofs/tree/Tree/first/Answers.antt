use Rattle.std.proofs.Common.{◌∙◌}
use Rattle.pddl_lexer.proofs.Places.{first_none, first_some}
use Rattle.pddl_lexer.proofs.tree.Tree.first.Goals as goal

pub returns-then-below-eq0 : goal.returns-then-below-eq0
returns-then-below-eq0 c =
    let l = first_none c.args.self.now c.args.i _ (c.below.ensures ∙ c.node.ensures.shows.1.below_is) c.if-below-eq0.true in
    record { begins = l.begins; is_place = l.is_place; exact = l.exact; none = l.none }

pub returns-else-below-eq0 : goal.returns-else-below-eq0
returns-else-below-eq0 c =
    let l = first_some c.args.self.now c.args.i _ c.requires (c.below.ensures ∙ c.node.ensures.shows.1.below_is) c.if-below-eq0.false in
    record { begins = l.begins; is_place = l.is_place; exact = l.exact; none = l.none }
