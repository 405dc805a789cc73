use Rattle.std.proofs.Common.{ℕ, ◌-◌, refl, ap, ◌∙◌, arith}
use Rattle.pddl_lexer.specs.Nodes.{list_entry}
use Rattle.pddl_lexer.proofs.Building.{list_within, represents_end}
use Rattle.pddl_lexer.proofs.builder.Builder.end_list.Goals as goal

pub overflow_sub-below : goal.overflow_sub-below
overflow_sub-below c = omega (arith, list_within _ _ _ _ _ c.requires.building.1.1 c.in-Some.ensures.items, c.args.self.now.nodes.ok.0, c.len.ensures)

pub overflow_sub-below-in-Some : goal.overflow_sub-below-in-Some
overflow_sub-below-in-Some c = omega (arith, list_within _ _ _ _ _ c.requires.building.1.1 c.in-Some.ensures.items, c.args.self.now.nodes.ok.0, c.len.ensures)

pub index_mut-node-requires : goal.index_mut-node-requires
index_mut-node-requires c = omega (arith, list_within _ _ _ _ _ c.requires.building.1.1 c.in-Some.ensures.items, c.args.self.now.nodes.ok.0)

pub returns-in-Some : goal.returns-in-Some
returns-in-Some c = λ text partial kept. represents_end text c.args.self.now _ partial c.in-Some.list c.len.result c.index_mut-node.result.now _ kept c.in-Some.ensures.items c.index_mut-node.ensures.value refl (ap (λ (d : ℕ). list_entry c.index_mut-node.result.now.at d (c.len.result - c.in-Some.list - 1)) c.depth-depth.ensures) (c.len.ensures ∙ c.args.self.now.nodes.ok.0)
