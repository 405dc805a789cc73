use Rattle.std.proofs.Common.{[], ap, ◌∙◌}
use Rattle.std.specs.List.{list_any}
use Rattle.names.specs.Names.{Name, is_same}
use Rattle.pddl_syntax.specs.declared.types.Head.{Head}
use Rattle.numbering.proofs.NewNames.{is_new}
use Rattle.numbering.proofs.named.names_of.Goals as goal

pub add_new-requires : goal.add_new-requires
add_new-requires c =
    ap (λ (n : Name). list_any (is_same n) c.loop-head.names) c.as_slice.ensures
    ∙ is_new (λ (head : Head). head.name.name) [] c.args.heads.now c.requires c.loop-head.head-index c.head-item.result c.loop-head-test.true c.head-item.is c.loop-head.names c.loop-head.invariant
