use Rattle.std.proofs.Common.{ap, ◌∙◌}
use Rattle.std.specs.List.{list_any}
use Rattle.names.specs.Names.{Name, is_same}
use Rattle.pddl_syntax.specs.declared.types.Typed.{Typed}
use Rattle.numbering.proofs.NewNames.{is_new}
use Rattle.numbering.proofs.named.add_objects.Goals as goal

pub add_new-requires : goal.add_new-requires
add_new-requires c =
    ap (λ (n : Name). list_any (is_same n) c.loop-object.names) c.as_slice.ensures
    ∙ is_new (λ (object : Typed). object.name.name) c.args.names.now c.args.objects.now c.requires c.loop-object.object-index c.object-item.result c.loop-object-test.true c.object-item.is c.loop-object.names c.loop-object.invariant
