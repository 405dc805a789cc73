-- What is left of one literal list, effect or schema with objects.
use Rattle.std.specs.Prelude.{Bool, not, ◌||◌, nat_eq}
use Rattle.normal_task.specs.declared.task.EffectRow.{EffectRow as EffectSchema}
use Rattle.normal_task.specs.declared.task.GroundAtom.{GroundAtom}
use Rattle.normal_task.specs.declared.task.Literal.{Literal}
use Rattle.normal_task.specs.declared.task.Literal.TheVariants.{Holds, Equal}
use Rattle.normal_task.specs.declared.task.Normal.{Normal}
use Rattle.normal_task.specs.Meaning.{Binding, atom_of, object_at, objects_at, answers, initial}
use Rattle.ground_task.specs.GroundTask.{is_fixed}
use Rattle.ground_task.specs.Literals.{EffectRow}
use Rattle.ground_task.specs.Instances.{condition_of}

-- the literal is on an atom that isn't static, or it is true
abbrev pub literal_can_hold : Normal → Binding → Literal → Bool
literal_can_hold task binding (Holds positive predicate places) = not (is_fixed task.predicates predicate) || answers positive (initial task (atom_of predicate (objects_at binding places)))
literal_can_hold task binding (Equal positive left right) = answers positive (nat_eq (object_at binding left) (object_at binding right))

-- the effect with these objects for the schema's parameters and for its own variables
abbrev pub effect_at : EffectSchema → Binding → EffectRow GroundAtom
effect_at row binding =
    record { condition = condition_of binding row.condition; adds = row.adds; atom = atom_of row.predicate (objects_at binding row.places) }
