use Rattle.std.proofs.Common.{Bool, [], ◌∷◌, sym, ap, ◌∙◌}
use Rattle.std.specs.Prelude.{if◌then◌else◌}
use Rattle.pddl_syntax.specs.Objects.{objects}
use Rattle.fault_positions.specs.Arguments.{is_listed}
use Rattle.fault_positions.specs.Positions.{earliest}
use Rattle.fault_positions.proofs.arguments.unknown_object.Goals as goal

pub returns-in-Object : goal.returns-in-Object
returns-in-Object c =
    let unknown = ap (is_listed (objects c.args.objects.now.0 c.args.objects.now.1)) (sym c.as_slice.ensures) ∙ sym c.has.ensures ∙ c.if-not-has.true in
    rw c.in-Object.is (sym (ap (λ (b : Bool). earliest (if b then [] else c.in-Object.object.at ∷ [])) unknown))

pub returns-in-Object-2 : goal.returns-in-Object-2
returns-in-Object-2 c =
    let known = ap (is_listed (objects c.args.objects.now.0 c.args.objects.now.1)) (sym c.as_slice.ensures) ∙ sym c.has.ensures ∙ c.if-not-has.false in
    rw c.in-Object.is (sym (ap (λ (b : Bool). earliest (if b then [] else c.in-Object.object.at ∷ [])) known))
