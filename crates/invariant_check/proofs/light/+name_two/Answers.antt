use Rattle.std.proofs.Common.{◌≡◌, false, List, [], ◌∷◌, length, refl, sym, ap, ◌∙◌}
use Rattle.std.proofs.lemmas.Bool.{eqb-true}
use Rattle.std.proofs.lemmas.List.{nil_from_length}
use Rattle.normal_task.specs.declared.task.Place.{Place}
use Rattle.normal_task.specs.declared.task.Place.TheVariants.{Object}
use Rattle.contradictions.specs.Candidates.{at_positions}
use Rattle.invariant_check.specs.Attempts.{name_two}
use Rattle.invariant_check.proofs.light.+name_two.Goals as goal

beside_nothing : (xs : List Place) → name_two xs [] ≡ false
beside_nothing [] = refl
beside_nothing (x ∷ xs) = refl

pub returns-then-is_empty-2 : goal.returns-then-is_empty-2
returns-then-is_empty-2 n c =
    let first = at_positions (Object 0) c.args.positions.now c.args.places.now in
    let none = nil_from_length c.args.others.now (eqb-true (length c.args.others.now) 0 (sym c.is_empty-else-is_empty.ensures ∙ c.if-is_empty-2.true)) in
    sym (ap (λ others. name_two first (at_positions (Object 0) others c.args.other_places.now)) none ∙ beside_nothing first)
