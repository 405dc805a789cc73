use Rattle.std.proofs.Common.{◌∙◌, List, ℕ, Some, sym, ap}
use Rattle.std.specs.Option.{option_map}
use Rattle.std.proofs.lemmas.Result.{on_ok_weaker}
use Rattle.mutex_groups.proofs.Giving.{adds-one, adds-none}
use Rattle.mutex_groups.proofs.grouping.add_group.Goals as goal

pub returns-in-Some : goal.returns-in-Some
returns-in-Some c =
    on_ok_weaker c.add_covered.result
    (adds-one c.args.candidate.now c.args.atom.now c.args.weights.now c.args.members.now c.args.groups.now c.add_covered.new.groups c.as_slice.result.now
    (sym c.in_ok-instance.ensures ∙ ap (option_map (λ objects. objects.items)) c.in-Some.is ∙ ap (λ (l : List ℕ). Some l) (sym c.as_slice.ensures.value)))
    c.add_covered.ensures

pub returns-in-None : goal.returns-in-None
returns-in-None c =
    adds-none c.args.candidate.now c.args.atom.now c.args.weights.now c.args.members.now c.args.groups.now (sym c.in_ok-instance.ensures ∙ ap (option_map (λ objects. objects.items)) c.in-None.is)
