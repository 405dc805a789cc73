use Rattle.std.proofs.Common.{◌≡◌, ◌∙◌, ap, map}
use Rattle.std.proofs.lemmas.Result.{IfOk-weaker}
use Rattle.contradictions.specs.Contradictory.{in_one_class, all_pairs}
use Rattle.contradictions.specs.Merges.{as_pair, have_one_leader, TellClasses}
use Rattle.contradictions.proofs.MergeSteps.{told}
use Rattle.contradictions.proofs.contradictory.classes.Goals as goal

pub returns : goal.returns
returns c =
    IfOk-weaker c.merged.result (λ merges. TellClasses merges.items c.as_slice.result.now)
    (λ merges. have_one_leader merges.items ≡ in_one_class (all_pairs c.args.literals.now (map as_pair c.args.equated.now)))
    (λ merges tells. told c.args.literals.now c.args.equated.now c.as_slice.result.now merges.items (ap (map as_pair) c.as_slice.ensures.value ∙ c.in_ok-pairs.ensures) tells)
    c.merged.ensures
