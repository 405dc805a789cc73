use Rattle.std.proofs.Common.{◌∙◌, ◌++◌, ◌∷◌, [], length, refl, sym, ap, if◌then◌else◌}
use Rattle.std.proofs.lemmas.Option.{slice_get_read}
use Rattle.contradictions.specs.Candidates.{covers}
use Rattle.mutex_groups.proofs.Covered.{facts-next}
use Rattle.mutex_groups.proofs.instances.members.Goals as goal

pub loop-number-preserved : goal.loop-number-preserved
loop-number-preserved c = λ instance.
    c.in_ok-add_fact.ensures instance
    ∙ ap (λ l. if covers c.args.candidate.now instance c.index-facts-number.result.atom then l ++ c.loop-number.number ∷ [] else l) (c.loop-number.invariant instance)
    ∙ sym (facts-next c.args.candidate.now instance c.args.facts.now c.loop-number.number c.index-facts-number.result (slice_get_read c.args.facts.now (length c.args.facts.now) c.loop-number.number c.index-facts-number.result refl c.loop-number-test.true c.index-facts-number.is))
