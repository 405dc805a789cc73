use Rattle.lists.proofs.Members.{all_from_members}
use Rattle.pddl_syntax.specs.Plan.{pddl_task}
use Rattle.normal_task.specs.Meaning.{normal_task}
use Rattle.normal_task.specs.Normalised.{normal}
use Rattle.ground_task.specs.GroundTask.{ground_task}
use Rattle.ground_task.specs.Literals.{meaning}
use Rattle.reached_task.specs.Exclusive.{IsExclusive}
use Rattle.reached_task.specs.ReachedTask.{reached_task}
use Rattle.run_task.proofs.Translated.{sorted_groups, in_turn, translates}
use Rattle.run_task.proofs.laws.run_task_translates.Goals as goal

pub returns : goal.returns
returns c pair settings found task checked is_found run =
    let made = normal pair.domain pair.problem in
    let encoding = run.encoding in
    let reached = encoding.reached in
    let grounded = encoding.is_reached.ground_of in
    let is_ground = encoding.is_reached.is_ground in
    let normal_lawful = c.lawful.ensures pair.domain pair.problem checked.spelled checked.spelled_problem checked.faultless in
    let ground_lawful = c.lawful-2.ensures made grounded normal_lawful is_ground in
    let reached_lawful = c.lawful-3.ensures grounded reached ground_lawful encoding.is_reached.is_reached in
    let statics = c.statics_kept.ensures pair.domain pair.problem checked.faultless in
    let ranked = c.no_recursion.ensures made grounded statics is_ground (c.instances_ranked.ensures pair.domain pair.problem checked.faultless) in
    let formed = c.finds.ensures.well_formed made settings.max_candidates found is_found in
    let each = c.groups_are_exclusive.ensures made found.accepted reached encoding.groups normal_lawful formed encoding.are_groups encoding.is_reached (c.finds.ensures.accepted made settings.max_candidates found is_found) in
    let exclusive = all_from_members (IsExclusive reached) encoding.groups each in
    let sorted = sorted_groups made found.accepted reached encoding.groups c.groups_of_facts.ensures.sorted c.groups_of_facts.ensures.facts c.groups_of_facts.ensures.basic encoding.is_reached formed encoding.are_groups in
    let covers = c.covers.ensures.by_groups settings.full_encoding reached encoding.groups encoding.sets sorted encoding.is_cover in
    let exclusive_sets = c.exclusive_covers.ensures.by_groups settings.full_encoding reached encoding.groups encoding.sets exclusive encoding.is_cover in
    let valid = c.validity.ensures reached encoding.sets encoding.groups encoding.layers run.encoded reached_lawful covers sorted encoding.are_layers encoding.few encoding.encodes in
    let means = in_turn (pddl_task pair.domain pair.problem) (normal_task made) (meaning (ground_task grounded)) (meaning (reached_task reached)) _ _ _
    (c.same_task.ensures pair.domain pair.problem checked.faultless)
    (c.same_meaning.ensures made grounded statics is_ground)
    (c.same_meaning-2.ensures.meaning grounded reached ranked encoding.is_reached.is_reached) in
    let written_valid = c.projection_keeps.ensures.valid run.encoded task valid run.projection in
    let tells = c.operators_tell_costs.ensures.projections run.encoded task run.projection
    (c.operators_tell_costs.ensures.encodings made grounded reached encoding.sets encoding.groups encoding.layers run.encoded
    (c.names_tell_costs.ensures pair.domain pair.problem checked.spelled checked.spelled_problem checked.faultless) is_ground encoding.is_reached.is_reached encoding.encodes) in
    record {
      valid = written_valid;
      tells = tells;
      translates = translates pair.domain pair.problem reached encoding.sets run.encoded task _ means
          (c.simulation.ensures reached encoding.sets encoding.groups encoding.layers run.encoded reached_lawful covers sorted exclusive_sets exclusive encoding.encodes valid)
          (c.projection_keeps.ensures.stands run.encoded task valid run.projection)
          (c.projection_keeps.ensures.changing run.encoded task valid run.projection)
          (c.idle_steps.ensures.left_out pair.domain pair.problem) written_valid tells c.solutions_cost_the_total.ensures;
    }
