use Rattle.std.proofs.Common.{◌∙◌, List, ap}
use Rattle.std.specs.List.{list_any}
use Rattle.names.specs.Names.{is_same}
use Rattle.normal_task.specs.declared.task.GroundAtom.{GroundAtom}
use Rattle.reached_task.specs.declared.types.Fact.{Fact}
use Rattle.mutex_groups.specs.Found.{has_group}
use Rattle.mutex_groups.proofs.Exclusive.{groups_are_exclusive}
use Rattle.mutex_groups.proofs.Giving.{all-differ, all-groups}
use Rattle.mutex_groups.proofs.grouping.groups.Goals as goal

pub all_groups-requires : goal.all_groups-requires
all_groups-requires c = all-differ c.args.normal.now c.args.candidates.now c.args.reached.now c.requires.lawful c.requires.well_formed

pub returns : goal.returns
returns c =
    let are =
    all-groups c.args.normal.now c.args.candidates.now c.args.reached.now c.requires.lawful c.requires.well_formed c.in_ok-into_list.field-0
    (λ group. ap (list_any (is_same group)) c.in_ok-into_list.ensures.lists ∙ c.in_ok-groups.ensures group
    ∙ ap (λ (l : List GroundAtom). list_any (has_group l c.as_slice-2.result.now group) c.args.candidates.now) c.as_slice.ensures ∙ ap (λ (l : List Fact). list_any (has_group c.args.normal.now.init l group) c.args.candidates.now) c.as_slice-2.ensures)
    c.in_ok-into_list.ensures.once in
    record {
      groups = are;
      exclusive = groups_are_exclusive c.args.normal.now c.args.candidates.now c.args.reached.now c.in_ok-into_list.field-0 c.requires.lawful c.requires.well_formed are;
    }
