use Rattle.std.proofs.Common.{◌≡◌, [], ◌∷◌, ◌++◌, map, sym, ap, ◌∙◌}
use Rattle.std.specs.List.{list_any}
use Rattle.pddl_syntax.specs.Words.{is_same}
use Rattle.numbering.specs.Below.{objects_of_type}
use Rattle.numbering.proofs.KnownTypes.{none_asked, one_asked, one_more_range, is_added, is_kept}
use Rattle.numbering.proofs.numbering.ObjectTables.know_type.Goals as goal

pub returns-in_default : goal.returns-in_default
returns-in_default c asked known =
    none_asked c.args.self.now.domain c.args.self.now.problem asked c.args.listed.now c.args.known.now.types c.args.known.now.ranges.items known c.in_default.ensures.alone

pub returns-in_ok-push : goal.returns-in_ok-push
returns-in_ok-push c asked known =
    let domain = c.args.self.now.domain in
    let problem = c.args.self.now.problem in
    let type = c.in-Some.name.now in
    let types = c.args.known.now.types in
    let ranges = c.args.known.now.ranges.items in
    let added : c.add.new.self ≡ types ++ type ∷ [] =
    is_added c.in_ok-add.field-0 (list_any (is_same type) types) types (types ++ type ∷ []) c.add.new.self c.in_ok-add.ensures.is_new c.if-branch.true c.in_ok-add.ensures.names in
    let range : c.in_ok-range_of_types.field-0 ≡ objects_of_type domain problem type = c.in_ok-range_of_types.ensures ∙ sym (c.in-Some.ensures.objects domain problem) in
    one_asked domain problem asked c.args.listed.now types ranges known type c.add.new.self c.push.new.self.items c.in-Some.ensures.alone c.in_ok-add.ensures.added
    (c.in_ok-push.ensures.items ∙ one_more_range domain problem asked c.args.listed.now types ranges known type c.add.new.self c.in_ok-range_of_types.field-0 added range)

pub returns-else-branch : goal.returns-else-branch
returns-else-branch c asked known =
    let domain = c.args.self.now.domain in
    let problem = c.args.self.now.problem in
    let type = c.in-Some.name.now in
    let types = c.args.known.now.types in
    let kept : c.add.new.self ≡ types =
    is_kept c.in_ok-add.field-0 (list_any (is_same type) types) types (types ++ type ∷ []) c.add.new.self c.in_ok-add.ensures.is_new c.if-branch.false c.in_ok-add.ensures.names in
    one_asked domain problem asked c.args.listed.now types c.args.known.now.ranges.items known type c.add.new.self c.args.known.now.ranges.items c.in-Some.ensures.alone c.in_ok-add.ensures.added
    (known.ranged ∙ sym (ap (map (objects_of_type domain problem)) kept))
