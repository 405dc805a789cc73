-- Each slice is the group's list.
use Rattle.std.proofs.Common.{◌≡◌, rules, map, subst}
use Rattle.std.specs.Result.{IfOk}
use Rattle.std.proofs.lemmas.Iterator.{YieldsList-from_slice, YieldsList-from_map_by}
use Rattle.std.proofs.lemmas.Iterator.Consumers.{map_from_collect}
use Rattle.lists.proofs.Items.{map_itself}
use Rattle.group_cover.proofs.ranked.slices.Goals as goal

pub returns : goal.returns
returns c =
    subst (λ lists. IfOk c.collect.result (λ slices. map (λ group. group.now) slices.items ≡ lists)) (map_itself c.args.groups.now)
    (map_from_collect _ c.collect.ensures.ran (YieldsList-from_map_by _ (λ group. group.now) (λ list. list) (YieldsList-from_slice c.args.groups.now cc) c.map.ensures.closure (λ x r q k. search rules)))
