use Rattle.std.proofs.Common.{◌∙◌, ap, set}
use Rattle.nm_explore_groups.specs.Groups.{with_one}
use Rattle.nm_explore_groups.proofs.Places.{written}
use Rattle.nm_explore_groups.proofs.group.count_at.Goals as goal

pub returns : goal.returns
returns g c =
    ap (λ x. set c.args.groups.now.items c.args.place x) (c.count_one.ensures ∙ ap with_one c.index_mut.ensures.value)
    ∙ written c.args.place c.args.groups.now.items c.index_mut.result.now c.requires.within
