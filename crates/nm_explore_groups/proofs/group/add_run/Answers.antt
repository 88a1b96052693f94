use Rattle.std.proofs.Common.{◌≡◌, ◌∙◌, ap, Some, None}
use Rattle.std.specs.List.{position}
use Rattle.nm_explore_groups.specs.Groups.{is_of, one_run, runs_in}
use Rattle.nm_explore_groups.proofs.Counted.{runs_added}
use Rattle.nm_explore_groups.proofs.Places.{comes_last, joins_found}
use Rattle.nm_explore_groups.proofs.group.add_run.Goals as goal

pub returns-in-Some-clause-added : goal.returns-in-Some-clause-added
returns-in-Some-clause-added g c =
    let found : position (is_of g.E.PartialEq.eq c.args.end) c.args.groups.now.items ≡ Some c.in-Some.place = cc in
    c.count_at.ensures ∙ joins_found g.E.PartialEq.eq c.args.end c.args.way.now c.in-Some.place c.args.groups.now.items found

pub returns-in-Some-clause-counted : goal.returns-in-Some-clause-counted
returns-in-Some-clause-counted g c =
    let found : position (is_of g.E.PartialEq.eq c.args.end) c.args.groups.now.items ≡ Some c.in-Some.place = cc in
    ap runs_in (c.count_at.ensures ∙ joins_found g.E.PartialEq.eq c.args.end c.args.way.now c.in-Some.place c.args.groups.now.items found)
    ∙ runs_added g.E.PartialEq.eq c.args.groups.now.items (one_run c.args.end c.args.way.now)

pub returns-clause-added : goal.returns-clause-added
returns-clause-added g c =
    let none : position (is_of g.E.PartialEq.eq c.args.end) c.args.groups.now.items ≡ None = cc in
    c.in_ok-push_first.ensures.begun ∙ comes_last g.E.PartialEq.eq c.args.end c.args.way.now c.args.groups.now.items none

pub returns-clause-counted : goal.returns-clause-counted
returns-clause-counted g c =
    let none : position (is_of g.E.PartialEq.eq c.args.end) c.args.groups.now.items ≡ None = cc in
    ap runs_in (c.in_ok-push_first.ensures.begun ∙ comes_last g.E.PartialEq.eq c.args.end c.args.way.now c.args.groups.now.items none)
    ∙ runs_added g.E.PartialEq.eq c.args.groups.now.items (one_run c.args.end c.args.way.now)
