use Rattle.std.proofs.Common.{◌∙◌, ap}
use Rattle.nm_schema_uses.specs.Outline.{Outline}
use Rattle.nm_schema_keys.specs.Found.{seen_among, member_named}
use Rattle.nm_schema_keys.specs.Membership.{Sight}
use Rattle.nm_schema_keys.specs.Kept.{members_at}
use Rattle.nm_schema_keys.proofs.finder.Finder.named.Goals as goal

pub keep-requires : goal.keep-requires
keep-requires c = c.in_ok-members.ensures ∙ ap (λ (o : Outline). members_at o.rows o.groupings c.args.at) c.self.view_is

pub returns-clause-found : goal.returns-clause-found
unfolding members_at
returns-clause-found c =
    c.named-found.ensures
    ∙ ap (λ (s : Sight). seen_among s.rows c.args.loses s.nodes s.kept c.args.name.now) c.in_ok-members.ensures
    ∙ ap (λ (o : Outline). member_named o.rows o.groupings c.args.loses c.args.at c.args.name.now) c.self.view_is
