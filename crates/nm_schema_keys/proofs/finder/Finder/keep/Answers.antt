use Rattle.std.proofs.Common.{◌≡◌, ◌∙◌, sym, ap}
use Rattle.nm_schema_uses.specs.Outline.{Outline}
use Rattle.nm_schema_keys.specs.Kept.{members_at}
use Rattle.nm_schema_keys.proofs.Keeping.{keeps_more, keeps_same}
use Rattle.nm_schema_keys.proofs.finder.Finder.keep.Goals as goal

pub invariant_of-self-2 : goal.invariant_of-self-2
invariant_of-self-2 c =
    let shape = c.self.inside.shape.now in
    let is : c.args.members ≡ members_at shape.rows shape.groupings c.args.at =
    c.requires ∙ ap (λ (o : Outline). members_at o.rows o.groupings c.args.at) (sym (c.self.view_is ∙ c.make_room.ensures)) in
    (c.self.invariant.0, keeps_more (members_at shape.rows shape.groupings) c.self.inside.members c.insert.new.self c.args.at c.args.members c.self.invariant.1 c.in_ok-insert.ensures.updates.0 is, c.self.invariant.2)

pub invariant_of-self : goal.invariant_of-self
invariant_of-self c =
    let shape = c.self.inside.shape.now in
    (c.self.invariant.0, keeps_same (members_at shape.rows shape.groupings) c.self.inside.members c.insert.new.self c.self.invariant.1 c.in_err-insert.ensures.err, c.self.invariant.2)
