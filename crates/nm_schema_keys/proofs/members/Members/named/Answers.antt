use Rattle.std.proofs.Common.{refl, ◌∙◌}
use Rattle.nm_schema_keys.proofs.Looking.{found_missing, found_row}
use Rattle.nm_schema_keys.proofs.members.Members.named.Goals as goal

pub returns-in-None : goal.returns-in-None
returns-in-None c = found_missing c.args.self.now c.self.inside.names.now c.self.inside.nodes c.self.inside.first c.args.name.now c.self.view_is (c.is_none.ensures ∙ rw c.if-is_none.false refl) c.self.invariant c.in-None.ensures.value

pub returns-in-Some : goal.returns-in-Some
returns-in-Some c = found_row c.args.self.now c.self.inside.names.now c.self.inside.nodes c.self.inside.first c.args.name.now c.in-Some.node.now c.self.view_is (c.is_none.ensures ∙ rw c.if-is_none.false refl) c.self.invariant c.in-Some.ensures.value
