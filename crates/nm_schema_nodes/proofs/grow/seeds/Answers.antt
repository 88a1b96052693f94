use Rattle.std.proofs.Common.{◌<◌, ◌∙◌, length, refl, ap, arith, List, ℕ}
use Rattle.nm_schema_statements.specs.declared.row.Row.{Row}
use Rattle.nm_schema_statements.specs.Rows.{roots}
use Rattle.nm_schema_nodes.specs.Expansion.{grown_members}
use Rattle.nm_schema_nodes.proofs.Growth.{seeds_none, seeded, members-added}
use Rattle.nm_schema_nodes.proofs.grow.seeds.Goals as goal

pub loop-owner-init : goal.loop-owner-init
loop-owner-init c = seeds_none c.args.shape.now.rows c.args.shape.now.groupings c.new-nodes.result.items c.new-nodes.ensures.items

pub loop-owner-preserved : goal.loop-owner-preserved
loop-owner-preserved c =
    let lt : c.loop-owner.owner < length (roots c.args.shape.now.rows) = omega (arith, ap (λ (l : List ℕ). length l) (c.roots-owner-end.ensures ∙ ap (λ (rows : List Row). roots rows) c.rows.ensures)) in
    rw c.in_ok-push_tops.ensures
    (seeded c.args.shape.now.rows c.args.shape.now.groupings c.loop-owner.owner c.loop-owner.nodes.items (grown_members c.args.shape.now.rows c.args.shape.now.groupings c.loop-owner.owner) lt refl (members-added c.args.shape.now.rows c.args.shape.now.groupings c.loop-owner.owner lt) c.loop-owner.invariant)
