use Rattle.std.proofs.Common.{ap, sym, ◌∙◌}
use Rattle.std.specs.Prelude.{option_copied}
use Rattle.nm_overlay.proofs.Below.{walk_in, walk_out, walk_end, still_behind}
use Rattle.nm_content_place.proofs.walk.next_below.Goals as goal

pub returns-in_default : goal.returns-in_default
returns-in_default g c = walk_end (g.M.RowMap.rows c.args.rows.now) c.args.node.now c.args.passed.now c.requires (sym c.next_after.ensures ∙ ap option_copied c.in_default.is)

pub returns-then-is_under : goal.returns-then-is_under
returns-then-is_under g c =
    let rows = g.M.RowMap.rows c.args.rows.now in
    let next = sym c.next_after.ensures ∙ ap option_copied c.in-Some.is in
    let under = sym c.is_under.ensures ∙ c.if-is_under.true in
    record {
      first = walk_in rows c.args.node.now c.args.passed.now c.requires c.in-Some.next.now next under;
      is_below = under;
      behind = still_behind rows c.args.node.now c.args.passed.now c.requires c.in-Some.next.now next;
    }

pub returns : goal.returns
returns g c =
    walk_out (g.M.RowMap.rows c.args.rows.now) c.args.node.now c.args.passed.now c.requires c.in-Some.next.now (sym c.next_after.ensures ∙ ap option_copied c.in-Some.is) (sym c.is_under.ensures
    ∙ c.if-is_under.false)
