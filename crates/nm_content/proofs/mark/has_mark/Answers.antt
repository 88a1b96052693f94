use Rattle.std.proofs.Common.{◌≡◌, sym, subst}
use Rattle.std.specs.List.{list_any}
use Rattle.nm_overlay.proofs.Below.{not_before_itself}
use Rattle.nm_overlay.proofs.Order.{Place}
use Rattle.nm_content_place.specs.Walk.{below_after}
use Rattle.nm_content.specs.Mark.{has_mark, is_mark_of}
use Rattle.nm_content.proofs.Walked.{mark_walked}
use Rattle.nm_content.proofs.mark.has_mark.Goals as goal

pub walk-init : goal.walk-init
walk-init g c =
    let rows = g.M.RowMap.rows c.args.rows.now in
    record {
      left = subst (λ (m : Place). list_any (is_mark_of c.args.number) (below_after rows m m) ≡ has_mark rows c.args.number) (sym c.requires) (mark_walked rows c.args.number);
      behind = not_before_itself c.args.marks.now;
    }
