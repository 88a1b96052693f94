use Rattle.std.proofs.Common.{◌≡◌, sym, subst}
use Rattle.std.specs.List.{list_all}
use Rattle.nm_overlay.proofs.Below.{not_before_itself}
use Rattle.nm_overlay.proofs.Order.{Place}
use Rattle.nm_content_place.specs.Walk.{below_after}
use Rattle.nm_content.specs.Mark.{has_marks_of}
use Rattle.nm_content.proofs.Walked.{is_marked, marks_walked}
use Rattle.nm_content.proofs.mark.has_marks_of.Goals as goal

pub walk-init : goal.walk-init
walk-init g c =
    let one = g.M.RowMap.rows c.args.one.now in
    let other = g.M.RowMap.rows c.args.other.now in
    record {
      left = subst (λ (m : Place). list_all (is_marked other) (below_after one m m) ≡ has_marks_of other one) (sym c.requires) (marks_walked one other);
      behind = not_before_itself c.args.marks.now;
    }
