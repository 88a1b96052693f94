-- How far a change set is from its next turn at most.
use Rattle.std.proofs.Common.{ℕ, zero, suc, ◌+◌, ◌-◌, ◌*◌, ◌≤◌, Bool, true, false, List, length, Option, Some, None, slice_get, arith}
use Rattle.std.proofs.lemmas.Bool.Decides.{nat_tests}
use Rattle.nm_proto.specs.declared.ask.Ask.{Ask}
use Rattle.nm_proto.specs.declared.journal.Verdict.{Verdict}
use Rattle.nm_proto.specs.declared.journal.Verdict.TheVariants as verdict
use Rattle.nm_history.specs.History.{RecordedState}
use Rattle.nm_stores.specs.Stores.{is_modified}
use Rattle.nm_decider_stage.specs.declared.stage.Stage.{Stage}
use Rattle.nm_decider_stage.specs.declared.stage.Stage.TheVariants.{Live, Refused, Failed, NeedMark, Resync, Leaving, Settled}
use Rattle.nm_decider.specs.declared.seat.Seat.{Seat}
use Rattle.nm_resync.specs.Resync.{ResyncState}
use Rattle.nm_manager.specs.Slot.{SideState, SlotState, is_resync}
use Rattle.nm_wire.specs.Link.{LinkState}
use Rattle.nm_wire.specs.declared.link.Way.{Way}
use Rattle.nm_wire.specs.declared.link.Way.TheVariants.{Quiet, Asked, Told}
use Rattle.nm_wire.specs.Wire.{current_link}
use Rattle.nm_rest_laws.specs.Closing.{sum_from}
use Rattle.nm_rest_laws.proofs.rest.Measure.{left, asked_left, resync_left, if_stranded, is_stranded_at, is_held, quiet_rank, way_rank, link_rank, pair_rank, rank_at, slot_rank, undecided_rank, resync_then, stage_then}

left_within : (h b : Bool) (v : Option Verdict) (now : ResyncState) (stage : Stage) → left h b v now stage ≤ 15
left_within h b None now (Live done) = omega arith
left_within h b (Some verdict.Commit) now (Live done) = omega arith
left_within h b (Some (verdict.Abort why)) now (Live done) = omega arith
left_within h b v now Refused = omega arith
left_within h b None now Failed = omega arith
left_within h b (Some d) now Failed = omega arith
left_within h b v now NeedMark = omega arith
left_within h b None now Resync = omega arith
left_within h b (Some d) now Resync = resync_within h b now
  where
    resync_within : (h b : Bool) (now : ResyncState) → resync_left h b now.commit now.stage ≤ 15
    resync_within h b now = grind (arith, nat_tests)
left_within h b v now (Leaving kept) = omega arith
left_within h b v now (Settled kept) = omega arith

asked_within : (h b : Bool) (v : Option Verdict) (now : ResyncState) (stage : Stage) (what : Ask) → asked_left h b v now stage what ≤ 30
asked_within h b None now (Live done) what = grind (arith, nat_tests)
asked_within h b (Some verdict.Commit) now (Live done) what = omega arith
asked_within h b (Some (verdict.Abort why)) now (Live done) what = grind (arith, nat_tests)
asked_within h b v now Refused what = let one = left_within h b v now Refused in omega (arith, one)
asked_within h b v now Failed what = let one = left_within h b v now Failed in omega (arith, one)
asked_within h b v now NeedMark what = let one = left_within h b v now NeedMark in omega (arith, one)
asked_within h b v now Resync what = let one = left_within h b v now Resync in omega (arith, one)
asked_within h b v now (Leaving kept) what = let one = left_within h b v now (Leaving kept) in omega (arith, one)
asked_within h b v now (Settled kept) what = let one = left_within h b v now (Settled kept) in omega (arith, one)

stranded_within : (b : Bool) → if_stranded b ≤ 43
stranded_within true = omega arith
stranded_within false = omega arith

module _ {Config Node : Type 0} where
  quiet_within : (v : Option Verdict) (stage : Stage) (now : ResyncState) (r : RecordedState Config Node) → quiet_rank v stage now r ≤ 92
  quiet_within v stage now r = let one = left_within (is_held r) (is_modified r.device.stores) v now stage in omega (arith, one)

  way_within : (v : Option Verdict) (stage : Stage) (awaited : Option Ask) (now : ResyncState) (r : RecordedState Config Node) (way : Way) → way_rank v stage awaited now r way ≤ 92
  way_within v stage awaited now r Quiet = quiet_within v stage now r
  way_within v stage None now r (Asked request) = omega arith
  way_within v stage (Some what) now r (Asked request) = let one = asked_within (is_held r) (is_modified r.device.stores) v now stage what in omega (arith, one)
  way_within v stage None now r (Told exchange) = omega arith
  way_within v stage (Some what) now r (Told exchange) =
      let one = left_within (is_held r) (is_modified r.device.stores) v (resync_then (is_resync (Some what)) now exchange.reply) (stage_then (is_resync (Some what)) v now stage what exchange.reply) in omega (arith, one)

  link_within : (v : Option Verdict) (stage : Stage) (awaited : Option Ask) (now : ResyncState) (r : RecordedState Config Node) (o : Option LinkState) → link_rank v stage awaited now r o ≤ 135
  link_within v stage awaited now r None = let one = quiet_within v stage now r in omega (arith, one)
  link_within v stage awaited now r (Some link) = let one = way_within v stage awaited now r link.way in let two = stranded_within (is_stranded_at r link) in omega (arith, one, two)

  pair_within : (v : Option Verdict) (seat : Option Seat) (side : Option SideState) (r : Option (RecordedState Config Node)) → pair_rank v seat side r ≤ 135
  pair_within v None side r = omega arith
  pair_within v (Some seat) None r = omega arith
  pair_within v (Some seat) (Some side) None = omega arith
  pair_within v (Some seat) (Some side) (Some r) = link_within v seat.stage seat.awaited side.resync r (current_link side.wire)

pub pairs_bound : (f : ℕ → ℕ) → ((k : ℕ) → f k ≤ 135) → (low count : ℕ) → sum_from f low count ≤ count * 135
unfolding sum_from
pairs_bound f h low zero = omega arith
pairs_bound f h low (suc count) = let one = pairs_bound f h (low + 1) count in let two = h low in omega (arith, one, two)

module _ {Config Node : Type 0} (devices : List (RecordedState Config Node)) (few : length devices ≤ 32) where
  pub sums_within : (slot : SlotState) → sum_from (rank_at devices slot) 1 (length devices) ≤ 4320
  sums_within slot =
      let one = pairs_bound (rank_at devices slot) (λ k. pair_within slot.course.verdict (slice_get slot.course.seats (k - 1)) (slice_get slot.sides (k - 1)) (slice_get devices (k - 1))) 1 (length devices) in
      omega (arith, one, few)

  pub slot_within : (o : Option SlotState) → slot_rank devices o ≤ 9320
  slot_within None = omega arith
  slot_within (Some slot) = by_verdict slot.course.verdict
    where
      by_verdict : (v : Option Verdict) → undecided_rank v + sum_from (rank_at devices slot) 1 (length devices) ≤ 9320
      by_verdict None = let one = sums_within slot in omega (arith, one)
      by_verdict (Some d) = let one = sums_within slot in omega (arith, one)
