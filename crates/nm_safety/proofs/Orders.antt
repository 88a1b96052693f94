-- Before the verdict the first link is the current one.
use Rattle.std.proofs.Common.{◌≡◌, ◌∙◌, ℕ, ◌-◌, ◌==◌, true, false, cond, fold, slice_get, Option, Some, None, option_map, option_and_then, unwrap_or, refl, sym, ap, subst}
use Rattle.nm_proto.specs.declared.ask.Ask.{Ask}
use Rattle.nm_proto.specs.declared.ask.Ask.TheVariants as ask
use Rattle.nm_proto.specs.declared.message.Reply.TheVariants.{Done}
use Rattle.nm_history.specs.History.{RecordedState}
use Rattle.nm_decider.specs.declared.seat.Seat.{Seat}
use Rattle.nm_wire.specs.declared.link.Exchange.{Exchange}
use Rattle.nm_wire.specs.declared.link.Way.TheVariants.{Told}
use Rattle.nm_wire.specs.Asks.{ask_of}
use Rattle.nm_wire.specs.Link.{LinkState, fresh_link, over_way}
use Rattle.nm_wire.specs.Words.{ask_on, holds, holds_by, holds_after}
use Rattle.nm_wire.specs.Wire.{WireState, link_at, current_link}
use Rattle.nm_manager.specs.Slot.{SideState, asked_in_fact}
use Rattle.nm_safety.specs.Step.{GoesWith, way_ask, awaits_rightly}
use Rattle.nm_safety.specs.Pair.{PairHolds, first_link}
use Rattle.nm_safety.proofs.Asking.{undecided_plain}

first_by : (wire : WireState) (current : Option ℕ) (link : LinkState) → ((number : ℕ) → current ≡ Some number → number ≡ 1) → option_and_then (link_at wire) current ≡ Some link → first_link wire ≡ link
first_by wire None link only e = absurd (let g : None ≡ Some link = e in cc)
first_by wire (Some number) link only e =
    let one : number ≡ 1 = only number refl in
    let here : slice_get wire.links 0 ≡ Some link = subst (λ n. cond (n == 0) None (slice_get wire.links (n - 1)) ≡ Some link) one e in
    ap (λ found. unwrap_or found fresh_link) here

module _ {Config Node : Type 0} (change : ℕ) (seat : Seat) (side : SideState) (r : RecordedState Config Node) (before : GoesWith None seat side) (pair : PairHolds change None seat side.wire r) where
  pub first_is_current : (link : LinkState) → current_link side.wire ≡ Some link → first_link side.wire ≡ link
  first_is_current link e = first_by side.wire side.wire.current link (pair.undecided refl).only e

  in_fact : (awaited : Option Ask) → seat.awaited ≡ awaited → option_map (asked_in_fact side.resync) awaited ≡ awaited
  in_fact None e = refl
  in_fact (Some what) e = ap Some (undecided_plain seat.stage side.resync what (sym (ap (awaits_rightly None seat.stage) e) ∙ before.awaits))

  pub awaited_is_asked : (link : LinkState) → current_link side.wire ≡ Some link → ask_on link.way ≡ seat.awaited
  awaited_is_asked link e = sym (ap (option_and_then way_ask) e) ∙ sym before.asked ∙ in_fact seat.awaited refl

pub told_lock_held : (link : LinkState) (exchange : Exchange) → link.way ≡ Told exchange → ask_of exchange.request ≡ ask.LockRunning → exchange.reply ≡ Done → holds link ≡ true
told_lock_held link exchange way is done =
    ap (over_way holds_after (fold holds_after false link.past)) way ∙ ap (λ a. holds_by (fold holds_after false link.past) a exchange.reply) is ∙ ap (holds_by (fold holds_after false link.past) ask.LockRunning) done
