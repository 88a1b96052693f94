-- What the stages tell of candidate on the current link, at each event of a device of a change set.
use Rattle.std.proofs.Common.{◌≡◌, ◌∙◌, ℕ, ◌≤◌, Bool, true, false, cond, fold, Option, Some, None, IfSome, is_some, option_map, option_and_then, refl, sym, ap, subst, arith}
use Rattle.std.proofs.lemmas.Bool.Decides.{nat_tests}
use Rattle.nm_proto.specs.declared.ask.Ask.{Ask}
use Rattle.nm_proto.specs.declared.ask.Ask.TheVariants as ask
use Rattle.nm_proto.specs.declared.message.Request.{Request}
use Rattle.nm_proto.specs.declared.message.Reply.{Reply}
use Rattle.nm_proto.specs.declared.journal.Verdict.{Verdict}
use Rattle.nm_proto.specs.declared.journal.Verdict.TheVariants as verdict
use Rattle.nm_decider_stage.specs.declared.stage.Stage.TheVariants.{Resync}
use Rattle.nm_decider_stage.specs.Stages.{is_acknowledged, learnt, next_ask}
use Rattle.nm_decider.specs.declared.seat.Seat.{Seat}
use Rattle.nm_decider.specs.Course.{asked_next, decided_seat, renewed}
use Rattle.nm_resync.specs.Resync as resync
use Rattle.nm_resync.specs.Resync.{resync_ask, resync_learnt}
use Rattle.nm_wire.specs.declared.link.Exchange.{Exchange}
use Rattle.nm_wire.specs.declared.link.Way.TheVariants.{Asked}
use Rattle.nm_wire.specs.Asks.{ask_of}
use Rattle.nm_wire.specs.Link.{LinkState, ends, sent_on, told_on, handled_on, closed_link}
use Rattle.nm_wire.specs.Words.{ask_on}
use Rattle.nm_wire.specs.Wire.{WireState, broken, current_link, handled_at, is_quiet_link, link_at, lost, outstanding_at, restarted, sent, told}
use Rattle.nm_manager.specs.Slot.{SideState, anew, asked_in_fact, gone, is_commit, is_resync, may_go, opens, to_commit, with_wire}
use Rattle.nm_safety.specs.Pair.{is_live}
use Rattle.nm_safety.specs.Step.{GoesWith, awaits_rightly, may_await, way_ask}
use Rattle.nm_safety.proofs.Answered.{out_way}
use Rattle.nm_safety.proofs.Pairs.{asked_is, at_resync}
use Rattle.nm_safety.proofs.Tables.{found_stage}
use Rattle.nm_safety.proofs.Wires.{IsDue, current_begun, current_changed, current_handled, current_restarted, current_sent}
use Rattle.nm_commit_laws.specs.Standing.{is_other, stands_after, stands_at, stands_by, standing}
use Rattle.nm_commit_laws.specs.LeavesSupport.{IsKnown}
use Rattle.nm_commit_laws.proofs.leaves.Tables.{acked_learnt, found_gone, resync_learns, stands_acked, stands_anew, stands_asks, stands_decided, stands_found, stands_learnt, stands_opens, stands_told}
use Rattle.nm_commit_laws.proofs.leaves.Words.{standing_handled, standing_now, standing_sent, standing_told}

-- a link stands so at least, where there is one
abbrev pub Stands : ℕ → Option LinkState → Type 0
Stands n found = IfSome found (λ link. n ≤ standing link)

below_as : (n a b : ℕ) → b ≡ a → n ≤ a → n ≤ b
below_as n a b e l = omega (arith, e, l)

below_both : (a b c : ℕ) → a ≤ b → b ≤ c → a ≤ c
below_both a b c l h = omega (arith, l, h)

stands_more : (n k : ℕ) (found : Option LinkState) → k ≤ n → Stands n found → Stands k found
stands_more n k None l s = tt
stands_more n k (Some link) l s = below_both k n (standing link) l s

-- ---- a request goes out

sent_stands : (n : ℕ) (wire : WireState) (request : Request) (found : Option LinkState) → current_link wire ≡ found
    → is_quiet_link found ≡ true → Stands n found → Stands n (current_link (sent wire request))
sent_stands n wire request None e q s = absurd (let g : false ≡ true = q in cc)
sent_stands n wire request (Some link) e q s =
    subst (Stands n) (sym (current_sent wire request link e))
    (below_as n (standing link) (standing (sent_on request link)) (standing_sent request link q) s)

gone_stands : (n : ℕ) (new : Bool) (wire : WireState) (request : Request) → may_go new wire ≡ true → (new ≡ true → n ≡ 0)
    → Stands n (current_link wire) → Stands n (current_link (gone new wire request))
gone_stands n true wire request goes none s =
    subst (Stands n) (sym (current_begun wire request)) (let z : n ≡ 0 = none refl in omega (arith, z))
gone_stands n false wire request goes none s = sent_stands n wire request (current_link wire) refl goes s

module _ (decided : Option Verdict) (seat : Seat) (side : SideState) (k : IsKnown decided seat side) where
  module _ (what : Ask) (request : Request) (next : next_ask decided seat.stage ≡ Some what) where
    pub turned_known : may_go (opens (asked_in_fact side.resync what)) side.wire ≡ true
        → IsKnown decided (asked_next decided seat) (with_wire side (gone (opens (asked_in_fact side.resync what)) side.wire request))
    turned_known goes = record {
      current =
          gone_stands (stands_at seat.stage side.resync.stage) (opens (asked_in_fact side.resync what)) side.wire request goes
          (λ o. stands_opens decided seat.stage side.resync what next o) k.current;
      acked = k.acked;
    }

  -- candidate is unmodified where a commit is asked for that brings no change set
  pub asks_clean : (what in_fact : Ask) → in_fact ≡ asked_in_fact side.resync what → next_ask decided seat.stage ≡ Some what
      → seat.is_member ≡ true → is_other in_fact ≡ true → Stands 2 (current_link side.wire)
  asks_clean what in_fact is next member other =
      stands_more (stands_at seat.stage side.resync.stage) 2 (current_link side.wire)
      (stands_asks decided seat.stage side.resync what next (λ c l. k.acked c member l) (sym (ap is_other is) ∙ other)) k.current

  pub renews_clean : is_acknowledged seat.stage ≡ true → Stands 2 (current_link side.wire)
  renews_clean a =
      stands_more (stands_at seat.stage side.resync.stage) 2 (current_link side.wire) (stands_acked seat.stage side.resync.stage a) k.current

  pub renewed_known : (request : Request) → may_go false side.wire ≡ true
      → IsKnown decided (renewed seat) (with_wire side (gone false side.wire request))
  renewed_known request goes = record {
    current =
        gone_stands (stands_at seat.stage side.resync.stage) false side.wire request goes (λ e. absurd (let g : false ≡ true = e in cc))
        k.current;
    acked = k.acked;
  }

  -- ---- a reply is handled

  module _ (before : GoesWith decided seat side) (link : ℕ) (exchange : Exchange) (due_now : IsDue side.wire link exchange) where
    abbrev after : WireState
    after = handled_at side.wire link (Some exchange)

    abbrev n : ℕ
    n = fold stands_after 0 due_now.held.past

    ended : (b : Bool) (low : ℕ) → low ≤ standing due_now.held → Stands low (cond b None (Some (handled_on due_now.held)))
    ended true low l = tt
    ended false low l = below_as low (standing due_now.held) (standing (handled_on due_now.held)) (standing_handled due_now.held) l

    heard : (low : ℕ) → low ≤ standing due_now.held → Stands low (current_link after)
    heard low l =
        subst (Stands low) (sym (current_handled side.wire link exchange due_now)) (ended (ends exchange.request exchange.reply) low l)

    here : current_link side.wire ≡ Some due_now.held
    here = ap (option_and_then (link_at side.wire)) due_now.current ∙ due_now.here

    now_low : stands_at seat.stage side.resync.stage ≤ standing due_now.held
    now_low = subst (Stands (stands_at seat.stage side.resync.stage)) here k.current

    module _ (what : Ask) (awaited : seat.awaited ≡ Some what) where
      told_is : standing due_now.held ≡ stands_by n (asked_in_fact side.resync what) exchange.reply
      told_is =
          standing_now due_now.held exchange due_now.way
          ∙ ap (λ a. stands_by n a exchange.reply) (sym (asked_is decided seat side before link exchange due_now what awaited))

    plain : (what : Ask) → is_resync (Some what) ≡ false → (r : resync.ResyncState) → asked_in_fact r what ≡ what
    plain what other r = grind (arith, nat_tests)

    pub handled_known : (what : Ask) → seat.awaited ≡ Some what → is_resync (Some what) ≡ false
        → IsKnown decided (record seat { stage = learnt decided seat.stage what exchange.reply; awaited = None })
        (record { wire = after; resync = side.resync })
    handled_known what awaited other =
        let is : standing due_now.held ≡ stands_by n what exchange.reply = told_is what awaited
        ∙ ap (λ a. stands_by n a exchange.reply) (plain what other side.resync) in
        record {
          current =
              heard (stands_at (learnt decided seat.stage what exchange.reply) side.resync.stage)
              (subst (λ s. stands_at (learnt decided seat.stage what exchange.reply) side.resync.stage ≤ s) (sym is)
              (stands_learnt decided seat.stage side.resync.stage what exchange.reply n
              (subst (λ s. stands_at seat.stage side.resync.stage ≤ s) is now_low)));
          acked = λ c member live. acked_learnt decided seat.stage what exchange.reply c (λ l. k.acked c member l) live;
        }

    pub resynced_known : seat.awaited ≡ Some ask.Resync → (known : Option Bool)
        → IsKnown decided (record seat { stage = found_stage known; awaited = None })
        (record { wire = after; resync = resync.with_reply side.resync exchange.reply })
    resynced_known awaited known =
        let is : standing due_now.held ≡ stands_by n (resync_ask side.resync.commit side.resync.stage) exchange.reply =
        told_is ask.Resync awaited in
        let at : seat.stage ≡ Resync = at_resync decided seat side before link exchange due_now awaited in
        record {
          current =
              heard (stands_at (found_stage known) (resync_learnt side.resync.commit side.resync.stage exchange.reply))
              (subst (λ s. stands_at (found_stage known) (resync_learnt side.resync.commit side.resync.stage exchange.reply) ≤ s) (sym is)
              (below_both _ _ _ (stands_found known (resync_learnt side.resync.commit side.resync.stage exchange.reply))
              (resync_learns side.resync.commit side.resync.stage exchange.reply n
              (subst (λ s. stands_at Resync side.resync.stage ≤ s) is (subst (λ st. stands_at st side.resync.stage ≤ standing due_now.held) at
              now_low)))));
          acked = λ c member live. absurd (let g : false ≡ true = sym (found_gone known) ∙ live in cc);
        }

  -- ---- a link is told

  module _ (before : GoesWith decided seat side) (number : ℕ) (request : Request) (reply : Reply)
      (out : outstanding_at side.wire number ≡ Some request) where
    abbrev Told : Option LinkState → Option LinkState → Type 0
    Told a b = current_link side.wire ≡ a → Stands (stands_at seat.stage side.resync.stage) a
        → Stands (stands_at seat.stage side.resync.stage) b

    told_one : (link : LinkState) → link_at side.wire number ≡ Some link → Told (Some link) (Some (told_on reply link))
    told_one link at current low = by_awaited seat.awaited refl
      where
        way : link.way ≡ Asked request
        way = out_way (link_at side.wire number) link request at out

        fact : option_map (asked_in_fact side.resync) seat.awaited ≡ Some (ask_of request)
        fact = before.asked ∙ ap (option_and_then way_ask) current ∙ ap ask_on way

        by_awaited : (awaited : Option Ask) → seat.awaited ≡ awaited
            → stands_at seat.stage side.resync.stage ≤ standing (told_on reply link)
        by_awaited None e =
            absurd (let g : None ≡ Some (ask_of request) = sym (ap (option_map (asked_in_fact side.resync)) e) ∙ fact in cc)
        by_awaited (Some what) e =
            let g : Some (asked_in_fact side.resync what) ≡ Some (ask_of request) =
            sym (ap (option_map (asked_in_fact side.resync)) e) ∙ fact in
            let is : asked_in_fact side.resync what ≡ ask_of request = cc in
            let may : may_await decided seat.stage what ≡ true = sym (ap (awaits_rightly decided seat.stage) e) ∙ before.awaits in
            subst (λ s. stands_at seat.stage side.resync.stage ≤ s)
            (sym (standing_told link request reply way ∙ ap (λ a. stands_by (standing link) a reply) (sym is)))
            (stands_told decided seat.stage side.resync what reply (standing link) may low)

    told_found : (found : Option LinkState) → link_at side.wire number ≡ found
        → IfSome found (λ link. Told (Some link) (Some (told_on reply link)))
    told_found None at = tt
    told_found (Some link) at = told_one link at

    pub told_known : IsKnown decided seat (with_wire side (told side.wire number reply))
    told_known = record {
      current =
          current_changed Told (λ o current s. s) (told_on reply) side.wire number (link_at side.wire number) refl
          (told_found (link_at side.wire number) refl) refl k.current;
      acked = k.acked;
    }

  -- ---- links break, and sides of links end

  pub broken_known : (now : Seat) (r : resync.ResyncState) → is_live now.stage ≡ false
      → IsKnown decided now (record { wire = broken side.wire; resync = r })
  broken_known now r dead = record {
    current = tt;
    acked = λ c member live. absurd (let g : false ≡ true = sym dead ∙ live in cc);
  }

  abbrev Kept : Option LinkState → Option LinkState → Type 0
  Kept a b = Stands (stands_at seat.stage side.resync.stage) a → Stands (stands_at seat.stage side.resync.stage) b

  kept_found : (found : Option LinkState) → IfSome found (λ link. Kept (Some link) (Some (closed_link link)))
  kept_found None = tt
  kept_found (Some link) = λ s. s

  pub closed_known : (number : ℕ) → IsKnown decided seat (with_wire side (lost side.wire number))
  closed_known number = record {
    current =
        current_changed Kept (λ o s. s) closed_link side.wire number (link_at side.wire number) refl
        (kept_found (link_at side.wire number)) k.current;
    acked = k.acked;
  }

  pub restarted_known : IsKnown decided seat (with_wire side (restarted side.wire))
  restarted_known = record {
    current = current_restarted Kept (λ o s. s) (λ link s. s) side.wire k.current;
    acked = k.acked;
  }

-- ---- a verdict falls

pub decided_known : (v : Verdict) (seat : Seat) (side : SideState)
    → (to_commit (Some v) ≡ true → seat.is_member ≡ true → is_acknowledged seat.stage ≡ true) → IsKnown None seat side
    → IsKnown (Some v) (decided_seat v seat) (anew (is_commit v) side)
decided_known verdict.Commit seat side acked k = record {
  current =
      stands_more (stands_at seat.stage side.resync.stage) _ (current_link side.wire) (stands_anew seat.stage side.resync.stage) k.current;
  acked = λ c member live. acked c member;
}
decided_known (verdict.Abort why) seat side acked k = record {
  current =
      stands_more (stands_at seat.stage side.resync.stage) _ (current_link side.wire)
      (stands_decided (is_some seat.awaited) seat.stage side.resync.stage) k.current;
  acked = λ c member live. absurd (let g : false ≡ true = c in cc);
}
