-- A verdict falls, a link breaks, memory is lost, or a device's side of a link ends.
use Rattle.std.proofs.Common.{◌≡◌, ◌≤◌, ◌∙◌, ℕ, ◌-◌, true, false, [], map, slice_get, slice_set, Option, Some, None, IfSome, is_some, refl, sym, ap, subst, arith}
use Rattle.std.proofs.lemmas.Bool.Decides.{nat_tests}
use Rattle.nm_base.specs.Mask.{mask_contains}
use Rattle.nm_base.specs.Token.{token_of}
use Rattle.nm_proto.specs.declared.journal.Verdict.{Verdict}
use Rattle.nm_proto.specs.declared.journal.Verdict.TheVariants as verdict
use Rattle.nm_history.specs.Outcome.{outcome_of}
use Rattle.nm_history.specs.History.{RecordedState}
use Rattle.nm_decider_stage.specs.declared.stage.Stage.{Stage}
use Rattle.nm_decider_stage.specs.declared.stage.Stage.TheVariants.{Live, Resync}
use Rattle.nm_decider_stage.specs.Stages.{is_acknowledged, broken_stage}
use Rattle.nm_decider.specs.declared.seat.Seat.{Seat}
use Rattle.nm_decider.specs.Course.{seat_of, decided_seat}
use Rattle.nm_wire.specs.Link.{LinkState, closed_link}
use Rattle.nm_wire.specs.Words.{commits_sent, holds}
use Rattle.nm_wire.specs.Wire.{WireState, link_at, current_link, changed, broken, lost, restarted}
use Rattle.nm_manager.specs.Slot.{to_commit}
use Rattle.nm_safety.proofs.Basics.{never, not_there}
use Rattle.nm_safety.specs.Pair.{FirstLink, EachLink, OutcomeFits, Undecided, PairHolds, first_link, may_be_sent, is_locked, is_live}
use Rattle.nm_safety.proofs.Wires.{current_changed, changed_current, current_restarted}
use Rattle.nm_safety.proofs.Firsts.{first_closed}
use Rattle.nm_safety.proofs.Gone.{first_of, first_changed, each_changed, first_restarted, each_restarted}

-- ---- the verdict

each_decided : (v : Verdict) (place : ℕ) (found : Option LinkState) → IfSome found (EachLink None place) → IfSome found (EachLink (Some v) place)
each_decided v place None each = each
each_decided v place (Some link) each =
    record { later = each.later; confirm = λ h. absurd (never (each.confirm h)); cancel = λ h. absurd (never (each.cancel h)) }

module _ {Config Node : Type 0} (change : ℕ) (seat : Seat) (wire : WireState) (r : RecordedState Config Node) where
  verdict_falls : (v : Verdict) (now : Seat) → now.is_member ≡ seat.is_member → (to_commit (Some v) ≡ true → seat.is_member ≡ true → is_acknowledged seat.stage ≡ true)
      → PairHolds change None seat wire r → PairHolds change (Some v) now wire r
  verdict_falls v now same acked pair = record {
    first = pair.first;
    each = λ place. each_decided v place (slice_get wire.links place) (pair.each place);
    outcome = record {
      confirmed = λ h. absurd (never (pair.outcome.confirmed h));
      cancelled = λ h. absurd (never (pair.outcome.cancelled h));
      ended = pair.outcome.ended;
      committed = λ c m. (pair.undecided refl).acked (acked c (sym same ∙ m));
      pending = pair.outcome.pending;
    };
    undecided = λ e. absurd (let g : Some v ≡ None = e in cc);
  }

  pub decided_pair : (v : Verdict) → (to_commit (Some v) ≡ true → seat.is_member ≡ true → is_acknowledged seat.stage ≡ true) → PairHolds change None seat wire r
      → PairHolds change (Some v) (decided_seat v seat) wire r
  decided_pair verdict.Commit acked pair = verdict_falls verdict.Commit (decided_seat verdict.Commit seat) refl acked pair
  decided_pair (verdict.Abort why) acked pair = verdict_falls (verdict.Abort why) (decided_seat (verdict.Abort why) seat) refl acked pair

  -- ---- without a current link

  outcome_as : (decided : Option Verdict) (now : Seat) → (now.is_member ≡ true → seat.is_member ≡ true) → OutcomeFits (token_of change) decided seat.is_member r
      → OutcomeFits (token_of change) decided now.is_member r
  outcome_as decided now member outcome = record {
    confirmed = outcome.confirmed;
    cancelled = outcome.cancelled;
    ended = outcome.ended;
    committed = λ c m. outcome.committed c (member m);
    pending = outcome.pending;
  }

  cut_pair : (decided : Option Verdict) (now : Seat) → (now.is_member ≡ true → seat.is_member ≡ true) → may_be_sent now.stage now.awaited ≡ 1 → is_live now.stage ≡ false
      → is_acknowledged now.stage ≡ false → is_locked now.stage ≡ false → PairHolds change decided seat wire r → PairHolds change decided now (broken wire) r
  cut_pair decided now member sent live acked locked pair = record {
    first = pair.first;
    each = pair.each;
    outcome = outcome_as decided now member pair.outcome;
    undecided = λ e. record {
      unsent = subst (λ n. commits_sent (first_link wire) ≤ n) (sym sent) pair.first.once;
      acked = λ h. absurd (never (sym acked ∙ h));
      ready = λ h. absurd (never (sym locked ∙ h));
      only = λ number h. absurd (let g : None ≡ Some number = h in cc);
      unmade = λ h. absurd (never (sym live ∙ h));
    };
  }

  pub broken_pair : (decided : Option Verdict) → PairHolds change decided seat wire r → PairHolds change decided (record seat { stage = broken_stage seat.stage; awaited = None }) (broken wire) r
  broken_pair decided pair =
      cut_pair decided (record seat { stage = broken_stage seat.stage; awaited = None }) (λ m. m) (one_sent seat.stage) (not_live seat.stage) (not_acked seat.stage) (not_locked seat.stage) pair
    where
      one_sent : (stage : Stage) → may_be_sent (broken_stage stage) None ≡ 1
      one_sent stage = grind (arith, nat_tests)

      not_live : (stage : Stage) → is_live (broken_stage stage) ≡ false
      not_live stage = grind (arith, nat_tests)

      not_acked : (stage : Stage) → is_acknowledged (broken_stage stage) ≡ false
      not_acked stage = grind (arith, nat_tests)

      not_locked : (stage : Stage) → is_locked (broken_stage stage) ≡ false
      not_locked stage = grind (arith, nat_tests)

  -- what was known is lost
  pub lost_pair : (decided : Option Verdict) (devices device : ℕ) → (mask_contains devices device ≡ true → seat.is_member ≡ true) → PairHolds change decided seat wire r
      → PairHolds change decided (seat_of devices Resync device) (broken wire) r
  lost_pair decided devices device member pair = cut_pair decided (seat_of devices Resync device) member refl refl refl refl pair

  -- a manager that starts anew: a change set that isn't decided and goes on from the beginning was never begun
  pub anew_pair : (decided : Option Verdict) (devices device : ℕ) → (mask_contains devices device ≡ true → seat.is_member ≡ true) → (decided ≡ None → wire.links ≡ [])
      → PairHolds change decided seat wire r → PairHolds change decided (seat_of devices (Live 0) device) (broken wire) r
  anew_pair decided devices device member none pair = record {
    first = pair.first;
    each = pair.each;
    outcome = outcome_as decided (seat_of devices (Live 0) device) member pair.outcome;
    undecided = λ e. record {
      unsent = subst (λ links. commits_sent (first_of links) ≤ 0) (sym (none e)) (omega arith);
      acked = λ h. absurd (never h);
      ready = λ h. absurd (never h);
      only = λ number h. absurd (let g : None ≡ Some number = h in cc);
      unmade = λ l h. none e;
    };
  }

-- ---- a device's side of a link ends

each_closed : (decided : Option Verdict) (place : ℕ) (link : LinkState) → EachLink decided place link → EachLink decided place (closed_link link)
each_closed decided place link each = record { later = each.later; confirm = each.confirm; cancel = each.cancel }

-- what is said of the first link before the verdict
pub record SaysFirst (before after : LinkState) : Type 0 where
  pub commits : commits_sent after ≡ commits_sent before
  pub held : holds after ≡ holds before

says_closed : (before link : LinkState) → SaysFirst before link → SaysFirst before (closed_link link)
says_closed before link says = record { commits = says.commits; held = says.held }

pub record KeepsWire (before after : WireState) : Type 0 where
  pub first : SaysFirst (first_link before) (first_link after)
  pub current : after.current ≡ before.current
  pub there : is_some (current_link after) ≡ is_some (current_link before)
  pub none : before.links ≡ [] → after.links ≡ []

module _ {Config Node : Type 0} (change : ℕ) (decided : Option Verdict) (seat : Seat) (wire : WireState) (r : RecordedState Config Node) where
  wire_pair : (after : WireState) → KeepsWire wire after → FirstLink (token_of change) (first_link after) r → ((place : ℕ) → IfSome (slice_get after.links place) (EachLink decided place))
      → PairHolds change decided seat wire r → PairHolds change decided seat after r
  wire_pair after keeps first each pair = record {
    first = first;
    each = each;
    outcome = pair.outcome;
    undecided = λ e.
        let before : Undecided (outcome_of (token_of change) r.history) seat wire = pair.undecided e in
        record {
          unsent = subst (λ n. n ≤ may_be_sent seat.stage seat.awaited) (sym keeps.first.commits) before.unsent;
          acked = before.acked;
          ready = λ l z. keeps.first.held ∙ before.ready l (sym keeps.first.commits ∙ z);
          only = λ number h. before.only number (sym keeps.current ∙ h);
          unmade = λ l h. keeps.none (before.unmade l (not_there (current_link wire) (current_link after) keeps.there h));
        };
  }

  none_changed : (number : ℕ) (found : Option LinkState) → wire.links ≡ [] → (changed closed_link wire number found).links ≡ []
  none_changed number None e = e
  none_changed number (Some link) e = ap (λ links. slice_set links (number - 1) (closed_link link)) e

  same_there : (link : LinkState) → is_some (Some (closed_link link)) ≡ is_some (Some link)
  same_there link = refl

  each_there : (found : Option LinkState) → IfSome found (λ link. is_some (Some (closed_link link)) ≡ is_some (Some link))
  each_there None = search
  each_there (Some link) = refl

  pub closed_pair : (number : ℕ) → PairHolds change decided seat wire r → PairHolds change decided seat (lost wire number) r
  closed_pair number pair =
      wire_pair (lost wire number)
      (record {
        first = first_changed closed_link wire number (SaysFirst (first_link wire)) (λ link one e says. says_closed (first_link wire) link says) (link_at wire number) refl (record { commits = refl; held = refl });
        current = changed_current closed_link wire number (link_at wire number);
        there = current_changed (λ a b. is_some b ≡ is_some a) (λ o. refl) closed_link wire number (link_at wire number) refl (each_there (link_at wire number));
        none = none_changed number (link_at wire number);
      })
      (first_changed closed_link wire number (λ link. FirstLink (token_of change) link r) (λ link one e f. first_closed (token_of change) r link f) (link_at wire number) refl pair.first)
      (each_changed closed_link wire number (EachLink decided) (each_closed decided) (link_at wire number) refl pair.each) pair

  pub restarted_pair : PairHolds change decided seat wire r → PairHolds change decided seat (restarted wire) r
  restarted_pair pair =
      wire_pair (restarted wire)
      (record {
        first = first_restarted (SaysFirst (first_link wire)) (says_closed (first_link wire)) wire (record { commits = refl; held = refl });
        current = refl;
        there = current_restarted (λ a b. is_some b ≡ is_some a) (λ o. refl) (λ link. refl) wire;
        none = ap (map closed_link);
      })
      (first_restarted (λ link. FirstLink (token_of change) link r) (λ link f. first_closed (token_of change) r link f) wire pair.first)
      (each_restarted (EachLink decided) (each_closed decided) wire pair.each) pair
