-- What every world keeps, from which each abort has its cause: what was told on links stands in the devices' histories, and what was
-- noted against a change set has its cause.
use Rattle.std.proofs.Common.{◌≡◌, ◌∙◌, ◌⊎◌, inl, inr, ℕ, suc, ◌-◌, List, [], ◌∷◌, ◌++◌, Contains, Option, Some, None, IfSome, slice_get}
use Rattle.std.proofs.Common.{slice_set, refl, sym, ap, subst, append_assoc}
use Rattle.std.proofs.lemmas.List.Elements.{Contains-append_left}
use Rattle.nm_proto.specs.declared.journal.AbortCause.{AbortCause}
use Rattle.nm_proto.specs.declared.journal.AbortCause.TheVariants as cause
use Rattle.nm_proto.specs.declared.journal.Verdict.TheVariants.{Abort}
use Rattle.nm_proto.specs.declared.plan.Event.{Event}
use Rattle.nm_history.specs.declared.event.DeviceEvent.{DeviceEvent}
use Rattle.nm_history.specs.declared.event.Noted.{Noted}
use Rattle.nm_history.specs.History.{Happened, RecordedState, recorded_with, noted}
use Rattle.nm_recovery.specs.Recovery.{verdict_in}
use Rattle.nm_wire.specs.declared.link.Exchange.{Exchange}
use Rattle.nm_wire.specs.Wire.{session_at}
use Rattle.nm_manager.specs.Slot.{SlotState}
use Rattle.nm_world.specs.declared.happened.TraceEntry.{TraceEntry}
use Rattle.nm_world.specs.World.{CoreState, WorldState, Came, core_of, passed}
use Rattle.nm_safety.proofs.Wires.{at_set}
use Rattle.nm_outcome_laws.specs.Causes.{exchanges_at, history_in, history_at, links_to, HasCause, IsToldAlike, HaveCauses}
use Rattle.nm_outcome_laws.proofs.causes.Wires.{SameTold}
use Rattle.nm_outcome_laws.proofs.causes.Slots.{SameSlot, same_slot}
use Rattle.nm_outcome_laws.proofs.causes.Trail.{IsPlain, plain_alike}
use Rattle.nm_outcome_laws.proofs.causes.Refusals.{IsAnswered, answered_stays, refused_stays}

-- why the manager is to abort a change set, as it noted it
abbrev pub trouble_of : Option SlotState → Option AbortCause
trouble_of None = None
trouble_of (Some slot) = slot.course.trouble

pub slot_same : (slots : List SlotState) (p : ℕ) (slot new : SlotState) → slice_get slots p ≡ Some slot → SameSlot (Some slot) (Some new)
    → (place : ℕ) → SameSlot (slice_get slots place) (slice_get (slice_set slots p new) place)
slot_same slots p slot new there same place = at_set SameSlot same_slot slots p place slot new there same

-- ---- what every world keeps

module _ {Config Node : Type 0} where
  pub record IsCaused (w : WorldState Config Node) : Type 0 where
    pub alike : (change : ℕ) → IsToldAlike change w.trail w.entries
    pub answered : (change device link : ℕ) (x : Exchange) → Contains (exchanges_at (links_to w change device) link) x
        → IsAnswered (session_at (links_to w change device) link) x (history_at w.devices device)
    pub troubles : (place : ℕ) → IfSome (trouble_of (slice_get w.slots place)) (HasCause w (suc place))
    pub aborted : (change : ℕ) (why : AbortCause) → verdict_in change w.entries ≡ Some (Abort why) → HasCause w change why

  pub has_causes : (w : WorldState Config Node) → IsCaused w → HaveCauses w
  has_causes w c = record { aborts_have_causes = c.aborted; trail_tells_journal = c.alike }

  -- ---- a world goes on

  pub record GoesOn (w next : WorldState Config Node) : Type 0 where
    pub grows : (device : ℕ) (entry : Noted) → Contains (history_at w.devices device) entry → Contains (history_at next.devices device) entry
    pub told : (change device link : ℕ) (x : Exchange) → Contains (exchanges_at (links_to w change device) link) x
        → Contains (exchanges_at (links_to next change device) link) x
    pub goes : (change device link one : ℕ) → session_at (links_to w change device) link ≡ Some one → session_at (links_to next change device) link ≡ Some one
    pub last : TraceEntry
    pub trail : next.trail ≡ w.trail ++ last ∷ []

  module _ (w next : WorldState Config Node) (g : GoesOn w next) (change : ℕ) where
    trail_by : (earlier later : List TraceEntry) (one : TraceEntry) → w.trail ≡ earlier ++ one ∷ later → next.trail ≡ earlier ++ one ∷ (later ++ g.last ∷ [])
    trail_by earlier later one e = g.trail ∙ ap (λ trail. trail ++ g.last ∷ []) e ∙ append_assoc earlier (one ∷ later) (g.last ∷ [])

    -- a cause stays one
    pub cause_stays : (why : AbortCause) → HasCause w change why → HasCause next change why
    cause_stays (cause.Refused device tag) c =
        refused_stays _ tag (links_to w change device) (links_to next change device) (history_at w.devices device) (history_at next.devices device)
        (g.told change device) (g.goes change device) (g.grows device) c
    cause_stays (cause.Broken device) c =
        record { earlier = c.earlier; later = c.later ++ g.last ∷ []; there = trail_by c.earlier c.later _ c.there; undecided = c.undecided }
    cause_stays cause.Forgotten c = record {
      earlier = c.earlier;
      loss = c.loss;
      later = c.later ++ g.last ∷ [];
      there = trail_by c.earlier c.later c.loss c.there;
      forgets = c.forgets;
      begun = c.begun;
      still_open = c.still_open;
    }
    cause_stays (cause.Lapsed device) c = record {
      tag = c.tag;
      refused =
          refused_stays _ c.tag (links_to w change device) (links_to next change device) (history_at w.devices device) (history_at next.devices device)
          (g.told change device) (g.goes change device) (g.grows device)
          c.refused;
    }

    pub trouble_stays : (found : Option AbortCause) → IfSome found (HasCause w change) → IfSome found (HasCause next change)
    trouble_stays None c = tt
    trouble_stays (Some why) c = cause_stays why c

  -- ---- a device's history grows

  abbrev pub Grows : Option (RecordedState Config Node) → Option (RecordedState Config Node) → Type 0
  Grows before after = (entry : Noted) → Contains (history_in before) entry → Contains (history_in after) entry

  pub recorded_grows : (r : RecordedState Config Node) (event : DeviceEvent) (h : Happened Config Node) → Grows (Some r) (Some (recorded_with r event h))
  recorded_grows r event h entry c = Contains-append_left r.history (noted event h ∷ []) entry c

  -- all histories grow, and no more is told on links
  pub record Leaves (w next : CoreState Config Node) : Type 0 where
    pub grows : (place : ℕ) → Grows (slice_get w.devices place) (slice_get next.devices place)
    pub slots : (place : ℕ) → SameSlot (slice_get w.slots place) (slice_get next.slots place)

  pub leaves_itself : (w : CoreState Config Node) → Leaves w w
  leaves_itself w = record { grows = λ place entry c. c; slots = λ place. same_slot (slice_get w.slots place) }

  pub device_grows : (devices : List (RecordedState Config Node)) (d : ℕ) (r after : RecordedState Config Node) → slice_get devices d ≡ Some r
      → Grows (Some r) (Some after)
      → (place : ℕ) → Grows (slice_get devices place) (slice_get (slice_set devices d after) place)
  device_grows devices d r after here grows place = at_set Grows (λ found entry c. c) devices d place r after here grows

  -- ---- after an event

  module _ (w : WorldState Config Node) (event : Event) (c : Came Config Node) (leaves : Leaves (core_of w) c.after) where
    abbrev pub after : WorldState Config Node
    after = passed w event c

    abbrev same_links : (change device : ℕ) → SameTold (links_to w change device) (links_to after change device)
    same_links change device = leaves.slots (change - 1) device

    pub goes_on : GoesOn w after
    goes_on = record {
      grows = λ device. leaves.grows (device - 1);
      told = λ change device link x there. subst (λ xs. Contains xs x) (sym ((same_links change device).told link)) there;
      goes = λ change device link one e. (same_links change device).session link ∙ e;
      last = record { event = event; happened = c.happened };
      trail = refl;
    }

    module _ (k : IsCaused w) where
      answered_now : (change device link : ℕ) (x : Exchange) → Contains (exchanges_at (links_to after change device) link) x
          → IsAnswered (session_at (links_to after change device) link) x (history_at after.devices device)
      answered_now change device link x there =
          answered_stays (session_at (links_to w change device) link) (session_at (links_to after change device) link) x (history_at w.devices device)
          (history_at after.devices device)
          (goes_on.goes change device link) (goes_on.grows device)
          (k.answered change device link x (subst (λ xs. Contains xs x) ((same_links change device).told link) there))

      -- what was noted before
      pub troubles_stay : (place : ℕ) → IfSome (trouble_of (slice_get w.slots place)) (HasCause after (suc place))
      troubles_stay place = trouble_stays w after goes_on (suc place) (trouble_of (slice_get w.slots place)) (k.troubles place)

      pub same_troubles : ((place : ℕ) → trouble_of (slice_get c.after.slots place) ≡ trouble_of (slice_get w.slots place)) → (place : ℕ)
          → IfSome (trouble_of (slice_get c.after.slots place)) (HasCause after (suc place))
      same_troubles same place = subst (λ found. IfSome found (HasCause after (suc place))) (sym (same place)) (troubles_stay place)

      -- no entry comes
      pub plain_caused : IsPlain (record { event = event; happened = c.happened }) → c.after.entries ≡ w.entries
          → ((place : ℕ) → IfSome (trouble_of (slice_get c.after.slots place)) (HasCause after (suc place))) → IsCaused after
      plain_caused plain entries troubles = record {
        alike = λ change.
            subst (λ es. IsToldAlike change (w.trail ++ record { event = event; happened = c.happened } ∷ []) es) (sym entries)
            (plain_alike change w.trail w.entries (record { event = event; happened = c.happened }) plain (k.alike change));
        answered = answered_now;
        troubles = troubles;
        aborted = λ change why e. cause_stays w after goes_on change why
            (k.aborted change why (subst (λ es. verdict_in change es ≡ Some (Abort why)) entries e));
      }

      -- entries come
      pub entered_caused : ((change : ℕ) → IsToldAlike change after.trail c.after.entries)
          → ((place : ℕ) → IfSome (trouble_of (slice_get c.after.slots place)) (HasCause after (suc place)))
          → ((change : ℕ) (why : AbortCause) → verdict_in change c.after.entries ≡ Some (Abort why) →
          (verdict_in change w.entries ≡ Some (Abort why)) ⊎ HasCause w change why) → IsCaused after
      entered_caused alike troubles aborts = record {
        alike = alike;
        answered = answered_now;
        troubles = troubles;
        aborted = λ change why e. aborted_by change why (aborts change why e);
      }
        where
          aborted_by : (change : ℕ) (why : AbortCause) → (verdict_in change w.entries ≡ Some (Abort why)) ⊎ HasCause w change why
              → HasCause after change why
          aborted_by change why (inl e) = cause_stays w after goes_on change why (k.aborted change why e)
          aborted_by change why (inr has) = cause_stays w after goes_on change why has
