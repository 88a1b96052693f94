-- What every world keeps besides, of the renewals of pending commits (this project's own, over RFC 6241 section 8.4.1).
use Rattle.std.specs.Prelude.{◌≡◌, ℕ, Contains, Bool, true, false, ◌&&◌, Option, IfSome}
use Rattle.nm_proto.specs.declared.message.Request.{Request}
use Rattle.nm_device.specs.Table.{is_error}
use Rattle.nm_history.specs.declared.outcome.Outcome.{Outcome}
use Rattle.nm_history.specs.Outcome.{is_final}
use Rattle.nm_history.specs.History.{RecordedState}
use Rattle.nm_wire.specs.declared.link.Exchange.{Exchange}
use Rattle.nm_wire.specs.Asks.{ask_of}
use Rattle.nm_wire.specs.Link.{LinkState, asked_on}
use Rattle.nm_wire.specs.Words.{exchanges_of}
use Rattle.nm_manager.specs.Slot.{SlotState}
use Rattle.nm_safety.specs.Pair.{is_never}
use Rattle.nm_safety.specs.Support.{AllLinks}
use Rattle.nm_safety.specs.Keeping.{OfSlot}
use Rattle.nm_outcome_laws.specs.RecordsSupport.{outcome_in, outcomes_at}
use Rattle.nm_outcome_laws.specs.Causes.{is_renewing}

-- ---- words

-- a renewal was refused
abbrev pub is_lapse : Exchange → Bool
is_lapse exchange = is_renewing (ask_of exchange.request) && is_error exchange.reply

-- the change set was committed at a device, where that is there
abbrev pub WasCommitted : Option Outcome → Type 0
WasCommitted outcome = IfSome outcome (λ one. is_never one ≡ false)

-- and it is over there: confirmed or undone
abbrev pub IsOver : Option Outcome → Type 0
IsOver outcome = IfSome outcome (λ one. is_final one ≡ true)

-- only what was committed is renewed
abbrev pub RenewsCommitted : Option Outcome → Request → Type 0
RenewsCommitted outcome request = is_renewing (ask_of request) ≡ true → WasCommitted outcome

-- ---- a link to a device where this has become of the change set

-- what a renewal on a link tells of the outcome
pub record RenewsOn (outcome : Option Outcome) (link : LinkState) : Type 0 where
  -- a renewal is on its way only to where the change set was committed
  pub asked : IfSome (asked_on link.way) (RenewsCommitted outcome)
  -- and where one was refused it is over
  pub told : (exchange : Exchange) → Contains (exchanges_of link) exchange → is_lapse exchange ≡ true → IsOver outcome

-- ---- all links

-- those of a change set of which this has become at the devices
abbrev pub AllRenew : (ℕ → Option Outcome) → SlotState → Type 0
AllRenew outcomes slot = AllLinks (λ d place. RenewsOn (outcomes d)) slot.sides

module _ {Config Node : Type 0} where
  -- a link to a device, where that is there
  abbrev pub Renews : ℕ → ℕ → Option (RecordedState Config Node) → ℕ → LinkState → Type 0
  Renews change d device place link = RenewsOn (outcome_in change device) link

  -- a change set, with its plan and the journal's entries, of which nothing is said
  abbrev pub OfRenewed : OfSlot Config Node
  OfRenewed change plan entries devices slot = AllRenew (outcomes_at change devices) slot
