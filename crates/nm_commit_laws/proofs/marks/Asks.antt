-- Where a commit that brings a change set is asked for on a link's way: the device is of the change set, and where the link's session is
-- open, running is that session's alone and all others that are there are ended.
use Rattle.std.proofs.Common.{◌≡◌, ◌∙◌, ℕ, ◌<◌, ◌^◌, ◌==◌, true, false, List, [], Option, Some, IfSome, slice_get, sym, ap}
use Rattle.std.proofs.lemmas.Option.{none-some}
use Rattle.nm_base.specs.Token.{token_of}
use Rattle.nm_proto.specs.declared.ask.Ask.TheVariants as ask
use Rattle.nm_proto.specs.declared.message.Request.{Request}
use Rattle.nm_proto.specs.declared.journal.Entry.{Entry}
use Rattle.nm_proto.specs.declared.plan.ChangePlan.{ChangePlan}
use Rattle.nm_sessions.specs.Sessions.{is_open}
use Rattle.nm_history.specs.Outcome.{outcome_of}
use Rattle.nm_history.specs.History.{RecordedState}
use Rattle.nm_recovery.specs.Recovery.{is_ended_in}
use Rattle.nm_wire.specs.Asks.{ask_of}
use Rattle.nm_wire.specs.declared.link.Way.{Way}
use Rattle.nm_wire.specs.declared.link.Way.TheVariants.{Quiet, Asked, Told}
use Rattle.nm_wire.specs.Link.{LinkState, handled_by, session_of}
use Rattle.nm_safety.specs.Pair.{HoldsRunning, asked_ask}
use Rattle.nm_safety.specs.Support.{AllLinks}
use Rattle.nm_safety.specs.Keeping.{OfDevice, OfSlot}
use Rattle.nm_commit_laws.specs.Marks.{is_there}
use Rattle.nm_commit_laws.specs.Stays.{EachFindsEnded}
use Rattle.nm_commit_laws.specs.Waits.{EachWaits}
use Rattle.nm_commit_laws.proofs.marks.Known.{IsKnown}

-- ---- what is kept of change sets, and of devices

-- the commit is asked for
abbrev pub AsksCommit : LinkState → Type 0
AsksCommit link = asked_ask link ≡ Some ask.CommitConfirmed

module _ (plans : List ChangePlan) (entries : List Entry) (change : ℕ) where
  -- where it is, the device is of the change set
  abbrev pub KnownAsked : ℕ → ℕ → LinkState → Type 0
  KnownAsked d place link = AsksCommit link → IsKnown plans entries change d

module _ {Config Node : Type 0} (entries : List Entry) (change : ℕ) where
  -- a session has running to itself, and each other change set that is there is ended
  pub record IsAlone (session : ℕ) (r : RecordedState Config Node) : Type 0 where
    pub held : HoldsRunning session r.device
    pub ended : (n : ℕ) → n < 2 ^ 32 → (n == change) ≡ false → is_there (outcome_of (token_of n) r.history) ≡ true
        → is_ended_in n entries ≡ true

  -- the session of a link, while it is open
  abbrev pub AloneOn : LinkState → RecordedState Config Node → Type 0
  AloneOn link r = (session : ℕ) → session_of link ≡ Some session → is_open r.device.sessions session ≡ true → IsAlone session r

  -- so where the commit is asked for
  abbrev pub AloneAsked : ℕ → Option (RecordedState Config Node) → ℕ → LinkState → Type 0
  AloneAsked d device place link = AsksCommit link → IfSome device (AloneOn link)

module _ {Config Node : Type 0} (plans : List ChangePlan) (entries : List Entry) (d : ℕ) where
  -- change sets wait from the commits on that bring them, and the device is theirs
  pub record IsWaiting (r : RecordedState Config Node) : Type 0 where
    pub waits : EachWaits [] r.history
    pub known : (n : ℕ) → n < 2 ^ 32 → is_there (outcome_of (token_of n) r.history) ≡ true → IsKnown plans entries n d

module _ {Config Node : Type 0} where
  abbrev pub OfKnown : List ChangePlan → OfSlot Config Node
  OfKnown plans change plan entries devices slot = AllLinks (KnownAsked plans entries change) slot.sides

  abbrev pub OfWaiting : List ChangePlan → OfDevice Config Node
  OfWaiting plans entries place r = IsWaiting plans entries place r

  abbrev pub OfAlone : OfSlot Config Node
  OfAlone change plan entries devices slot = AllLinks (λ d. AloneAsked entries change d (slice_get devices d)) slot.sides

  -- change sets come one after another
  abbrev pub OfFinding : OfDevice Config Node
  OfFinding entries place r = (n : ℕ) → n < 2 ^ 32 → EachFindsEnded entries n [] r.history

-- ---- one link

-- what is handled isn't asked, and what is asked stays
pub handled_same : (Q : LinkState → Type 0) (link : LinkState) (way : Way) → link.way ≡ way → (AsksCommit link → Q link)
    → AsksCommit (handled_by link way) → Q (handled_by link way)
handled_same Q link Quiet e p is = p is
handled_same Q link (Asked request) e p is = p is
handled_same Q link (Told exchange) e p is = absurd (none-some ask.CommitConfirmed is)

pub renew_other : (request : Request) → ask_of request ≡ ask.Renew → Some (ask_of request) ≡ Some ask.CommitConfirmed → ⊥
renew_other request e is = absurd (let g : Some ask.Renew ≡ Some ask.CommitConfirmed = ap Some (sym e) ∙ is in cc)
