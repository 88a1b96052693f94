-- What is told of a world that was led by events.
use Rattle.std.proofs.Common.{◌≡◌, inl, inr, ℕ, List, Bool, true, false, Option, Result, Ok, Err, IfOk, IsSome, IfSome, refl, ap, subst}
use Rattle.nm_journal.specs.Fits.{ReadsAs}
use Rattle.nm_world.specs.World.{AreCalm, Setting, WorldValue, WorldState, with_state}
use Rattle.nm_proto.specs.declared.plan.Event.{Event}
use Rattle.nm_console.specs.declared.journal.JournalStop.{JournalStop}
use Rattle.nm_console.specs.declared.said.Said.{Said}
use Rattle.nm_console.specs.declared.status.Status.{Status}
use Rattle.nm_report.specs.declared.details.Details.{Details}
use Rattle.nm_console.specs.Console.{Tells, TellsLast, damaged, world_told}

module _ {TheContent Config TheEdit Node : Type 0} (shown : TheContent → Config → List ℕ) (details : Details) (so : WorldState Config Node → Type 0) (world last : WorldValue TheContent Config TheEdit Node) (led : WorldState Config Node)
    (events : List Event) (stored after : Option (List ℕ)) (status : Status) (text : List ℕ) where
  abbrev Goal : Type 0
  Goal = TellsLast (world_told (shown world.content) details world.setting) so led events stored after status text

  ran_by : (has_diverged : Bool) → last.state.has_diverged ≡ has_diverged → so last.state → last ≡ with_state world last.state → (last.state.has_diverged ≡ false → last ≡ with_state world led)
      → (IsSome stored → last.state.has_diverged ≡ false) → (AreCalm events → last.state.has_diverged ≡ false) → IfSome after (ReadsAs last.state.entries)
      → Tells (world_told (shown world.content) details world.setting last.state) status text → Goal
  ran_by false is came same done straight calm stores tells =
      let led_is : last.state ≡ led = ap (λ (w : WorldValue TheContent Config TheEdit Node). w.state) (done is) in
      inl (subst (λ w. Tells (world_told (shown world.content) details world.setting w) status text) led_is tells, subst (λ (w : WorldState Config Node). IfSome after (ReadsAs w.entries)) led_is stores)
  ran_by true is came same done straight calm stores tells = inr (record {
    crashed = λ h. let no = calm h in absurd cc;
    untold = λ h. let no = straight h in absurd cc;
    tells = inl (record { last = last.state; has = is; is_so = came; tells = tells });
  })

  -- what was told of the world that it came to
  pub ran_tells : so last.state → last ≡ with_state world last.state → (last.state.has_diverged ≡ false → last ≡ with_state world led)
      → (IsSome stored → last.state.has_diverged ≡ false) → (AreCalm events → last.state.has_diverged ≡ false) → IfSome after (ReadsAs last.state.entries)
      → Tells (world_told (shown last.content) details last.setting last.state) status text → Goal
  ran_tells came same done straight calm stores tells =
      ran_by last.state.has_diverged refl came same done straight calm stores
      (subst (λ (w : WorldValue TheContent Config TheEdit Node). Tells (world_told (shown w.content) details w.setting last.state) status text) same tells)

-- or that its journal couldn't be read
pub damaged_tells : {Config TheEdit Node : Type 0} (shown : Config → List ℕ) (details : Details) (setting : Setting TheEdit) (so : WorldState Config Node → Type 0) (led : WorldState Config Node) (events : List Event) (stored after : Option (List ℕ))
    (status : Status) (text : List ℕ) (offset : ℕ) → (AreCalm events → ⊥) → (IsSome stored → ⊥) → Tells (damaged offset) status text → TellsLast (world_told shown details setting) so led events stored after status text
damaged_tells shown details setting so led events stored after status text offset crashed untold tells =
    inr (record { crashed = crashed; untold = untold; tells = inr (record { offset = offset; tells = tells }) })

-- the same of an answer, where there is one
pub damaged_told : {Config TheEdit Node : Type 0} (shown : Config → List ℕ) (details : Details) (setting : Setting TheEdit) (so : WorldState Config Node → Type 0) (led : WorldState Config Node) (events : List Event) (stored after : Option (List ℕ))
    (result : Result Said JournalStop) (offset : ℕ) → (AreCalm events → ⊥) → (IsSome stored → ⊥) → IfOk result (λ said. Tells (damaged offset) said.status said.text.items)
    → IfOk result (λ said. TellsLast (world_told shown details setting) so led events stored after said.status said.text.items)
damaged_told shown details setting so led events stored after (Ok said) offset crashed untold tells =
    damaged_tells shown details setting so led events stored after said.status said.text.items offset crashed untold tells
damaged_told shown details setting so led events stored after (Err stop) offset crashed untold tells = tt
