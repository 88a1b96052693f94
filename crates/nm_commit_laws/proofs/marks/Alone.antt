-- After a run the marks of every device tell what has become of change sets there.
use Rattle.std.proofs.Common.{◌≡◌, ℕ, suc, true, false, List, Option, Some, None, is_some, slice_get, refl, subst}
use Rattle.nm_proto.specs.declared.plan.Event.{Event}
use Rattle.nm_proto.specs.Content.{Meaning, Laws}
use Rattle.nm_history.specs.History.{RecordedState}
use Rattle.nm_world.specs.World.{IsFirst, Setting, WorldState, run, start}
use Rattle.nm_safety.specs.Safe.{IsProper}
use Rattle.nm_safety.proofs.Devices.{run_keeps}
use Rattle.nm_safety.proofs.Lists.{some_is}
use Rattle.nm_safety.proofs.Sound.{first_at, run_sound}
use Rattle.nm_commit_laws.proofs.brings.Alone.{run_brings}
use Rattle.nm_commit_laws.proofs.leaves.Alone.{run_leaves}
use Rattle.nm_commit_laws.specs.Marks.{ArePlain, AreUnmarked, MarksTell, TellsMarks}
use Rattle.nm_commit_laws.proofs.marks.Runs.{run_waits}
use Rattle.nm_commit_laws.proofs.marks.Steps.{marks_along}

pub there : {A : Type 0} (x : A) (found : Option A) → found ≡ Some x → is_some found ≡ true
there x None e = absurd (let g : None ≡ Some x = e in cc)
there x (Some one) e = refl

module _ {Config TheEdit Node : Type 0} (m : Meaning Config TheEdit Node) (setting : Setting TheEdit) (running : List Config) (events : List Event)
    (place : ℕ) (r : RecordedState Config Node)
    (here : slice_get (run m setting (start setting running) events).devices place ≡ Some r) where
  begun : is_some (slice_get running place) ≡ true
  begun =
      some_is r (λ _. is_some (slice_get running place) ≡ true) (slice_get (run m setting (start setting running) events).devices place) here
      (run_keeps m setting (λ j _. is_some (slice_get running j) ≡ true) (λ j one event h happens is. is) (start setting running) events
      (first_at (λ j _. is_some (slice_get running j) ≡ true) running (λ j first begins. there first (slice_get running j) begins)) place)

  -- a device began somehow
  pub with_first : (T : Type 0) → ((first : Config) → slice_get running place ≡ Some first → T) → T
  with_first T step = by_first (slice_get running place) refl begun
    where
      by_first : (found : Option Config) → slice_get running place ≡ found → is_some found ≡ true → T
      by_first None begins some = absurd (let g : false ≡ true = some in cc)
      by_first (Some first) begins some = step first begins

module _ {Config TheEdit Node : Type 0} (m : Meaning Config TheEdit Node) (laws : Laws m) (setting : Setting TheEdit)
    (running : List Config) (events : List Event) (proper : IsProper {Node = Node} m setting running events) where
  abbrev ran : WorldState Config Node
  ran = run m setting (start setting running) events

  tells_from : ArePlain m setting → AreUnmarked m running → (place : ℕ) (r : RecordedState Config Node) → slice_get ran.devices place ≡ Some r
      → (first : Config) → slice_get running place ≡ Some first → TellsMarks m r
  tells_from plain unmarked place r here first begins =
      let is : IsFirst m first = some_is first (IsFirst m) (slice_get running place) begins (proper.first place) in
      let lead = run_sound m laws setting running events place first r begins here is.valid in
      subst (λ s. TellsMarks m (record { device = s; history = r.history })) lead.reaches
      (marks_along m laws setting proper.edits plain ran.entries (suc place) first r.history is (unmarked place first begins) lead.legal
      ((run_brings m laws setting running events proper).own_edits place first r begins here)
      ((run_leaves m laws setting running events proper).leaves place first r begins here)
      (run_waits m laws setting running events proper place r here).waits)

  pub run_tells : ArePlain m setting → AreUnmarked m running → MarksTell m ran
  run_tells plain unmarked place r here =
      with_first m setting running events place r here (TellsMarks m r) (tells_from plain unmarked place r here)
