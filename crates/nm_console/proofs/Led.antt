-- A run, and then rest where that is asked for, make what events lead to.
use Rattle.std.proofs.Common.{◌≡◌, ℕ, List, Bool, true, false, Result, Ok, Err, IfOk, sym, ap, ◌∙◌, subst}
use Rattle.nm_disk.specs.Image.{DiskState, AnyMoment}
use Rattle.nm_disk.specs.Moments.{and_then, weaker}
use Rattle.nm_manager.specs.declared.action.TurnFault.{TurnFault}
use Rattle.nm_world.specs.Drain.{drain_limit, drained}
use Rattle.nm_world.specs.Runs.{GoesOnAs, IsBetween, Reaches}
use Rattle.nm_world.specs.World.{WorldValue, WorldState, run, with_state}
use Rattle.nm_world.proofs.Growing.{goes_itself, goes_then}
use Rattle.nm_world.proofs.Passing.{drained_grows, run_grows}
use Rattle.nm_proto.specs.Content.{Meaning}
use Rattle.nm_proto.specs.declared.journal.Entry.{Entry}
use Rattle.nm_proto.specs.declared.plan.Event.{Event}
use Rattle.nm_console.specs.Console.{IsLedTo, led_to, rested}

-- entries between two moments are between two that lie around these
wider : (first before after last : List Entry) (image : List ℕ) → GoesOnAs first before → GoesOnAs after last → IsBetween before after image → IsBetween first last image
wider first before after last image begins ends between = record {
  so_far = between.so_far;
  reads = between.reads;
  began = goes_then first before between.so_far begins between.began;
  goes_on = goes_then between.so_far after last between.goes_on ends;
}

module _ {TheContent Config TheEdit Node : Type 0} (meaning : TheContent → Meaning Config TheEdit Node) (world mid : WorldValue TheContent Config TheEdit Node) (events : List Event) where
  abbrev W : Type 0
  W = WorldValue TheContent Config TheEdit Node

  abbrev ran : WorldState Config Node
  ran = run (meaning world.content) world.setting world.state events

  abbrev led : Bool → WorldState Config Node
  led drain = led_to (meaning world.content) world.setting events drain world.state

  -- the rest of a world that ran
  abbrev goes_to : WorldState Config Node
  goes_to = drained (meaning mid.content) mid.setting drain_limit mid.state

  led_is : (drain : Bool) → drain ≡ true → mid ≡ with_state world ran → goes_to ≡ led drain
  led_is drain is same = ap (λ (w : W). drained (meaning w.content) w.setting drain_limit w.state) same ∙ ap led (sym is)

  pub rest_done : (drain : Bool) (result : Result W TurnFault) → drain ≡ true → mid ≡ with_state world mid.state → (mid.state.has_diverged ≡ false → mid ≡ with_state world ran)
      → IfOk result (λ last. last.state.has_diverged ≡ false → last ≡ with_state mid goes_to) → IfOk result (λ last. last.state.has_diverged ≡ mid.state.has_diverged)
      → IfOk result (λ last. last.state.has_diverged ≡ false → last ≡ with_state world (led drain))
  rest_done drain (Ok last) is others done ended same = λ unstrayed.
      let here = done (sym same ∙ unstrayed) in
      ended unstrayed ∙ ap (λ (w : W). with_state w goes_to) others ∙ ap (with_state world) (led_is drain is here)
  rest_done drain (Err why) is others done ended same = tt

  pub rest_others : (result : Result W TurnFault) → mid ≡ with_state world mid.state → IfOk result (λ last. last ≡ with_state mid last.state) → IfOk result (λ last. last ≡ with_state world last.state)
  rest_others (Ok last) others same = same ∙ ap (λ (w : W). with_state w last.state) others
  rest_others (Err why) others same = tt

  abbrev Leads : Bool → WorldState Config Node → Type 0
  Leads drain last = IsLedTo (meaning world.content) world.setting events drain world.state last

  -- whatever crashes read, it is a world that the events lead to
  pub ran_reached : (drain : Bool) → drain ≡ false → Reaches (meaning world.content) world.setting world.state events mid.state → Leads drain mid.state
  ran_reached drain is reaches = record {
    ran = mid.state;
    reaches = reaches;
    rests = ap (λ rests. rested (meaning world.content) world.setting rests mid.state) (sym is);
  }

  pub rest_reached : (drain : Bool) (result : Result W TurnFault) → drain ≡ true → mid ≡ with_state world mid.state → Reaches (meaning world.content) world.setting world.state events mid.state
      → IfOk result (λ last. last.state ≡ goes_to) → IfOk result (λ last. Leads drain last.state)
  rest_reached drain (Ok last) is others reaches exact = record {
    ran = mid.state;
    reaches = reaches;
    rests = exact ∙ ap (λ (w : W). drained (meaning w.content) w.setting drain_limit mid.state) others
        ∙ ap (λ rests. rested (meaning world.content) world.setting rests mid.state) (sym is);
  }
  rest_reached drain (Err why) is others reaches exact = tt

  pub rest_straight : (result : Result W TurnFault) → mid.state.has_diverged ≡ false → IfOk result (λ last. last.state.has_diverged ≡ mid.state.has_diverged) → IfOk result (λ last. last.state.has_diverged ≡ false)
  rest_straight (Ok last) straight same = same ∙ straight
  rest_straight (Err why) straight same = tt

  -- what a run adds isn't more than what it leads to
  ran_goes : (drain : Bool) → GoesOnAs ran.entries (led drain).entries
  ran_goes true = drained_grows (meaning world.content) world.setting drain_limit ran
  ran_goes false = goes_itself ran.entries

  begun : GoesOnAs world.state.entries ran.entries
  begun = run_grows (meaning world.content) world.setting world.state events

  abbrev Leaves : List Entry → List Entry → DiskState → DiskState → Type 0
  Leaves before after old new = AnyMoment old new (IsBetween before after)

  -- what a crash leaves in the run
  pub ran_left : (drain : Bool) (old new : DiskState) → Leaves world.state.entries ran.entries old new → Leaves world.state.entries (led drain).entries old new
  ran_left drain old new moments =
      weaker old new (IsBetween world.state.entries ran.entries) (IsBetween world.state.entries (led drain).entries)
      (λ image. wider world.state.entries world.state.entries ran.entries (led drain).entries image (goes_itself world.state.entries) (ran_goes drain)) moments

  -- and after it
  pub rest_left : (drain : Bool) (old between new : DiskState) → drain ≡ true → mid ≡ with_state world ran → Leaves world.state.entries ran.entries old between
      → Leaves mid.state.entries goes_to.entries between new → Leaves world.state.entries (led drain).entries old new
  rest_left drain old between new is same first second =
      let here : mid.state ≡ ran = ap (λ (w : W). w.state) same in
      let then_ : Leaves ran.entries (led drain).entries between new =
      subst (λ (w : WorldState Config Node). Leaves ran.entries w.entries between new) (led_is drain is same) (subst (λ (w : WorldState Config Node). Leaves w.entries goes_to.entries between new) here second) in
      and_then old between new (IsBetween world.state.entries (led drain).entries) (ran_left drain old between first)
      (weaker between new (IsBetween ran.entries (led drain).entries) (IsBetween world.state.entries (led drain).entries)
      (λ image. wider world.state.entries ran.entries (led drain).entries (led drain).entries image begun (goes_itself (led drain).entries)) then_)
