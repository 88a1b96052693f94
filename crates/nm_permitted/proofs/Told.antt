-- What is told of judged events, where crashes read whatever they read.
use Rattle.std.proofs.Common.{◌≡◌, ◌<◌, ◌+◌, ℕ, suc, List, [], ◌∷◌, ◌++◌, Bool, true, false, Option, Some, None, is_some, length, take, get_or, refl, sym, ap, ◌∙◌, subst, arith, append-nil, append_assoc, if◌then◌else◌}
use Rattle.std.proofs.lemmas.List.{take_more}
use Rattle.std.proofs.lemmas.List.Elements.{All-cons, All-head, All-tail}
use Rattle.nm_proto.specs.Content.{Meaning}
use Rattle.nm_proto.specs.declared.plan.Event.{Event}
use Rattle.nm_world.specs.declared.happened.Denied.{Denied}
use Rattle.nm_world.specs.World.{Setting, CoreState, WorldState, WorldValue, core_of, event_step, is_crash, with_state, AreCalm}
use Rattle.nm_world.specs.Runs.{LeadsTo}
use Rattle.nm_world.proofs.Rereading.{reaches_calm, reaches_run}
use Rattle.nm_permitted.specs.declared.judge.Denial.{Denial}
use Rattle.nm_permitted.specs.Permitted.{IsOver, JudgedTo, PassesTo, denied, numbered}

-- one more at the end
one_longer : {A : Type 0} (xs : List A) (x : A) → length (xs ++ x ∷ []) ≡ suc (length xs)
one_longer [] x = refl
one_longer (y ∷ xs) x = ap suc (one_longer xs x)

-- an event alone
one_calm : (event : Event) → is_crash event ≡ false → AreCalm (event ∷ [])
one_calm event calm = All-cons (λ e. is_crash e ≡ false) event [] calm (λ k d less. absurd (omega (arith, less)))

module _ {Config TheEdit Node : Type 0} (m : Meaning Config TheEdit Node) (setting : Setting TheEdit) (judge : CoreState Config Node → Event → Option Denial) where
  abbrev W : Type 0
  W = WorldState Config Node

  abbrev one : W → Event → W
  one w event = event_step m setting w event

  abbrev by : W → Event → Option Denial
  by w event = judge (core_of w) event

  -- what is told behind these
  abbrev more : W → List Denied → Event → List Denied
  more w so_far event = so_far ++ numbered (suc (length w.trail + length so_far)) (by w event)

  -- ---- one event more

  pub passes_then : (w : W) (so_far : List Denied) (first : List Event) (event : Event) (mid now : W) (all : List Denied)
      → PassesTo m setting judge w so_far first mid all → JudgedTo m setting judge event mid now
      → PassesTo m setting judge w so_far (first ++ event ∷ []) now (more mid all event)
  passes_then w so_far [] event mid now all over leads =
      let told : more mid all event ≡ more w so_far event =
      ap (λ v. more v all event) over.stays ∙ ap (λ l. more w l event) over.none in
      let ends : IsOver now now (more w so_far event) (more mid all event) = record { stays = refl; none = told } in
      (now, subst (λ v. JudgedTo m setting judge event v now) over.stays leads, ends)
  passes_then w so_far (next ∷ first) event mid now all passes leads =
      (passes.0, passes.1, passes_then passes.0 (more w so_far next) first event mid now all passes.2 leads)

  -- ---- without a crash nothing diverges

  judged_calm : (event : Event) (w now : W) → is_crash event ≡ false → JudgedTo m setting judge event w now → (b : Bool) → is_some (by w event) ≡ b → now.has_diverged ≡ w.has_diverged
  judged_calm event w now calm leads true is = ap (λ (v : W). v.has_diverged) (leads.stays is)
  judged_calm event w now calm leads false is = reaches_calm m setting w (event ∷ []) now (one_calm event calm) (now, leads.leads is, refl)

  pub passes_calm : (w : W) (so_far : List Denied) (events : List Event) (now : W) (all : List Denied) → AreCalm events → PassesTo m setting judge w so_far events now all
      → now.has_diverged ≡ w.has_diverged
  passes_calm w so_far [] now all calm over = ap (λ (v : W). v.has_diverged) over.stays
  passes_calm w so_far (event ∷ events) now all calm passes =
      passes_calm passes.0 (more w so_far event) events now all (All-tail (λ e. is_crash e ≡ false) event events calm) passes.2
      ∙ judged_calm event w passes.0 (All-head (λ e. is_crash e ≡ false) event events calm) passes.1 (is_some (by w event)) refl

  -- ---- what didn't diverge

  leads_once : (event : Event) (w now : W) → LeadsTo m setting event w now → now.has_diverged ≡ false → (b : Bool) → is_crash event ≡ b → w.has_diverged ≡ false
  leads_once event w now leads straight true is = (leads.rereads is).once straight
  leads_once event w now leads straight false is =
      sym (reaches_calm m setting w (event ∷ []) now (one_calm event is) (now, leads, refl)) ∙ straight

  judged_once : (event : Event) (w now : W) → JudgedTo m setting judge event w now → now.has_diverged ≡ false → (b : Bool) → is_some (by w event) ≡ b → w.has_diverged ≡ false
  judged_once event w now leads straight true is = sym (ap (λ (v : W). v.has_diverged) (leads.stays is)) ∙ straight
  judged_once event w now leads straight false is = leads_once event w now (leads.leads is) straight (is_crash event) refl

  passes_once : (w : W) (so_far : List Denied) (events : List Event) (now : W) (all : List Denied) → PassesTo m setting judge w so_far events now all → now.has_diverged ≡ false
      → w.has_diverged ≡ false
  passes_once w so_far [] now all over straight = sym (ap (λ (v : W). v.has_diverged) over.stays) ∙ straight
  passes_once w so_far (event ∷ events) now all passes straight =
      judged_once event w passes.0 passes.1 (passes_once passes.0 (more w so_far event) events now all passes.2 straight) (is_some (by w event)) refl

  -- what is told is what is denied, in the worlds that permitted events lead to
  told_by : (denial : Option Denial) (number : ℕ) (w mid : W) (so_far all : List Denied) (event : Event) (events : List Event)
      → (is_some denial ≡ true → mid ≡ w) → (is_some denial ≡ false → mid ≡ one w event)
      → all ≡ (so_far ++ numbered number denial) ++ denied m setting judge mid (length (so_far ++ numbered number denial)) events
      → all ≡ so_far ++ (numbered number denial
      ++ (if is_some denial then denied m setting judge w (suc (length so_far)) events else denied m setting judge (one w event) (length so_far) events))
  told_by None number w mid so_far all event events stays goes rest =
      rest ∙ ap (λ (l : List Denied). l ++ denied m setting judge mid (length l) events) (append-nil so_far)
      ∙ ap (λ v. so_far ++ denied m setting judge v (length so_far) events) (goes refl)
  told_by (Some denial) number w mid so_far all event events stays goes rest =
      let line : Denied = record { number = number; by = denial.by; path = denial.path } in
      rest ∙ append_assoc so_far (line ∷ []) (denied m setting judge mid (length (so_far ++ line ∷ [])) events)
      ∙ ap (λ n. so_far ++ (line ∷ denied m setting judge mid n events)) (one_longer so_far line)
      ∙ ap (λ v. so_far ++ (line ∷ denied m setting judge v (suc (length so_far)) events)) (stays refl)

  goes_one : (event : Event) (w now : W) → LeadsTo m setting event w now → now.has_diverged ≡ false → now ≡ one w event
  goes_one event w now leads straight = reaches_run m setting w (event ∷ []) now (now, leads, refl) straight

  pub passes_told : (w : W) (so_far : List Denied) (events : List Event) (now : W) (all : List Denied) → PassesTo m setting judge w so_far events now all → now.has_diverged ≡ false
      → all ≡ so_far ++ denied m setting judge w (length so_far) events
  passes_told w so_far [] now all over straight = over.none ∙ sym (append-nil so_far)
  passes_told w so_far (event ∷ events) now all passes straight =
      let mid = passes.0 in
      let so_much = more w so_far event in
      let still = passes_once mid so_much events now all passes.2 straight in
      told_by (by w event) (suc (length w.trail + length so_far)) w mid so_far all event events passes.1.stays
      (λ is. goes_one event w mid (passes.1.leads is) still)
      (passes_told mid so_much events now all passes.2 straight)

  -- where nothing is denied, nothing is told
  none_by : (denial : Option Denial) (number : ℕ) (w : W) (before : ℕ) (event : Event) (events : List Event) → denial ≡ None → denied m setting judge (one w event) before events ≡ []
      → numbered number denial ++ (if is_some denial then denied m setting judge w (suc before) events else denied m setting judge (one w event) before events) ≡ []
  none_by None number w before event events none rest = rest
  none_by (Some denial) number w before event events none rest = absurd cc

  pub none_denied : ((w : W) (event : Event) → by w event ≡ None) → (w : W) (before : ℕ) (events : List Event) → denied m setting judge w before events ≡ []
  none_denied free w before [] = refl
  none_denied free w before (event ∷ events) =
      none_by (by w event) (suc (length w.trail + before)) w before event events (free w event) (none_denied free (one w event) before events)

-- the next event of a run
module _ {TheContent Config TheEdit Node : Type 0} (meaning : TheContent → Meaning Config TheEdit Node) (judges : TheContent → Setting TheEdit → CoreState Config Node → Event → Option Denial)
    (first : WorldValue TheContent Config TheEdit Node) where
  pub run_passes : (events : List Event) (i : ℕ) (event : Event) (now later : WorldValue TheContent Config TheEdit Node) (so_far told all : List Denied)
      → i < length events → event ≡ get_or events i event → now ≡ with_state first now.state
      → PassesTo (meaning first.content) first.setting (judges first.content first.setting) first.state so_far (take i events) now.state told
      → JudgedTo (meaning now.content) now.setting (judges now.content now.setting) event now.state later.state
      → all ≡ told ++ numbered (suc (length now.state.trail + length told)) (judges now.content now.setting (core_of now.state) event)
      → PassesTo (meaning first.content) first.setting (judges first.content first.setting) first.state so_far (take (i + 1) events) later.state all
  run_passes events i event now later so_far told all within is others passes leads tells =
      let m = meaning first.content in
      let next = take_more events i event within ∙ ap (λ (x : Event). take i events ++ x ∷ []) (sym is) in
      let here = subst (λ (x : WorldValue TheContent Config TheEdit Node). JudgedTo (meaning x.content) x.setting (judges x.content x.setting) event now.state later.state) others leads in
      let told_here = subst (λ (x : WorldValue TheContent Config TheEdit Node).
      all ≡ told ++ numbered (suc (length now.state.trail + length told)) (judges x.content x.setting (core_of now.state) event)) others tells in
      subst (λ l. PassesTo m first.setting (judges first.content first.setting) first.state so_far l later.state all) (sym next)
      (subst (λ l. PassesTo m first.setting (judges first.content first.setting) first.state so_far (take i events ++ event ∷ []) later.state l) (sym told_here)
      (passes_then m first.setting (judges first.content first.setting) first.state so_far (take i events) event now.state later.state told passes here))
