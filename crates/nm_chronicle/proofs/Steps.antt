-- One entry more: the phases fit the longer history.
use Rattle.std.proofs.Common.{Option, Some, None, inl, inr, ◌≡◌, ◌≢◌, ℕ, ◌-◌, ◌≤◌, ◌==◌, ◌++◌, Bool, true, false, List, [], ◌∷◌, length, refl, sym, ap, ◌∙◌, subst, arith, if◌then◌else◌}
use Rattle.std.proofs.lemmas.Bool.{cases_eq}
use Rattle.std.proofs.lemmas.Bool.Decides.{nat_tests}
use Rattle.std.proofs.lemmas.List.{get_or-set_same, get_or-set_other}
use Rattle.nm_base.specs.Token.{token_of}
use Rattle.nm_history.specs.declared.event.Noted.{Noted}
use Rattle.nm_history.specs.declared.outcome.Outcome.{Outcome}
use Rattle.nm_history.specs.declared.outcome.Outcome.TheVariants.{Never, Pending, Confirmed, Undone}
use Rattle.nm_history.specs.declared.outcome.Undoing.{Undoing}
use Rattle.nm_history.specs.declared.outcome.Undoing.TheVariants.{Cancel, End, Timer, Restart}
use Rattle.nm_history.specs.Effect.{Effect, noted_effect}
use Rattle.nm_history.specs.Effect.Effect.{Begins, Ends, Undoes, Neither}
use Rattle.nm_history.specs.Outcome.{Standing, standing_after, standing_from, is_token}
use Rattle.nm_history.proofs.Standings.{standing_after-neither}
use Rattle.nm_chronicle.specs.declared.waiting.Waiting.{Waiting}
use Rattle.nm_chronicle.specs.declared.waiting.Waiting.TheVariants.{Nothing, Other, Of}
use Rattle.nm_chronicle.specs.Phases.{PhasesState, Fits, Follow, phase_at, undone_phase, outcome_phase, is_waiting, waits_for, standing_of, named_by, come_to, waiting_for, begun, begun_by, finished, finished_effect, finished_phase, went, AreCounted, WaitsIn}
use Rattle.nm_chronicle.proofs.Named.{Names, names_at}

-- ---- a phase, where a change set came to another

at_same : (s : PhasesState) (change phase : ℕ) (waiting : Waiting) → 1 ≤ change → change ≤ 64 → length s.phases ≡ 64 → phase_at (come_to s change phase waiting) change ≡ phase
at_same s change phase waiting low high many = get_or-set_same s.phases (change - 1) phase 0 (omega (arith, low, high, many))

at_other : (s : PhasesState) (other change phase : ℕ) (waiting : Waiting) → 1 ≤ change → 1 ≤ other → change ≢ other → phase_at (come_to s other phase waiting) change ≡ phase_at s change
at_other s other change phase waiting low low_other apart = get_or-set_other s.phases (other - 1) (change - 1) phase 0 (λ e. apart (omega (arith, e, low, low_other)))

test_apart : (n m : ℕ) → n ≢ m → (n == m) ≡ false
test_apart n m other = grind (arith, nat_tests)

test_same : (n m : ℕ) → n ≡ m → (n == m) ≡ true
test_same n m e = grind (arith, nat_tests)

is_same : (n m : ℕ) → (n == m) ≡ true → n ≡ m
is_same n m e = grind (arith, nat_tests)

two_ways : (b : Bool) → b ≡ true → b ≡ false → ⊥
two_ways b is isnt = cc

undone_is_some : (by : Undoing) → undone_phase by ≡ 0 → ⊥
undone_is_some Cancel e = absurd (omega (arith, e))
undone_is_some End e = absurd (omega (arith, e))
undone_is_some Timer e = absurd (omega (arith, e))
undone_is_some Restart e = absurd (omega (arith, e))

-- ---- the reading of one change set, by what waits

module _ (token : List ℕ) (change phase : ℕ) where
  -- what waited came to an end, and wasn't this change set's
  ended_other : (waiting : Waiting) (outcome : Outcome) (other : Bool) (by : Option Undoing) → waits_for change waiting ≡ false → Fits waiting change phase (record { outcome = outcome; other = other })
      → Fits Nothing change phase (standing_after token outcome other (finished_effect by))
  ended_other waiting Never other None none fits = record { phase_is = fits.phase_is; other_is = λ e. refl; waits_is = refl }
  ended_other waiting Never other (Some by) none fits = record { phase_is = fits.phase_is; other_is = λ e. refl; waits_is = refl }
  ended_other waiting Pending other by none fits = absurd (two_ways true refl (fits.waits_is ∙ none))
  ended_other waiting Confirmed other None none fits = record { phase_is = fits.phase_is; other_is = λ e. cc; waits_is = refl }
  ended_other waiting Confirmed other (Some by) none fits = record { phase_is = fits.phase_is; other_is = λ e. cc; waits_is = refl }
  ended_other waiting (Undone was) other None none fits = record { phase_is = fits.phase_is; other_is = λ e. cc; waits_is = refl }
  ended_other waiting (Undone was) other (Some by) none fits = record { phase_is = fits.phase_is; other_is = λ e. cc; waits_is = refl }

  -- it was
  ended_own : (waiting : Waiting) (outcome : Outcome) (other : Bool) (by : Option Undoing) → waits_for change waiting ≡ true → Fits waiting change phase (record { outcome = outcome; other = other })
      → Fits Nothing change (finished_phase by) (standing_after token outcome other (finished_effect by))
  ended_own waiting Never other by waits fits = absurd (two_ways false (fits.waits_is ∙ waits) refl)
  ended_own waiting Pending other None waits fits = record { phase_is = refl; other_is = λ e. cc; waits_is = refl }
  ended_own waiting Pending other (Some by) waits fits = record { phase_is = refl; other_is = λ e. cc; waits_is = refl }
  ended_own waiting Confirmed other by waits fits = absurd (two_ways false (fits.waits_is ∙ waits) refl)
  ended_own waiting (Undone was) other by waits fits = absurd (two_ways false (fits.waits_is ∙ waits) refl)

  -- a confirmed commit goes on with what waits
  goes_on : (waiting : Waiting) (outcome : Outcome) (other : Bool) (persist : Option (List ℕ)) → is_waiting waiting ≡ true → Fits waiting change phase (record { outcome = outcome; other = other })
      → Fits waiting change phase (standing_after token outcome other (Begins persist))
  goes_on waiting Never true persist waits fits = record { phase_is = fits.phase_is; other_is = fits.other_is; waits_is = fits.waits_is }
  goes_on waiting Never false persist waits fits = absurd (two_ways false (fits.other_is refl ∙ waits) refl)
  goes_on waiting Pending other persist waits fits = record { phase_is = fits.phase_is; other_is = fits.other_is; waits_is = fits.waits_is }
  goes_on waiting Confirmed other persist waits fits = record { phase_is = fits.phase_is; other_is = fits.other_is; waits_is = fits.waits_is }
  goes_on waiting (Undone was) other persist waits fits = record { phase_is = fits.phase_is; other_is = fits.other_is; waits_is = fits.waits_is }

  -- a confirmed commit begins that isn't this change set's first
  begun_other : (waiting : Waiting) (outcome : Outcome) (other : Bool) (persist : Option (List ℕ)) → is_waiting waiting ≡ true → waits_for change waiting ≡ false → (outcome ≡ Never → is_token token persist ≡ false)
      → Fits Nothing change phase (record { outcome = outcome; other = other })
      → Fits waiting change phase (standing_after token outcome other (Begins persist))
  begun_other waiting Never true persist waits none unnamed fits = absurd (two_ways true refl (fits.other_is refl))
  begun_other waiting Never false persist waits none unnamed fits =
      let pending : Standing = record { outcome = Pending; other = false } in
      let another : Standing = record { outcome = Never; other = true } in
      subst (λ (b : Bool). Fits waiting change phase (if b then pending else another)) (sym (unnamed refl))
      (record { phase_is = fits.phase_is; other_is = λ e. sym waits; waits_is = sym none })
  begun_other waiting Pending other persist waits none unnamed fits = absurd (two_ways true refl fits.waits_is)
  begun_other waiting Confirmed other persist waits none unnamed fits = record { phase_is = fits.phase_is; other_is = λ e. cc; waits_is = sym none }
  begun_other waiting (Undone was) other persist waits none unnamed fits = record { phase_is = fits.phase_is; other_is = λ e. cc; waits_is = sym none }

  -- it is
  begun_own : (outcome : Outcome) (other : Bool) (persist : Option (List ℕ)) → phase ≡ 0 → is_token token persist ≡ true → Fits Nothing change phase (record { outcome = outcome; other = other })
      → Fits (Of change) change 1 (standing_after token outcome other (Begins persist))
  begun_own Never true persist first its fits = absurd (two_ways true refl (fits.other_is refl))
  begun_own Never false persist first its fits =
      let pending : Standing = record { outcome = Pending; other = false } in
      let another : Standing = record { outcome = Never; other = true } in
      subst (λ (b : Bool). Fits (Of change) change 1 (if b then pending else another)) (sym its)
      (record { phase_is = refl; other_is = λ e. cc; waits_is = sym (test_same change change refl) })
  begun_own Pending other persist first its fits = absurd (two_ways true refl fits.waits_is)
  begun_own Confirmed other persist first its fits = absurd (let e = sym first ∙ fits.phase_is in omega (arith, e))
  begun_own (Undone was) other persist first its fits = absurd (undone_is_some was (sym fits.phase_is ∙ first))

-- ---- one change set, whatever the entry does

-- the change set that waits has a number of its own
abbrev pub Low : Waiting → Type 0
Low Nothing = Unit {0}
Low Other = Unit {0}
Low (Of change) = 1 ≤ change

module _ (s : PhasesState) (change : ℕ) (low : 1 ≤ change) (high : change ≤ 64) (many : length s.phases ≡ 64) (outcome : Outcome) (other : Bool) where
  -- the change set fits what waits, in these phases
  abbrev pub FitsIn : PhasesState → Standing → Type 0
  FitsIn new standing = Fits new.waiting change (phase_at new change) standing

  abbrev pub FitsNow : Waiting → Type 0
  FitsNow waiting = Fits waiting change (phase_at s change) (record { outcome = outcome; other = other })

  -- what waited comes to an end
  finished_fits : (waiting : Waiting) (by : Option Undoing) → s.waiting ≡ waiting → Low waiting → FitsNow waiting → FitsIn (finished s waiting (finished_phase by)) (standing_after (token_of change) outcome other (finished_effect by))
  finished_fits Nothing by is low_waits fits =
      subst (λ (w : Waiting). Fits w change (phase_at s change) (standing_after (token_of change) outcome other (finished_effect by))) (sym is)
      (ended_other (token_of change) change (phase_at s change) Nothing outcome other by refl fits)
  finished_fits Other by is low_waits fits = ended_other (token_of change) change (phase_at s change) Other outcome other by refl fits
  finished_fits (Of it) by is low_waits fits = elim (cases_eq change it) [
    | inl same ↦
        subst (λ n. Fits Nothing change n (standing_after (token_of change) outcome other (finished_effect by))) (sym (subst (λ n. phase_at (come_to s n (finished_phase by) Nothing) change ≡ finished_phase by) same (at_same s change (finished_phase by) Nothing low high many)))
        (ended_own (token_of change) change (phase_at s change) (Of it) outcome other by (test_same change it same) fits)
    | inr apart ↦
        subst (λ n. Fits Nothing change n (standing_after (token_of change) outcome other (finished_effect by))) (sym (at_other s it change (finished_phase by) Nothing low low_waits apart))
        (ended_other (token_of change) change (phase_at s change) (Of it) outcome other by (test_apart change it apart) fits)
  ]

  -- a confirmed commit begins, of another change set, or not this one's first
  left_alone : (persist : Option (List ℕ)) → (outcome ≡ Never → is_token (token_of change) persist ≡ false) → FitsNow Nothing → FitsIn (waiting_for s Other) (standing_after (token_of change) outcome other (Begins persist))
  left_alone persist unnamed fits = begun_other (token_of change) change (phase_at s change) Other outcome other persist refl refl unnamed fits

  -- the named change set begins
  named_fits : (persist : Option (List ℕ)) (it : ℕ) (first : Bool) → Names persist (Some it) → (phase_at s it == 0) ≡ first → FitsNow Nothing
      → FitsIn (if first then come_to s it 1 (Of it) else waiting_for s Other) (standing_after (token_of change) outcome other (Begins persist))
  named_fits persist it true names first fits = elim (cases_eq change it) [
    | inl same ↦
        subst (λ n. FitsIn (come_to s n 1 (Of n)) (standing_after (token_of change) outcome other (Begins persist))) same
        (subst (λ n. Fits (Of change) change n (standing_after (token_of change) outcome other (Begins persist))) (sym (at_same s change 1 (Of change) low high many))
        (begun_own (token_of change) change (phase_at s change) outcome other persist (ap (phase_at s) same ∙ is_same (phase_at s it) 0 first) (names.its change high ∙ test_same change it same) fits))
    | inr apart ↦
        subst (λ n. Fits (Of it) change n (standing_after (token_of change) outcome other (Begins persist))) (sym (at_other s it change 1 (Of it) low names.low apart))
        (begun_other (token_of change) change (phase_at s change) (Of it) outcome other persist refl (test_apart change it apart) (λ e. names.its change high ∙ test_apart change it apart) fits)
  ]
  named_fits persist it false names later fits = left_alone persist unnamed fits
    where
      unnamed : outcome ≡ Never → is_token (token_of change) persist ≡ false
      unnamed e = elim (cases_eq change it) [
        | inl same ↦ absurd (two_ways (phase_at s it == 0) (test_same (phase_at s it) 0 (sym (ap (phase_at s) same) ∙ (fits.phase_is ∙ ap outcome_phase e))) later)
        | inr apart ↦ names.its change high ∙ test_apart change it apart
      ]

  begun_by_fits : (persist : Option (List ℕ)) (it : Option ℕ) → Names persist it → FitsNow Nothing → FitsIn (begun_by s it) (standing_after (token_of change) outcome other (Begins persist))
  begun_by_fits persist None names fits = left_alone persist (λ e. names change low high) fits
  begun_by_fits persist (Some it) names fits = named_fits persist it (phase_at s it == 0) names refl fits

  -- a confirmed commit begins, or goes on with what waits
  begun_fits : (waiting : Waiting) (persist : Option (List ℕ)) → s.waiting ≡ waiting → FitsNow waiting → FitsIn (begun s waiting (named_by persist)) (standing_after (token_of change) outcome other (Begins persist))
  begun_fits Nothing persist is fits = begun_by_fits persist (named_by persist) (names_at persist) fits
  begun_fits Other persist is fits =
      subst (λ (w : Waiting). Fits w change (phase_at s change) (standing_after (token_of change) outcome other (Begins persist))) (sym is)
      (goes_on (token_of change) change (phase_at s change) Other outcome other persist refl fits)
  begun_fits (Of it) persist is fits =
      subst (λ (w : Waiting). Fits w change (phase_at s change) (standing_after (token_of change) outcome other (Begins persist))) (sym is)
      (goes_on (token_of change) change (phase_at s change) (Of it) outcome other persist refl fits)

  went_fits : (effect : Effect) → Low s.waiting → FitsNow s.waiting → FitsIn (went s effect) (standing_after (token_of change) outcome other effect)
  went_fits (Begins persist) low_waits fits = begun_fits s.waiting persist refl fits
  went_fits Ends low_waits fits = finished_fits s.waiting None refl low_waits fits
  went_fits (Undoes by) low_waits fits = finished_fits s.waiting (Some by) refl low_waits fits
  went_fits Neither low_waits fits = subst (FitsIn s) (sym (standing_after-neither (token_of change) outcome other)) fits

-- ---- all change sets, along a history

low_waiting : (phases : List ℕ) (waiting : Waiting) → WaitsIn phases waiting → Low waiting
low_waiting phases Nothing waits = tt
low_waiting phases Other waits = tt
low_waiting phases (Of change) waits = waits.0

read_push : (token : List ℕ) (from : Standing) (history : List Noted) (entry : Noted)
    → standing_from token from (history ++ entry ∷ []) ≡ (let last = standing_from token from history in standing_after token last.outcome last.other (noted_effect entry))
read_push token from [] entry = refl
read_push token from (first ∷ history) entry = read_push token (standing_after token from.outcome from.other (noted_effect first)) history entry

pub follow_on : (s : PhasesState) (share : ℕ) (history : List Noted) (entry : Noted) → AreCounted s share → Follow s history → Follow (went s (noted_effect entry)) (history ++ entry ∷ [])
follow_on s share history entry counted follow = record {
  fits = λ change low high.
      let st = standing_of (token_of change) history in
      let new = went s (noted_effect entry) in
      subst (λ (standing : Standing). Fits new.waiting change (phase_at new change) standing) (sym (read_push (token_of change) (record { outcome = Never; other = false }) history entry))
      (went_fits s change low high counted.many st.outcome st.other (noted_effect entry) (low_waiting s.phases s.waiting counted.waits) (follow.fits change low high));
}
