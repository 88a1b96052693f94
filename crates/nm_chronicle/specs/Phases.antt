-- How far each change set has come at a device, as the board tells it (this project's own, over RFC 6241 section 8.4). The
-- code goes along the history and keeps a byte for each; what a phase means is read from the whole history.
use Rattle.std.specs.Prelude.{◌≡◌, ◌≤◌, ℕ, ◌-◌, ◌==◌, ◌&&◌, nat_le, Bool, true, false, List, [], ◌∷◌, length, drop, replicate, slice_index_or, slice_set, Option, Some, None, if◌then◌else◌}
use Rattle.std.specs.List.{sum_by}
use Rattle.nm_base.specs.Decimal.{number_of}
use Rattle.nm_base.specs.Token.{token_of, is_reserved}
use Rattle.nm_history.specs.declared.event.Noted.{Noted}
use Rattle.nm_history.specs.declared.outcome.Outcome.{Outcome}
use Rattle.nm_history.specs.declared.outcome.Outcome.TheVariants.{Never, Pending, Confirmed, Undone}
use Rattle.nm_history.specs.declared.outcome.Undoing.{Undoing}
use Rattle.nm_history.specs.declared.outcome.Undoing.TheVariants.{Cancel, End, Timer, Restart}
use Rattle.nm_history.specs.Effect.{Effect, noted_effect}
use Rattle.nm_history.specs.Effect.Effect.{Begins, Ends, Undoes, Neither}
use Rattle.nm_history.specs.Outcome.{Standing, standing_from, is_pending}
use Rattle.nm_chronicle.specs.declared.mark.Mark.{Mark}
use Rattle.nm_chronicle.specs.declared.mark.Mark.TheVariants.{Applied, Confirmed as IsConfirmed, Undone as IsUndone, Cancelled}
use Rattle.nm_chronicle.specs.declared.mark.Stray.{Stray}
use Rattle.nm_chronicle.specs.Line.{phase_weight}
use Rattle.nm_chronicle.specs.Board.{ChronicleState, noted}
use Rattle.nm_chronicle.specs.declared.waiting.Waiting.{Waiting}
use Rattle.nm_chronicle.specs.declared.waiting.Waiting.TheVariants.{Nothing, Other, Of}

-- ---- what a phase means

-- what undid a commit, as the board tells it
abbrev pub undone_phase : Undoing → ℕ
undone_phase Cancel = 4
undone_phase End = 3
undone_phase Timer = 3
undone_phase Restart = 3

-- the phase of an outcome
abbrev pub outcome_phase : Outcome → ℕ
outcome_phase Never = 0
outcome_phase Pending = 1
outcome_phase Confirmed = 2
outcome_phase (Undone by) = undone_phase by

-- the phase of each change set, and what waits at the device to be confirmed
pub record PhasesState : Type 0 where
  pub phases : List ℕ
  pub waiting : Waiting

-- the phase of a change set; none where it isn't one of the run
abbrev pub phase_at : PhasesState → ℕ → ℕ
phase_at s change = slice_index_or s.phases (change - 1) 0

-- ---- along a history

-- where the reading of a whole history stands
abbrev pub standing_of : List ℕ → List Noted → Standing
standing_of token history = standing_from token (record { outcome = Never; other = false }) history

-- a pending commit waits at the device, a change set's or another
abbrev pub is_waiting : Waiting → Bool
is_waiting Nothing = false
is_waiting Other = true
is_waiting (Of change) = true

-- what waits is the commit of this change set
abbrev pub waits_for : ℕ → Waiting → Bool
waits_for change Nothing = false
waits_for change Other = false
waits_for change (Of other) = change == other

-- a change set's phase, and what waits, fit where its reading stands
pub record Fits (waiting : Waiting) (change phase : ℕ) (standing : Standing) : Type 0 where
  pub phase_is : phase ≡ outcome_phase standing.outcome
  pub other_is : standing.outcome ≡ Never → standing.other ≡ is_waiting waiting
  pub waits_is : is_pending standing.outcome ≡ waits_for change waiting

-- the phases fit a history, and may go on with it
pub record Follow (s : PhasesState) (history : List Noted) : Type 0 where
  pub fits : (change : ℕ) → 1 ≤ change → change ≤ 64 → Fits s.waiting change (phase_at s change) (standing_of (token_of change) history)

-- ---- tokens

-- a number, where it is that of a change set of the board: 1 to 64
abbrev pub in_range : Option ℕ → Option ℕ
in_range None = None
in_range (Some number) = if nat_le 1 number && nat_le number 64 then Some number else None

-- the change set that a token names: `netm:` and its number
unfoldable pub named : List ℕ → Option ℕ
named token = if is_reserved token then in_range (number_of (drop 5 token)) else None

-- the change set of a number, where the board has it
abbrev pub change_of : ℕ → Option ℕ
change_of number = in_range (Some number)

-- the change set that a token names, where there is a token
abbrev pub named_by : Option (List ℕ) → Option ℕ
named_by None = None
named_by (Some token) = named token

-- ---- one entry more

-- the same phases, and this waits
abbrev pub waiting_for : PhasesState → Waiting → PhasesState
waiting_for s waiting = record s { waiting = waiting }

-- a change set comes to a phase, and something else waits
abbrev pub come_to : PhasesState → ℕ → ℕ → Waiting → PhasesState
come_to s change phase waiting = record { phases = slice_set s.phases (change - 1) phase; waiting = waiting }

-- a confirmed commit begins, of the change set that its token names: only the first one is the change set's
abbrev pub begun_by : PhasesState → Option ℕ → PhasesState
begun_by s None = waiting_for s Other
begun_by s (Some change) = if phase_at s change == 0 then come_to s change 1 (Of change) else waiting_for s Other

-- and goes on with what waits already
abbrev pub begun : PhasesState → Waiting → Option ℕ → PhasesState
begun s Nothing change = begun_by s change
begun s Other change = s
begun s (Of other) change = s

-- what waits comes to an end
abbrev pub finished : PhasesState → Waiting → ℕ → PhasesState
finished s Nothing phase = s
finished s Other phase = waiting_for s Nothing
finished s (Of change) phase = come_to s change phase Nothing

-- the phases after an entry of this effect
abbrev pub went : PhasesState → Effect → PhasesState
went s (Begins persist) = begun s s.waiting (named_by persist)
went s Ends = finished s s.waiting 2
went s (Undoes by) = finished s s.waiting (undone_phase by)
went s Neither = s

-- what waits is confirmed, or undone by something: that as an effect, and the phase after it
abbrev pub finished_effect : Option Undoing → Effect
finished_effect None = Ends
finished_effect (Some by) = Undoes by

-- the phase after what waited ends: confirmed where nothing undid it
abbrev pub finished_phase : Option Undoing → ℕ
finished_phase None = 2
finished_phase (Some by) = undone_phase by

-- ---- calls on the board

-- the call that puts a mark on a change set's line
abbrev pub call : ℕ → Mark → Option Stray
call change mark = Some (record { change = change; mark = mark })

-- what is called as a commit begins: the first one of a change set is applied at the device, another calls nothing
abbrev pub begun_by_call : PhasesState → ℕ → Option ℕ → Option Stray
begun_by_call s device None = None
begun_by_call s device (Some change) = if phase_at s change == 0 then call change (Applied device) else None

-- the same where something may wait already: then it is a renewal, which calls nothing
abbrev pub begun_call : PhasesState → ℕ → Waiting → Option ℕ → Option Stray
begun_call s device Nothing change = begun_by_call s device change
begun_call s device Other change = None
begun_call s device (Of other) change = None

-- the mark of what undid a commit
abbrev pub undone_mark : ℕ → Undoing → Mark
undone_mark device Cancel = Cancelled device
undone_mark device End = IsUndone device
undone_mark device Timer = IsUndone device
undone_mark device Restart = IsUndone device

-- what is called as what waits ends: a mark for the change set that it is of, and nothing for another commit
abbrev pub finished_call : Waiting → Mark → Option Stray
finished_call Nothing mark = None
finished_call Other mark = None
finished_call (Of change) mark = call change mark

-- the mark of an end: confirmed where nothing undid it
abbrev pub finished_mark : ℕ → Option Undoing → Mark
finished_mark device None = IsConfirmed device
finished_mark device (Some by) = undone_mark device by

-- the call that an entry of this effect makes: one at most
abbrev pub call_of : PhasesState → ℕ → Effect → Option Stray
call_of s device (Begins persist) = begun_call s device s.waiting (named_by persist)
call_of s device Ends = finished_call s.waiting (IsConfirmed device)
call_of s device (Undoes by) = finished_call s.waiting (undone_mark device by)
call_of s device Neither = None

-- the board after a call
abbrev pub called : ChronicleState → Option Stray → ChronicleState
called board None = board
called board (Some it) = noted board it.change it.mark

-- what a call keeps of the phases and the board
pub record Goes (old new : PhasesState) (board after : ChronicleState) (device : ℕ) (effect : Effect) : Type 0 where
  pub phases_are : new ≡ went old effect
  pub board_is : after ≡ called board (call_of old device effect)

-- ---- entries more, oldest first

-- the phases after these entries, oldest first
abbrev pub went_along : PhasesState → List Noted → PhasesState
went_along s [] = s
went_along s (entry ∷ later) = went_along (went s (noted_effect entry)) later

-- the board after their calls
abbrev pub called_along : PhasesState → ChronicleState → ℕ → List Noted → ChronicleState
called_along s board device [] = board
called_along s board device (entry ∷ later) =
    called_along (went s (noted_effect entry)) (called board (call_of s device (noted_effect entry))) device later

-- what going along entries keeps of the phases and the board
pub record GoesAlong (old new : PhasesState) (board after : ChronicleState) (device : ℕ) (entries : List Noted) : Type 0 where
  pub phases_are : new ≡ went_along old entries
  pub board_is : after ≡ called_along old board device entries

-- ---- what is true of all phases at a device

-- the phases before anything happened: none of 64 change sets has any, and nothing waits
abbrev pub fresh_phases : PhasesState
fresh_phases = record { phases = replicate 64 0; waiting = Nothing }

-- the change set that waits is in the phase in which it does
abbrev pub WaitsIn : List ℕ → Waiting → Type 0
WaitsIn phases Nothing = Unit {0}
WaitsIn phases Other = Unit {0}
WaitsIn phases (Of change) = (1 ≤ change) × (slice_index_or phases (change - 1) 0 ≡ 1)

-- there is one for each change set, and the device's share is what they weigh
pub record AreCounted (s : PhasesState) (share : ℕ) : Type 0 where
  pub many : length s.phases ≡ 64
  pub waits : WaitsIn s.phases s.waiting
  pub weight : share ≡ sum_by phase_weight s.phases
