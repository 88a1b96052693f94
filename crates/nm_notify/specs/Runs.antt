-- Notices in runs (this project's own, over RFC 6470 section 2.2): a start, any number of extensions, and then one end.
use Rattle.std.specs.Prelude.{◌≡◌, List, [], ◌∷◌, Bool, true, false, Option, Some, None}
use Rattle.nm_notify.specs.declared.notice.ConfirmEvent.{ConfirmEvent}
use Rattle.nm_notify.specs.declared.notice.ConfirmEvent.TheVariants.{Start, Cancel, Timeout, Extend, Complete}
use Rattle.nm_notify.specs.declared.notice.Notice.{Notice}

-- whether a run goes on after an event, where one went on before it or didn't. None where the event may not come then
abbrev pub goes_on : Bool → ConfirmEvent → Option Bool
goes_on false Start = Some true
goes_on true Extend = Some true
goes_on true Complete = Some false
goes_on true Cancel = Some false
goes_on true Timeout = Some false
goes_on _ _ = None

-- the same where events so far could come
abbrev pub goes_on_if : Option Bool → ConfirmEvent → Option Bool
goes_on_if None event = None
goes_on_if (Some going) event = goes_on going event

-- whether a run goes on at the end of notices: the last may want its end. None where they aren't runs, one after another
abbrev pub going_after : Option Bool → List Notice → Option Bool
going_after going [] = going
going_after going (notice ∷ notices) = going_after (goes_on_if going notice.event) notices

-- the notices are whole runs but for the last, which wants its end where this says so
abbrev pub AreRuns : List Notice → Bool → Type 0
AreRuns notices going = going_after (Some false) notices ≡ Some going
