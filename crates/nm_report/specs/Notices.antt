-- What devices tell of confirmed commits (RFC 6470 section 2.2), as text (this project's own). Each line ends with one newline.
use Rattle.std.specs.Prelude.{ℕ, ◌+◌, List, [], ◌∷◌, ◌++◌, Bool, true, false, codes, decimal}
use Rattle.std.specs.List.{flat_map}
use Rattle.nm_history.specs.declared.event.Noted.{Noted}
use Rattle.nm_history.specs.History.{RecordedState}
use Rattle.nm_notify.specs.declared.notice.ConfirmEvent.{ConfirmEvent}
use Rattle.nm_notify.specs.declared.notice.ConfirmEvent.TheVariants.{Start, Cancel, Timeout, Extend, Complete}
use Rattle.nm_notify.specs.declared.notice.Notice.{Notice}
use Rattle.nm_notify.specs.Notices.{notices_in}
use Rattle.nm_report.specs.Trace.{session_text, timeout_text}

-- what happened to a pending commit, in a word
abbrev pub event_word : ConfirmEvent → List ℕ
event_word Start = codes "start"
event_word Cancel = codes "cancel"
event_word Timeout = codes "timeout"
event_word Extend = codes "extend"
event_word Complete = codes "complete"

-- the entry that a notice tells of: the device, and the entry's number in that device's history
unfoldable pub notice_place : ℕ → ℕ → List ℕ
notice_place device position = codes "notice " ++ decimal device ++ codes " " ++ decimal position

-- what happened there, and where they are given the session and how long the commit waits
unfoldable pub notice_words : Notice → List ℕ
notice_words notice = codes " " ++ event_word notice.event ++ session_text notice.session ++ timeout_text notice.timeout

-- a notice of a device as a line
unfoldable pub notice_line : ℕ → Notice → List ℕ
notice_line device notice = notice_place device notice.position ++ notice_words notice ++ codes "\n"

-- the notices of a device, read from its history, oldest first
unfoldable pub device_notices : ℕ → List Noted → List ℕ
device_notices device history = flat_map (notice_line device) (notices_in history)

module _ {Config Node : Type 0} where
  -- those of devices from a number on
  abbrev pub notice_lines : ℕ → List (RecordedState Config Node) → List ℕ
  notice_lines device [] = []
  notice_lines device (r ∷ rs) = device_notices device r.history ++ notice_lines (device + 1) rs

  -- the lines, where they are asked for
  abbrev pub notices_text : Bool → List (RecordedState Config Node) → List ℕ
  notices_text true devices = notice_lines 1 devices
  notices_text false devices = []
