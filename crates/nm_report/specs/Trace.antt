-- What came of each event, as text (this project's own). Each line ends with one newline.
use Rattle.std.specs.Prelude.{ℕ, ◌+◌, List, [], ◌∷◌, ◌++◌, Bool, true, false, Option, Some, None, codes, decimal}
use Rattle.nm_base.specs.declared.tag.Tag.{Tag}
use Rattle.nm_lines.specs.Printed.{printed}
use Rattle.nm_base.specs.Tag.{tag_text}
use Rattle.nm_proto.specs.declared.message.Store.{Store}
use Rattle.nm_proto.specs.declared.message.Store.TheVariants.{Running, Candidate}
use Rattle.nm_proto.specs.declared.message.Request.{Request}
use Rattle.nm_proto.specs.declared.message.Request.TheVariants.{Lock, Unlock}
use Rattle.nm_proto.specs.Message.{word_of, word_text}
use Rattle.nm_proto.specs.declared.message.Reply.{Reply}
use Rattle.nm_proto.specs.declared.message.Reply.TheVariants.{Done, Opened, LockId, Mark, Rows, Error}
use Rattle.nm_proto.specs.declared.journal.AbortCause.{AbortCause}
use Rattle.nm_proto.specs.declared.journal.AbortCause.TheVariants.{Refused, Broken, Forgotten, Lapsed}
use Rattle.nm_proto.specs.declared.journal.Verdict.{Verdict}
use Rattle.nm_proto.specs.declared.journal.Verdict.TheVariants as verdict
use Rattle.nm_world.specs.declared.happened.Happened.{Happened}
use Rattle.nm_world.specs.declared.happened.Happened.TheVariants as happened
use Rattle.nm_world.specs.declared.happened.TraceEntry.{TraceEntry}

-- the name of a datastore
abbrev pub store_word : Store → List ℕ
store_word Running = codes "running"
store_word Candidate = codes "candidate"

-- the datastore of a lock, behind its word
abbrev pub store_text : Request → List ℕ
store_text (Lock store) = codes " " ++ store_word store
store_text (Unlock store) = codes " " ++ store_word store
store_text _ = []

-- the word of a request, and of a lock its datastore
abbrev pub request_text : Request → List ℕ
request_text request = word_text (word_of request) ++ store_text request

-- the session that an error names, where it names one
abbrev pub session_text : Option ℕ → List ℕ
session_text None = []
session_text (Some session) = codes " session " ++ decimal session

-- how long confirmed commits wait, in seconds, where that is told
abbrev pub timeout_text : Option ℕ → List ℕ
timeout_text None = []
timeout_text (Some seconds) = codes " timeout " ++ decimal seconds

-- the path that an error names, where it names one
abbrev pub path_text : Option (List ℕ) → List ℕ
path_text None = []
path_text (Some path) = codes " path " ++ printed path

-- a truth value as a word
abbrev pub truth_text : Bool → List ℕ
truth_text true = codes "true"
truth_text false = codes "false"

-- an error with its tag, and the session and the path that it names
abbrev pub error_text : Tag → Option ℕ → Option (List ℕ) → List ℕ
error_text tag session path = codes "error " ++ tag_text tag ++ session_text session ++ path_text path

-- a reply in words
abbrev pub reply_text : Reply → List ℕ
reply_text Done = codes "ok"
reply_text (Opened session) = codes "opened " ++ decimal session
reply_text (LockId id) = codes "lock-id " ++ decimal id
reply_text (Mark there) = codes "mark " ++ truth_text there
reply_text (Rows count) = codes "rows " ++ decimal count
reply_text (Error tag session path) = error_text tag session path

-- the device and the tag of the error
abbrev pub refused_text : ℕ → Tag → List ℕ
refused_text device tag = codes "refused " ++ decimal device ++ codes " " ++ tag_text tag

-- the cause of an abort in words
abbrev pub cause_text : AbortCause → List ℕ
cause_text (Refused device tag) = refused_text device tag
cause_text (Broken device) = codes "broken " ++ decimal device
cause_text Forgotten = codes "forgotten"
cause_text (Lapsed device) = codes "lapsed " ++ decimal device

-- a verdict in words
abbrev pub verdict_text : Verdict → List ℕ
verdict_text verdict.Commit = codes "commit"
verdict_text (verdict.Abort cause) = codes "abort " ++ cause_text cause

-- a pending commit was undone other than by a cancel
abbrev pub undone_text : Bool → List ℕ
undone_text true = codes " undone"
undone_text false = []

-- a request that was sent, with its device and link
abbrev pub sent_text : ℕ → ℕ → Request → List ℕ
sent_text device link request = codes "sent " ++ decimal device ++ codes " " ++ decimal link ++ codes " " ++ request_text request

-- a word, and whether a pending commit was undone
abbrev pub ended_so : List ℕ → Bool → List ℕ
ended_so word undone = word ++ undone_text undone

-- what came of an event, in words
abbrev pub happened_text : Happened → List ℕ
happened_text happened.Idle = codes "idle"
happened_text happened.Started = codes "started"
happened_text (happened.Sent device link request) = sent_text device link request
happened_text (happened.Decided what) = codes "decided " ++ verdict_text what
happened_text happened.Ended = codes "ended"
happened_text (happened.Replied reply undone) = codes "reply " ++ reply_text reply ++ undone_text undone
happened_text happened.Handled = codes "handled"
happened_text happened.Broken = codes "broken"
happened_text (happened.Lost undone) = ended_so (codes "lost") undone
happened_text (happened.Left undone) = ended_so (codes "left") undone
happened_text (happened.Now clock undone) = codes "now " ++ decimal clock ++ undone_text undone
happened_text (happened.Restarted undone) = ended_so (codes "restarted") undone
happened_text happened.Forgot = codes "forgot"
happened_text happened.Crashed = codes "crashed"

-- the line of an event, with its number
abbrev pub trace_line : ℕ → Happened → List ℕ
trace_line number what = decimal number ++ codes " " ++ happened_text what ++ codes "\n"

-- a line for each event, numbered from a number on
abbrev pub trace_lines : ℕ → List TraceEntry → List ℕ
trace_lines number [] = []
trace_lines number (passed ∷ trail) = trace_line number passed.happened ++ trace_lines (number + 1) trail

-- the lines, where they are asked for
abbrev pub trace_text : Bool → List TraceEntry → List ℕ
trace_text true trail = trace_lines 1 trail
trace_text false trail = []
