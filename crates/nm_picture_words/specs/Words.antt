-- The words of a picture (this project's own).
use Rattle.std.specs.Prelude.{ℕ, ◌==◌, List, [], ◌++◌, Bool, true, false, Option, Some, None, is_some, codes, decimal, if◌then◌else◌}
use Rattle.nm_base.specs.declared.tag.Tag.{Tag}
use Rattle.nm_base.specs.Tag.{tag_text}
use Rattle.nm_proto.specs.declared.message.Store.{Store}
use Rattle.nm_proto.specs.declared.message.Store.TheVariants.{Running, Candidate}
use Rattle.nm_proto.specs.declared.message.Request.{Request}
use Rattle.nm_proto.specs.declared.message.Request.TheVariants.{OpenSession, Lock, Unlock, PartialLock, PartialUnlock, Edit, Validate, Commit, CancelCommit, Discard, HasMark, GetConfig, Kill, CloseSession}
use Rattle.nm_proto.specs.declared.message.Reply.{Reply}
use Rattle.nm_proto.specs.declared.message.Reply.TheVariants.{Done, Opened, LockId, Mark, Rows, Error}
use Rattle.nm_proto.specs.declared.journal.AbortCause.{AbortCause}
use Rattle.nm_proto.specs.declared.journal.AbortCause.TheVariants.{Refused, Broken, Forgotten, Lapsed}
use Rattle.nm_proto.specs.declared.journal.Verdict.{Verdict}
use Rattle.nm_proto.specs.declared.journal.Verdict.TheVariants as verdict
use Rattle.nm_picture_words.specs.Phrases.{phrase_text}
use Rattle.nm_picture_words.specs.declared.phrase.Phrase.TheVariants as phrase

-- ---- what is asked

-- the name of a datastore
abbrev pub store_word : Store → List ℕ
store_word Running = codes "running"
store_word Candidate = codes "candidate"

-- how long a confirmed commit waits, in seconds: 600 where it gives no time (RFC 6241 section 8.4.5)
abbrev pub seconds_of : Option ℕ → ℕ
seconds_of None = 600
seconds_of (Some timeout) = timeout

-- a commit that isn't to be confirmed: it may follow a pending one, which it confirms
abbrev pub confirming_words : Bool → List ℕ
confirming_words true = codes "confirm the commit"
confirming_words false = codes "commit"

-- a confirmed commit, before its time: it may follow a pending one, whose timer it sets anew (RFC 6241 section 8.4.1)
abbrev pub pending_words : Bool → List ℕ
pending_words true = codes "renew, to be confirmed within "
pending_words false = codes "commit, to be confirmed within "

-- a commit
abbrev pub commit_words : Bool → Option ℕ → Bool → List ℕ
commit_words false timeout follows = confirming_words follows
commit_words true timeout follows = pending_words follows ++ decimal (seconds_of timeout) ++ codes " s"

-- what is asked of a device
abbrev pub request_words : Request → List ℕ
request_words (OpenSession user) = codes "open a session"
request_words (Lock store) = codes "lock " ++ store_word store
request_words (Unlock store) = codes "unlock " ++ store_word store
request_words (PartialLock select) = codes "lock a part"
request_words (PartialUnlock id) = phrase_text phrase.ReleasePart ++ decimal id
request_words (Edit edit operation marks) = codes "edit the candidate"
request_words Validate = codes "validate"
request_words (Commit confirmed timeout persist persist_id) = commit_words confirmed timeout (is_some persist_id)
request_words (CancelCommit persist_id) = codes "cancel the commit"
request_words Discard = codes "discard the edits"
request_words (HasMark change) = phrase_text phrase.LookFor ++ decimal change
request_words GetConfig = codes "read running"
request_words (Kill session) = phrase_text phrase.Kill ++ decimal session
request_words CloseSession = codes "close the session"

-- ---- what is answered

-- who stands in the way, where an error names somebody: 0 is no session (RFC 6241 section 7.5)
abbrev pub holder_words : Option ℕ → List ℕ
holder_words None = []
holder_words (Some session) = if session == 0 then codes ", no session" else codes ", session " ++ decimal session

-- a refusal
abbrev pub refusal_words : Tag → Option ℕ → List ℕ
refusal_words tag session = codes "refused: " ++ tag_text tag ++ holder_words session

-- whether a mark is there
abbrev pub mark_words : Bool → List ℕ
mark_words true = codes "it is there"
mark_words false = codes "it isn't there"

-- how many rows there are
abbrev pub rows_words : ℕ → List ℕ
rows_words count = decimal count ++ codes " rows"

-- what a device answers
abbrev pub reply_words : Reply → List ℕ
reply_words Done = codes "ok"
reply_words (Opened session) = phrase_text phrase.Session ++ decimal session
reply_words (LockId id) = phrase_text phrase.PartialLock ++ decimal id
reply_words (Mark there) = mark_words there
reply_words (Rows count) = rows_words count
reply_words (Error tag session path) = refusal_words tag session

-- ---- what the manager notes

-- a change set, where it is to be named
abbrev pub prefix_words : Option ℕ → List ℕ
prefix_words None = []
prefix_words (Some change) = decimal change ++ codes ": "

-- a decision
abbrev pub verdict_words : Verdict → List ℕ
verdict_words verdict.Commit = codes "decided: commit"
verdict_words (verdict.Abort cause) = codes "decided: abort"

-- a device refused
abbrev pub refused_words : ℕ → Tag → List ℕ
refused_words device tag = phrase_text phrase.Device ++ decimal device ++ phrase_text phrase.Refused ++ tag_text tag

-- a link broke
abbrev pub cut_words : ℕ → List ℕ
cut_words device = phrase_text phrase.TheLink ++ decimal device ++ phrase_text phrase.Broke

-- a pending commit was gone when it was to be renewed
abbrev pub lapsed_words : ℕ → List ℕ
lapsed_words device = phrase_text phrase.PendingAt ++ decimal device ++ phrase_text phrase.Lapsed

-- why a change set is aborted
abbrev pub cause_words : AbortCause → List ℕ
cause_words (Refused device tag) = refused_words device tag
cause_words (Broken device) = cut_words device
cause_words Forgotten = codes "its state was forgotten"
cause_words (Lapsed device) = lapsed_words device

-- ---- what goes wrong

-- a link to a device broke at the manager's side
abbrev pub broken_words : ℕ → List ℕ
broken_words device = phrase_text phrase.Link ++ decimal device ++ phrase_text phrase.Broken

-- an operator lost its session
abbrev pub left_words : ℕ → List ℕ
left_words operator = phrase_text phrase.OperatorSession ++ decimal operator ++ phrase_text phrase.Lost

-- a clock rose
abbrev pub passed_words : ℕ → List ℕ
passed_words seconds = decimal seconds ++ codes " s pass"

-- the manager forgot a change set
abbrev pub forgot_words : ℕ → List ℕ
forgot_words change = phrase_text phrase.ChangeSet ++ decimal change ++ phrase_text phrase.Forgotten

-- so many events are folded
abbrev pub fold_words : ℕ → List ℕ
fold_words count = decimal count ++ codes " events are folded"
