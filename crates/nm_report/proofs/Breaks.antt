-- Where lines end in a trace and in what is told of confirmed commits: at the end of the words of each event and of each notice, and
-- nowhere within them.
use Rattle.std.proofs.Common.{◌≡◌, ℕ, zero, suc, ◌+◌, ◌/◌, ◌%◌, List, [], ◌∷◌, ◌++◌, length, Bool, true, false, eqb, ltb, Option, Some, None, refl, ap, ◌∙◌, arith, inl, inr, append_assoc}
use Rattle.std.specs.Prelude.{filter, codes, decimal}
use Rattle.std.specs.List.{flat_map, list_any}
use Rattle.std.specs.Fmt.{digit_glyph, digits_onto, digits}
use Rattle.std.proofs.lemmas.Bool.{cases_Bool, false_from_ne_true, eqb-true}
use Rattle.nm_lines.specs.Printed.{is_break}
use Rattle.nm_lines.proofs.Breaks.{any_append, no_break}
use Rattle.nm_base.specs.declared.tag.Tag.{Tag}
use Rattle.nm_base.specs.declared.tag.Tag.TheVariants.{InUse, InvalidValue, LockDenied, AccessDenied, DataExists, DataMissing, OperationFailed, ResourceDenied, UnknownElement, BadAttribute, MissingElement}
use Rattle.nm_base.specs.Tag.{tag_text}
use Rattle.nm_proto.specs.declared.message.Store.{Store}
use Rattle.nm_proto.specs.declared.message.Store.TheVariants.{Running, Candidate}
use Rattle.nm_proto.specs.declared.message.RequestWord.{RequestWord}
use Rattle.nm_proto.specs.declared.message.RequestWord.TheVariants as word
use Rattle.nm_proto.specs.declared.message.Request.{Request}
use Rattle.nm_proto.specs.declared.message.Request.TheVariants.{OpenSession, Lock, Unlock, PartialLock, PartialUnlock, Edit, Validate, Commit, CancelCommit, Discard, HasMark, GetConfig, Kill, CloseSession}
use Rattle.nm_proto.specs.Message.{word_of, word_text}
use Rattle.nm_proto.specs.declared.message.Reply.{Reply}
use Rattle.nm_proto.specs.declared.message.Reply.TheVariants.{Done, Opened, LockId, Mark, Rows, Error}
use Rattle.nm_proto.specs.declared.journal.AbortCause.{AbortCause}
use Rattle.nm_proto.specs.declared.journal.AbortCause.TheVariants.{Refused, Broken, Forgotten, Lapsed}
use Rattle.nm_proto.specs.declared.journal.Verdict.{Verdict}
use Rattle.nm_proto.specs.declared.journal.Verdict.TheVariants as verdict
use Rattle.nm_world.specs.declared.happened.Happened.{Happened}
use Rattle.nm_world.specs.declared.happened.Happened.TheVariants as happened
use Rattle.nm_world.specs.declared.happened.TraceEntry.{TraceEntry}
use Rattle.nm_history.specs.declared.event.Noted.{Noted}
use Rattle.nm_notify.specs.declared.notice.ConfirmEvent.{ConfirmEvent}
use Rattle.nm_notify.specs.declared.notice.ConfirmEvent.TheVariants.{Start, Cancel, Timeout, Extend, Complete}
use Rattle.nm_notify.specs.declared.notice.Notice.{Notice}
use Rattle.nm_notify.specs.Notices.{notices_in}
use Rattle.nm_report.specs.Notices.{event_word, notice_place, notice_words, notice_line, device_notices}
use Rattle.nm_report.specs.Trace.{store_word, store_text, request_text, session_text, timeout_text, path_text, truth_text, error_text, reply_text, refused_text, cause_text, verdict_text, undone_text, sent_text, happened_text, trace_line, trace_lines}

-- no line ends in a text
abbrev IsWithin : List ℕ → Type 0
IsWithin text = list_any is_break text ≡ false

-- ---- numbers

glyph : (d : ℕ) → is_break (digit_glyph false d) ≡ false
glyph d = elim (cases_Bool (ltb d 10)) [
  | inl y ↦ rw y (false_from_ne_true (eqb (48 + d) 10) (λ t. omega (arith, eqb-true (48 + d) 10 t)))
  | inr n ↦ rw n (false_from_ne_true (eqb (87 + d) 10) (λ t. omega (arith, eqb-true (87 + d) 10 t)))
]

before : (b : ℕ) (text : List ℕ) → is_break b ≡ false → IsWithin text → IsWithin (b ∷ text)
before b text e h = rw e h

number_onto : (k n : ℕ) (text : List ℕ) → IsWithin text → IsWithin (digits_onto k 10 false n text)
number_onto zero n text h = h
number_onto (suc k) n text h =
    let longer = before (digit_glyph false (n % 10)) text (glyph (n % 10)) h in
    elim (cases_Bool (eqb (n / 10) 0)) [
      | inl y ↦ rw y longer
      | inr z ↦ rw z (number_onto k (n / 10) (digit_glyph false (n % 10) ∷ text) longer)
    ]

number : (n : ℕ) → IsWithin (decimal n)
unfolding digits
number n = number_onto 64 n [] refl

-- ---- words

joined : (a b : List ℕ) → IsWithin a → IsWithin b → IsWithin (a ++ b)
joined = any_append

of_store : (store : Store) → IsWithin (store_word store)
of_store Running = refl
of_store Candidate = refl

of_lock : (request : Request) → IsWithin (store_text request)
of_lock (Lock store) = of_store store
of_lock (Unlock store) = of_store store
of_lock (OpenSession user) = refl
of_lock (PartialLock select) = refl
of_lock (PartialUnlock id) = refl
of_lock (Edit edit operation marks) = refl
of_lock Validate = refl
of_lock (Commit confirmed timeout persist persist_id) = refl
of_lock (CancelCommit persist_id) = refl
of_lock Discard = refl
of_lock (HasMark change) = refl
of_lock GetConfig = refl
of_lock (Kill session) = refl
of_lock CloseSession = refl

of_word : (w : RequestWord) → IsWithin (word_text w)
of_word word.Open = refl
of_word word.Lock = refl
of_word word.Unlock = refl
of_word word.PartialLock = refl
of_word word.PartialUnlock = refl
of_word word.Edit = refl
of_word word.Validate = refl
of_word word.Commit = refl
of_word word.CancelCommit = refl
of_word word.Discard = refl
of_word word.HasMark = refl
of_word word.GetConfig = refl
of_word word.Kill = refl
of_word word.CloseSession = refl

of_request : (request : Request) → IsWithin (request_text request)
of_request request = joined (word_text (word_of request)) (store_text request) (of_word (word_of request)) (of_lock request)

of_tag : (tag : Tag) → IsWithin (tag_text tag)
of_tag InUse = refl
of_tag InvalidValue = refl
of_tag LockDenied = refl
of_tag AccessDenied = refl
of_tag DataExists = refl
of_tag DataMissing = refl
of_tag OperationFailed = refl
of_tag ResourceDenied = refl
of_tag UnknownElement = refl
of_tag BadAttribute = refl
of_tag MissingElement = refl

of_session : (session : Option ℕ) → IsWithin (session_text session)
of_session None = refl
of_session (Some session) = number session

of_path : (path : Option (List ℕ)) → IsWithin (path_text path)
of_path None = refl
of_path (Some path) = no_break 0 path

of_truth : (there : Bool) → IsWithin (truth_text there)
of_truth true = refl
of_truth false = refl

of_error : (tag : Tag) (session : Option ℕ) (path : Option (List ℕ)) → IsWithin (error_text tag session path)
of_error tag session path =
    joined (tag_text tag ++ session_text session) (path_text path) (joined (tag_text tag) (session_text session) (of_tag tag) (of_session session)) (of_path path)

of_reply : (reply : Reply) → IsWithin (reply_text reply)
of_reply Done = refl
of_reply (Opened session) = number session
of_reply (LockId id) = number id
of_reply (Mark there) = of_truth there
of_reply (Rows count) = number count
of_reply (Error tag session path) = of_error tag session path

of_refused : (device : ℕ) (tag : Tag) → IsWithin (refused_text device tag)
of_refused device tag = joined (decimal device ++ codes " ") (tag_text tag) (joined (decimal device) (codes " ") (number device) refl) (of_tag tag)

of_cause : (cause : AbortCause) → IsWithin (cause_text cause)
of_cause (Refused device tag) = of_refused device tag
of_cause (Broken device) = number device
of_cause Forgotten = refl
of_cause (Lapsed device) = number device

of_verdict : (v : Verdict) → IsWithin (verdict_text v)
of_verdict verdict.Commit = refl
of_verdict (verdict.Abort cause) = of_cause cause

of_undone : (undone : Bool) → IsWithin (undone_text undone)
of_undone true = refl
of_undone false = refl

of_sent : (device link : ℕ) (request : Request) → IsWithin (sent_text device link request)
of_sent device link request =
    let first = joined (decimal device) (codes " ") (number device) refl in
    let second = joined (decimal device ++ codes " ") (decimal link) first (number link) in
    let third = joined (decimal device ++ codes " " ++ decimal link) (codes " ") second refl in
    joined (decimal device ++ codes " " ++ decimal link ++ codes " ") (request_text request) third (of_request request)

-- no line ends in what is told of an event
of_event : (what : Happened) → IsWithin (happened_text what)
of_event happened.Idle = refl
of_event happened.Started = refl
of_event (happened.Sent device link request) = of_sent device link request
of_event (happened.Decided what) = of_verdict what
of_event happened.Ended = refl
of_event (happened.Replied reply undone) = joined (reply_text reply) (undone_text undone) (of_reply reply) (of_undone undone)
of_event happened.Handled = refl
of_event happened.Broken = refl
of_event (happened.Lost undone) = of_undone undone
of_event (happened.Left undone) = of_undone undone
of_event (happened.Now clock undone) = joined (decimal clock) (undone_text undone) (number clock) (of_undone undone)
of_event (happened.Restarted undone) = of_undone undone
of_event happened.Forgot = refl
of_event happened.Crashed = refl

of_change : (event : ConfirmEvent) → IsWithin (event_word event)
of_change Start = refl
of_change Cancel = refl
of_change Timeout = refl
of_change Extend = refl
of_change Complete = refl

of_timeout : (timeout : Option ℕ) → IsWithin (timeout_text timeout)
of_timeout None = refl
of_timeout (Some seconds) = number seconds

of_place : (device position : ℕ) → IsWithin (notice_place device position)
unfolding notice_place
of_place device position =
    joined (decimal device ++ codes " ") (decimal position) (joined (decimal device) (codes " ") (number device) refl) (number position)

of_words : (notice : Notice) → IsWithin (notice_words notice)
unfolding notice_words
of_words notice =
    joined (event_word notice.event ++ session_text notice.session) (timeout_text notice.timeout)
    (joined (event_word notice.event) (session_text notice.session) (of_change notice.event) (of_session notice.session)) (of_timeout notice.timeout)

-- ---- lines

within_then : (text rest : List ℕ) → IsWithin text → filter is_break (text ++ rest) ≡ filter is_break rest
within_then [] rest h = refl
within_then (b ∷ text) rest h = elim (cases_Bool (is_break b)) [
  | inl y ↦ (let f = rw y at h in absurd (cc))
  | inr n ↦ (let f = rw n at h in rw n (within_then text rest f))
]

line_then : (n : ℕ) (what : Happened) (rest : List ℕ) → filter is_break (trace_line n what ++ rest) ≡ 10 ∷ filter is_break rest
line_then n what rest =
    let words = decimal n ++ codes " " ++ happened_text what in
    let within = joined (decimal n ++ codes " ") (happened_text what) (joined (decimal n) (codes " ") (number n) refl) (of_event what) in
    ap (filter is_break) (append_assoc words (codes "\n") rest) ∙ within_then words (codes "\n" ++ rest) within

pub lines_counted : (n : ℕ) (trail : List TraceEntry) → length (filter is_break (trace_lines n trail)) ≡ length trail
lines_counted n [] = refl
lines_counted n (passed ∷ trail) =
    ap (λ (l : List ℕ). length l) (line_then n passed.happened (trace_lines (n + 1) trail)) ∙ ap suc (lines_counted (n + 1) trail)

notice_then : (device : ℕ) (notice : Notice) (rest : List ℕ) → filter is_break (notice_line device notice ++ rest) ≡ 10 ∷ filter is_break rest
unfolding notice_line
notice_then device notice rest =
    let words = notice_place device notice.position ++ notice_words notice in
    let within = joined (notice_place device notice.position) (notice_words notice) (of_place device notice.position) (of_words notice) in
    ap (filter is_break) (append_assoc words (codes "\n") rest) ∙ within_then words (codes "\n" ++ rest) within

each_counted : (device : ℕ) (notices : List Notice) → length (filter is_break (flat_map (notice_line device) notices)) ≡ length notices
each_counted device [] = refl
each_counted device (notice ∷ notices) =
    ap (λ (l : List ℕ). length l) (notice_then device notice (flat_map (notice_line device) notices)) ∙ ap suc (each_counted device notices)

pub notices_counted : (device : ℕ) (history : List Noted) → length (filter is_break (device_notices device history)) ≡ length (notices_in history)
unfolding device_notices
notices_counted device history = each_counted device (notices_in history)
