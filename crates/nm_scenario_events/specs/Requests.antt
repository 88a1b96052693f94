-- What an operator asks of a device, as a list that begins with the request's word (this project's own; the requests are
-- those of RFC 6241 sections 7 and 8 and of RFC 5717): a table of one line for each word. How an edit is written depends on the
-- contents, so its form is given; edits and selections have no numbers here, and sessions no users.
use Rattle.std.specs.Prelude.{ℕ, ◌^◌, ◌-◌, List, Bool, false, Option, Some, None, codes}
use Rattle.nm_proto.specs.declared.message.DefaultOperation.{DefaultOperation}
use Rattle.nm_proto.specs.declared.message.DefaultOperation.TheVariants.{Merge}
use Rattle.nm_proto.specs.declared.message.Request.{Request}
use Rattle.nm_proto.specs.declared.message.Request.TheVariants.{Lock, Unlock, PartialUnlock, Validate, Commit, CancelCommit, Discard, HasMark, GetConfig, Kill, CloseSession}
use Rattle.nm_proto.specs.declared.message.RequestWord.TheVariants as word
use Rattle.nm_proto.specs.Message.{word_text}
use Rattle.nm_scenario_form.specs.Form.{Form, list, made, no_line, Parts, done, ◌▹◌, ◌or◌, or_else, required, optional, built, closed}
use Rattle.nm_scenario_form.specs.Leafs.{one, switch, text}
use Rattle.nm_scenario_events.specs.declared.event.ReadRequest.{ReadRequest}
use Rattle.nm_scenario_events.specs.declared.event.ReadRequest.TheVariants.{Open, Known, WithEdit, WithSelect}
use Rattle.nm_scenario_events.specs.Limits.{select_limit, token_limit}
use Rattle.nm_scenario_events.specs.Arguments.{store, operation, mark, short}

-- the members of an edit's argument: the default operation and the edit (RFC 6241 section 7.2)
abbrev pub asked_edit_parts : {E : Type 0} → Form E → Parts (DefaultOperation → E → ReadRequest E) (ReadRequest E)
asked_edit_parts edit = optional (codes "default") Merge operation (required (codes "edit") edit done)

-- an edit that an operator asks for, with its default operation
abbrev pub asked_edit : {E : Type 0} → Form E → Form (ReadRequest E)
asked_edit edit = closed (asked_edit_parts edit) WithEdit

-- nodes of running by their texts, at most so many (RFC 5717 section 2.4.1)
abbrev pub any_text : Form (List ℕ)
any_text = text 0 (2 ^ 64 - 1)

-- the nodes that a partial lock selects, as texts
unfoldable pub selection : Form (List (List ℕ))
selection = list 0 select_limit one (λ n. any_text)

-- a token of a pending commit (RFC 6241 section 8.4)
abbrev pub token : Form (Option (List ℕ))
token = made Some (text 1 token_limit)

-- a time to wait, in seconds. None to wait is a device's to refuse
abbrev pub seconds : Form (Option ℕ)
seconds = made Some short

-- the members of a commit's argument: whether it is confirmed, how long it waits, the token that it gives, and the one that it
-- names (RFC 6241 section 8.4)
abbrev pub commit_parts : Parts (Bool → Option ℕ → Option (List ℕ) → Option (List ℕ) → Request) Request
commit_parts =
    optional (codes "confirmed") false switch (optional (codes "timeout") None seconds
    (optional (codes "persist") None token (optional (codes "persist-id") None token done)))

-- a commit with options
abbrev pub commit_form : Form Request
commit_form = closed commit_parts Commit

-- a commit that isn't confirmed (RFC 6241 section 8.3.4)
abbrev pub plain_commit : Request
plain_commit = Commit false None None None

-- the member of a cancel's argument: the token that it names (RFC 6241 section 8.4.4.1)
abbrev pub cancel_parts : Parts (Option (List ℕ) → Request) Request
cancel_parts = optional (codes "persist-id") None token done

-- a cancel that may name a token
abbrev pub cancel_form : Form Request
cancel_form = closed cancel_parts CancelCommit

-- a cancel that names no token
abbrev pub plain_cancel : Request
plain_cancel = CancelCommit None

-- a request
unfoldable pub request_form : {E : Type 0} → Form E → Form (ReadRequest E)
request_form edit =
    built (word_text word.Open) done Open
    or built (word_text word.Lock) (store ▹ done) (λ store. Known (Lock store))
    or built (word_text word.Unlock) (store ▹ done) (λ store. Known (Unlock store))
    or built (word_text word.PartialLock) (selection ▹ done) WithSelect
    or built (word_text word.PartialUnlock) (short ▹ done) (λ id. Known (PartialUnlock id))
    or built (word_text word.Edit) (asked_edit edit ▹ done) (λ request. request)
    or built (word_text word.Validate) done (Known Validate)
    or built (word_text word.Commit) (or_else plain_commit commit_form done) Known
    or built (word_text word.CancelCommit) (or_else plain_cancel cancel_form done) Known
    or built (word_text word.Discard) done (Known Discard)
    or built (word_text word.HasMark) (mark ▹ done) (λ change. Known (HasMark change))
    or built (word_text word.GetConfig) done (Known GetConfig)
    or built (word_text word.Kill) (short ▹ done) (λ session. Known (Kill session))
    or built (word_text word.CloseSession) done (Known CloseSession)
    or no_line
