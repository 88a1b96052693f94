-- Messages between the manager and a device (RFC 6241 sections 7 and 8, RFC 5717).
use Rattle.std.specs.Prelude.{ℕ, List, codes, Bool, true, false, is_some, ◌||◌}
use Rattle.nm_proto.specs.declared.message.Reply.{Reply}
use Rattle.nm_proto.specs.declared.message.Reply.TheVariants.{Done, Opened, LockId, Mark, Rows, Error}
use Rattle.nm_proto.specs.declared.message.Request.{Request}
use Rattle.nm_proto.specs.declared.message.Request.TheVariants.{OpenSession, Lock, Unlock, PartialLock, PartialUnlock, Edit, Validate, Commit, CancelCommit, Discard, HasMark, GetConfig, Kill, CloseSession}
use Rattle.nm_proto.specs.declared.message.RequestWord.{RequestWord}
use Rattle.nm_proto.specs.declared.message.RequestWord.TheVariants as word

-- whether a reply holds a text, the path of an error (this project's own)
abbrev pub holds_text : Reply → Bool
holds_text Done = false
holds_text (Opened session) = false
holds_text (LockId id) = false
holds_text (Mark there) = false
holds_text (Rows count) = false
holds_text (Error tag session path) = is_some path

-- whether a request holds a text, the name of a user or a token (this project's own)
abbrev pub asks_with_text : Request → Bool
asks_with_text (OpenSession user) = true
asks_with_text (Commit confirmed timeout persist persist_id) = is_some persist || is_some persist_id
asks_with_text (CancelCommit persist_id) = is_some persist_id
asks_with_text _ = false

-- the word of a request (this project's own)
abbrev pub word_of : Request → RequestWord
word_of (OpenSession user) = word.Open
word_of (Lock store) = word.Lock
word_of (Unlock store) = word.Unlock
word_of (PartialLock select) = word.PartialLock
word_of (PartialUnlock id) = word.PartialUnlock
word_of (Edit edit operation marks) = word.Edit
word_of Validate = word.Validate
word_of (Commit confirmed timeout persist persist_id) = word.Commit
word_of (CancelCommit persist_id) = word.CancelCommit
word_of Discard = word.Discard
word_of (HasMark change) = word.HasMark
word_of GetConfig = word.GetConfig
word_of (Kill session) = word.Kill
word_of CloseSession = word.CloseSession

-- its text, in a scenario and in a trace (this project's own)
abbrev pub word_text : RequestWord → List ℕ
word_text word.Open = codes "open"
word_text word.Lock = codes "lock"
word_text word.Unlock = codes "unlock"
word_text word.PartialLock = codes "partial-lock"
word_text word.PartialUnlock = codes "partial-unlock"
word_text word.Edit = codes "edit"
word_text word.Validate = codes "validate"
word_text word.Commit = codes "commit"
word_text word.CancelCommit = codes "cancel-commit"
word_text word.Discard = codes "discard"
word_text word.HasMark = codes "has-mark"
word_text word.GetConfig = codes "get-config"
word_text word.Kill = codes "kill"
word_text word.CloseSession = codes "close-session"
