-- What the program says to its words and its input (this project's own), and what the top call tells of it.
use Rattle.std.specs.Prelude.{◌≡◌, ◌≤◌, ◌⊎◌, ℕ, List, [], ◌∷◌, length, map, Bool, true, false, Option, Some, None, Result, Ok, Err, IfSome, IsSome, IsTrue, unwrap_or}
use Rattle.std.specs.List.{All}
use Rattle.std.specs.Io.KnownBytes.{append_known}
use Rattle.nm_io.specs.Bytes.{Begins}
use Rattle.nm_proto.specs.Content.{Meaning, TablesState}
use Rattle.nm_proto.specs.declared.plan.ChangePlan.{ChangePlan}
use Rattle.nm_proto.specs.declared.plan.Event.{Event}
use Rattle.nm_proto.specs.declared.plan.Event.TheVariants.{Submit}
use Rattle.nm_flat.specs.Flat.{flat_text}
use Rattle.nm_flat.specs.FlatContent.{flat_meaning}
use Rattle.nm_flat.specs.declared.flat.FlatNode.{FlatNode}
use Rattle.nm_content_place.specs.declared.place.YangNode.{YangNode}
use Rattle.nm_content.specs.Meaning.{lifted, yang_meaning, yang_text}
use Rattle.nm_scenario_form.specs.declared.fault.Fault.{Fault}
use Rattle.nm_scenario_form.specs.Line.{line_of}
use Rattle.nm_scenario.specs.declared.scenario.Body.{Body}
use Rattle.nm_scenario.specs.declared.scenario.Body.TheVariants.{Flat, Yang}
use Rattle.nm_scenario.specs.declared.scenario.Scenario.{Scenario}
use Rattle.nm_scenario.specs.Scenario.{ReadsBytes}
use Rattle.nm_world.specs.World.{AreCalm, CanBegin, IsFirst, Setting, WorldState, run, start}
use Rattle.nm_world.specs.Drain.{drain_limit, drained}
use Rattle.nm_world.specs.Runs.{IsBetween, IsNumbered, Reaches}
use Rattle.nm_safety.specs.Safe.{IsSafe}
use Rattle.nm_commit_laws.specs.Brings.{BringsAlone}
use Rattle.nm_commit_laws.specs.Leaves.{LeavesAlone}
use Rattle.nm_commit_laws.specs.Refuses.{RefusesGone}
use Rattle.nm_outcome_laws.specs.Records.{EndsAsRecorded}
use Rattle.nm_outcome_laws.specs.Causes.{HaveCauses}
use Rattle.nm_outcome_laws.specs.Lapses.{LapsesAreUndone}
use Rattle.nm_outcome_laws.specs.Settled.{IsAtRest, TellsUnsettled}
use Rattle.nm_commit_laws.specs.Marks.{ArePlain, MarksTell}
use Rattle.nm_commit_laws.specs.Stays.{MarksStay}
use Rattle.nm_rest_laws.specs.Calm.{IsCalm, IsCommitted}
use Rattle.nm_safety.specs.Reported.{TellsAll}
use Rattle.nm_notice_laws.specs.Replays.{TellAsReplayed}
use Rattle.nm_report.specs.declared.details.Details.{Details}
use Rattle.nm_report.specs.Text.{world_text}
use Rattle.nm_report.specs.Check.{check_text}
use Rattle.nm_report.specs.Journal.{journal_text}
use Rattle.nm_journal.specs.Entries.{entries_of}
use Rattle.nm_journal.specs.Fits.{ReadsAs}
use Rattle.nm_journal.specs.declared.fault.JournalFault.{JournalFault}
use Rattle.nm_journal.specs.declared.fault.JournalFault.TheVariants.{NotEmpty}
use Rattle.nm_proto.specs.declared.journal.Entry.{Entry}
use Rattle.nm_console.specs.declared.status.Status.{Status}
use Rattle.nm_console.specs.declared.status.Status.TheVariants as status
use Rattle.nm_console.specs.declared.command.Command.{Command}
use Rattle.nm_console.specs.declared.command.Command.TheVariants.{Check, Replay, Journal}
use Rattle.nm_console.specs.Refusal.{damaged_text, not_empty_text, usage_text}
use Rattle.nm_console.specs.Rows.{data_rows_told, rows_told}
use Rattle.nm_console.specs.Status.{is_whole, world_status}

-- a status and a text
pub record Answer : Type 0 where
  pub status : Status
  pub text : List ℕ

-- the first fault of a scenario
abbrev pub faulted : Fault → Answer
faulted fault = record { status = status.Scenario; text = line_of fault }

-- what requests name by number: edits, and the texts of selections
abbrev pub tables_of : {TheEdit : Type 0} → List TheEdit → List (List (List ℕ)) → TablesState TheEdit
tables_of edits selects = record { edits = edits; selects = selects }

-- what stays through the run of a scenario with these edits
abbrev pub setting_of : {TheEdit : Type 0} → List TheEdit → Scenario → Setting TheEdit
setting_of edits s = record { tables = tables_of edits s.selects; plans = s.changes; users = s.operators }

-- ---- a world

module _ {Config TheEdit Node : Type 0} (m : Meaning Config TheEdit Node) (setting : Setting TheEdit) where
  -- brought to rest, where that is asked for
  abbrev pub rested : Bool → WorldState Config Node → WorldState Config Node
  rested false w = w
  rested true w = drained m setting drain_limit w

  -- the world that events lead to
  abbrev pub led_to : List Event → Bool → WorldState Config Node → WorldState Config Node
  led_to events drain w = rested drain (run m setting w events)

  -- a world that they lead to whatever crashes read of the journal, brought to rest where that is asked for
  pub record IsLedTo (events : List Event) (drain : Bool) (w last : WorldState Config Node) : Type 0 where
    pub ran : WorldState Config Node
    pub reaches : Reaches m setting w events ran
    pub rests : last ≡ rested drain ran

-- what a scenario asks to be told besides the report
abbrev pub details_of : Scenario → Details
details_of s = record { trace = s.trace; notices = s.notices }

-- the text and the status of a world
abbrev pub world_told : {Config TheEdit Node : Type 0} → (Config → List ℕ) → Details → Setting TheEdit → WorldState Config Node → Answer
world_told shown details setting w = record { status = world_status setting w; text = world_text shown details setting w }

-- what a world asks of a scenario, so that its events can come: that one can begin with it, that the events name its change sets, and
-- that there are no more operators and events than a scenario may have
pub record CanRun {Config TheEdit Node : Type 0} (m : Meaning Config TheEdit Node) (setting : Setting TheEdit)
    (running : List Config) (events : List Event) : Type 0 where
  pub begins : CanBegin m setting running
  pub few_users : length setting.users ≤ 16
  pub given : All (IsNumbered (length setting.plans)) events
  pub few_events : length events ≤ 100000

-- the world that a scenario with these configurations and edits leads to
abbrev pub world_of : {Config TheEdit Node : Type 0} → Meaning Config TheEdit Node → List Config → List TheEdit → Scenario → WorldState Config Node
world_of m devices edits s = led_to m (setting_of edits s) s.events s.drain (start (setting_of edits s) devices)

-- nothing is run over a journal that holds so many bytes
abbrev pub not_empty : ℕ → Answer
not_empty size = record { status = status.Journal; text = not_empty_text size }

-- what is told where a journal holds these bytes when the run begins
abbrev pub opened : List ℕ → Answer → Answer
opened [] answer = answer
opened (byte ∷ bytes) answer = not_empty (length (byte ∷ bytes))

-- what is told of a world, for this scenario
abbrev pub told_of : {Config TheEdit Node : Type 0} → (Config → List ℕ) → List TheEdit → Scenario → WorldState Config Node → Answer
told_of shown edits s w = world_told shown (details_of s) (setting_of edits s) w

-- what is told of a scenario with these contents, over a journal. The configurations of YANG contents are lifted: what a device begins
-- with lies below all that it has later
abbrev pub told_by : List ℕ → Body → Scenario → Answer
told_by image (Flat devices edits) s = opened image (told_of flat_text edits s (world_of flat_meaning devices edits s))
told_by image (Yang modules tree devices edits) s = opened image (told_of (yang_text tree) edits s (world_of (yang_meaning tree) (map lifted devices) edits s))

-- what is told of a scenario that was read
abbrev pub told : List ℕ → Scenario → Answer
told image s = told_by image s.body s

-- replay: the text of the scenario, or its first fault, or that the journal isn't empty
abbrev pub replayed : List ℕ → Result Scenario Fault → Answer
replayed image (Err fault) = faulted fault
replayed image (Ok s) = told image s

-- the entries that are left in a journal that held these bytes, where a run began over it
abbrev pub left_in : List ℕ → List Entry → Option (List Entry)
left_in [] entries = Some entries
left_in (byte ∷ bytes) entries = None

-- the entries that a scenario with these contents leaves
abbrev pub entries_by : List ℕ → Body → Scenario → Option (List Entry)
entries_by image (Flat devices edits) s = left_in image (world_of flat_meaning devices edits s).entries
entries_by image (Yang modules tree devices edits) s = left_in image (world_of (yang_meaning tree) (map lifted devices) edits s).entries

-- the entries that a scenario leaves in the journal; none of one with a fault
abbrev pub replay_entries : List ℕ → Result Scenario Fault → Option (List Entry)
replay_entries image (Err fault) = None
replay_entries image (Ok s) = entries_by image s.body s

-- journal: the text of its entries, or where it is damaged
abbrev pub listed : List Entry → Answer
listed entries = record { status = status.Ok; text = journal_text entries }

-- journal: the damage, by the byte at which it begins
abbrev pub damaged : ℕ → Answer
damaged offset = record { status = status.Journal; text = damaged_text offset }

-- journal: its entries, or its damage
abbrev pub journalled : Result (List Entry) ℕ → Answer
journalled (Ok entries) = listed entries
journalled (Err offset) = damaged offset

-- words that are no command's
abbrev pub usage_told : Answer
usage_told = record { status = status.Usage; text = usage_text }

-- the status and the text are those of the answer, which is written whole
pub record Tells (given : Answer) (status : Status) (text : List ℕ) : Type 0 where
  pub status_is : given.status ≡ status
  pub text_is : given.text ≡ text
  pub whole : IsTrue (is_whole status)

-- the names of the given modules
abbrev pub modules_told : Body → List (List ℕ)
modules_told (Flat devices edits) = []
modules_told (Yang modules tree devices edits) = tree.modules

-- how many rows the running configuration of each device has
abbrev pub counts_told : Body → List ℕ
counts_told (Flat devices edits) = map (rows_told flat_meaning) devices
counts_told (Yang modules tree devices edits) = map data_rows_told devices

-- what a scenario holds: its modules, the rows of each device, and how many change sets, operators and events there are
abbrev pub holding : Scenario → Answer
holding s = record {
  status = status.Ok;
  text = check_text (modules_told s.body) (counts_told s.body) (length s.changes) (length s.operators) (length s.events);
}

-- check: what the scenario holds, or its first fault
abbrev pub checked : Result Scenario Fault → Answer
checked (Err fault) = faulted fault
checked (Ok s) = holding s

-- the world that a scenario of these devices and edits leads to is safe, its devices begin with valid configurations, what is
-- reported of it is so (all of a change set or none, but for the devices that are told to differ), and what is brought to rest is there
pub record IsSafeRun {Config TheEdit Node : Type 0} (m : Meaning Config TheEdit Node) (devices : List Config)
    (edits : List TheEdit) (s : Scenario) : Type 0 where
  pub valid : All (IsFirst m) devices
  pub safe : IsSafe m (setting_of edits s) devices s.events (world_of m devices edits s)
  pub reports : TellsAll (setting_of edits s) (world_of m devices edits s)
  -- what is told of confirmed commits is what replaying the history of each device tells, from the configuration that it began with
  pub notices : TellAsReplayed m (setting_of edits s) devices (world_of m devices edits s)
  -- unsettled is told of exactly what is pending or has a request on its way, as links and histories have it
  pub settles : TellsUnsettled (setting_of edits s) (world_of m devices edits s)
  -- each commit of a change set brings its own edit alone, the manager's others leave running as it was, what is refused to the manager
  -- isn't pending, and each abort in the journal has the cause that it names
  pub brings : BringsAlone m (setting_of edits s) devices (world_of m devices edits s)
  pub leaves : LeavesAlone m (setting_of edits s) devices (world_of m devices edits s)
  pub refuses : RefusesGone m (setting_of edits s) devices (world_of m devices edits s)
  pub causes : HaveCauses (world_of m devices edits s)
  -- where that is a lapse of a renewal, the change set was undone there
  pub lapses : LapsesAreUndone (world_of m devices edits s)
  -- where no edit of a change set names a mark, marks tell which change sets are at a device
  pub marks : ArePlain m (setting_of edits s) → MarksTell m (world_of m devices edits s)
  -- change sets come to a device one after another, and the mark of one that isn't ended stays where that is
  pub stays : MarksStay m (world_of m devices edits s)
  -- and what the journal records at the end of a change set is so: nothing of it is pending, and who kept it are those where it is confirmed
  pub ends : ArePlain m (setting_of edits s) → EndsAsRecorded (setting_of edits s) (world_of m devices edits s)
  -- a run that is to be brought to rest is at rest: each change set that was submitted is ended, and where no edit of one names a mark
  -- nothing is unsettled
  pub rests : s.drain ≡ true → IsAtRest m (setting_of edits s) (world_of m devices edits s)
  -- one that is calm, whose one change set is submitted and brought to rest, commits it everywhere
  pub calm : (plan : ChangePlan) → IsCalm m (setting_of edits s) devices plan → s.events ≡ Submit 1 ∷ [] → s.drain ≡ true
      → IsCommitted m (setting_of edits s) devices plan (world_of m devices edits s)

-- the same by the contents
abbrev pub RunsSafelyBy : Body → Scenario → Type 0
RunsSafelyBy (Flat devices edits) s = IsSafeRun flat_meaning devices edits s
RunsSafelyBy (Yang modules tree devices edits) s = IsSafeRun (yang_meaning tree) (map lifted devices) edits s

-- a scenario runs safely, if it could be read
abbrev pub RunsSafely : Result Scenario Fault → Type 0
RunsSafely (Err fault) = Unit {0}
RunsSafely (Ok s) = RunsSafelyBy s.body s

-- this is so of what bytes are read as, and the run of that is safe
pub record IsSoOf (bytes : List ℕ) (so : Result Scenario Fault → Type 0) : Type 0 where
  pub outcome : Result Scenario Fault
  pub reads : ReadsBytes bytes outcome
  pub is_so : so outcome
  pub safe : RunsSafely outcome

-- what journal tells of the bytes of a disk
abbrev pub TellsJournal : List ℕ → Status → List ℕ → Type 0
TellsJournal image status text = Tells (journalled (entries_of image)) status text

-- what the journal's disk tells after: these entries, or what it told before
abbrev pub Stores : Option (List Entry) → Option (List ℕ) → Option (List ℕ) → Type 0
Stores None stored after = after ≡ stored
Stores (Some entries) stored after = IfSome after (ReadsAs entries)

-- what a crash leaves of a journal in which nothing stood, while this is replayed: the entries so far
abbrev pub LeavesSoFar : Result Scenario Fault → List ℕ → Type 0
LeavesSoFar read image = IsBetween [] (unwrap_or (replay_entries [] read) []) image

-- the same of what bytes are read as
abbrev pub LeavesSoFarBy : List ℕ → List ℕ → Type 0
LeavesSoFarBy bytes image = (outcome : Result Scenario Fault) → ReadsBytes bytes outcome → LeavesSoFar outcome image

-- and of what an input holds
pub record LeavesSoFarOf (left : Option (List ℕ)) (image : List ℕ) : Type 0 where
  pub bytes : List ℕ
  pub held : IfSome left (λ told. told ≡ bytes)
  pub so_far : LeavesSoFarBy bytes image

-- ---- a run that a crash led astray

-- the manager read another list of entries than it wrote. It is told of the world that this came to, of which this is so
pub record DivergedRun {Config Node : Type 0} (told_of : WorldState Config Node → Answer) (so : WorldState Config Node → Type 0)
    (status : Status) (text : List ℕ) : Type 0 where
  pub last : WorldState Config Node
  pub has : last.has_diverged ≡ true
  pub is_so : so last
  pub tells : Tells (told_of last) status text

-- it couldn't read its journal from a byte on, and the run was over
pub record Unread (status : Status) (text : List ℕ) : Type 0 where
  pub offset : ℕ
  pub tells : Tells (damaged offset) status text

-- one of both, where the events have a crash and the disk doesn't tell its bytes: over one that does, a journal reads as it was written
pub record IsAstray {Config Node : Type 0} (told_of : WorldState Config Node → Answer) (so : WorldState Config Node → Type 0)
    (events : List Event) (stored : Option (List ℕ)) (status : Status) (text : List ℕ) : Type 0 where
  pub crashed : AreCalm events → ⊥
  pub untold : IsSome stored → ⊥
  pub tells : DivergedRun told_of so status text ⊎ Unread status text

-- the same of a scenario with these contents. What is told of confirmed commits is then too what replaying the histories tells
abbrev pub IsAstrayBy : Body → Scenario → Option (List ℕ) → Status → List ℕ → Type 0
IsAstrayBy (Flat devices edits) s stored status text =
    IsAstray {Node = FlatNode} (told_of flat_text edits s) (TellAsReplayed flat_meaning (setting_of edits s) devices) s.events stored status text
IsAstrayBy (Yang modules tree devices edits) s stored status text =
    IsAstray {Node = YangNode} (told_of (yang_text tree) edits s) (TellAsReplayed (yang_meaning tree) (setting_of edits s) (map lifted devices))
    s.events stored status text

-- the same of a scenario as it was read; one with a fault is never astray
abbrev pub IsAstrayIn : Result Scenario Fault → Option (List ℕ) → Status → List ℕ → Type 0
IsAstrayIn (Err fault) stored status text = ⊥
IsAstrayIn (Ok s) stored status text = IsAstrayBy s.body s stored status text

-- and of a command, which only a replay can be
abbrev pub IsAstrayOf : Option Command → List ℕ → Option (List ℕ) → Status → List ℕ → Type 0
IsAstrayOf (Some Replay) bytes stored status text = IsSoOf bytes (λ outcome. IsAstrayIn outcome stored status text)
IsAstrayOf (Some Check) bytes stored status text = ⊥
IsAstrayOf (Some Journal) bytes stored status text = ⊥
IsAstrayOf None bytes stored status text = ⊥

-- ---- what is told over a journal's disk

-- a status and a text are this answer, and the journal's disk tells these entries after, or what it told before
pub record AsTold (answer : Answer) (left : Option (List Entry)) (stored after : Option (List ℕ)) (status : Status) (text : List ℕ) : Type 0 where
  pub tells : Tells answer status text
  pub stores : Stores left stored after

-- the same of a command: of what bytes are read as, where it reads any
abbrev pub AsSaid : Option Command → List ℕ → List ℕ → Option (List ℕ) → Option (List ℕ) → Status → List ℕ → Type 0
AsSaid None bytes image stored after status text = AsTold usage_told None stored after status text
AsSaid (Some Check) bytes image stored after status text = IsSoOf bytes (λ outcome. AsTold (checked outcome) None stored after status text)
AsSaid (Some Replay) bytes image stored after status text =
    IsSoOf bytes (λ outcome. AsTold (replayed image outcome) (replay_entries image outcome) stored after status text)
AsSaid (Some Journal) bytes image stored after status text = AsTold (journalled (entries_of image)) None stored after status text

-- what is said to a command, an input and a disk is one answer, whatever the disk tells
abbrev pub HasOneAnswer : Option Command → List ℕ → List ℕ → Type 0
HasOneAnswer command bytes image = (stored after others later : Option (List ℕ)) (status other : Status) (text words : List ℕ)
    → AsSaid command bytes image stored after status text → AsSaid command bytes image others later other words → (other ≡ status) × (words ≡ text)

-- a status and a text that answer the bytes of an input over a journal's disk, and what that tells after
pub record TellsOver (command : Option Command) (bytes : List ℕ) (stored after : Option (List ℕ)) (status : Status) (text : List ℕ) : Type 0 where
  pub image : List ℕ
  pub kept : IfSome stored (λ told. told ≡ image)
  pub goes : AsSaid command bytes image stored after status text ⊎ IsAstrayOf command bytes stored status text

-- the same of replay, by the scenario that was read
pub record TellsReplay (read : Result Scenario Fault) (stored after : Option (List ℕ)) (status : Status) (text : List ℕ) : Type 0 where
  pub image : List ℕ
  pub kept : IfSome stored (λ told. told ≡ image)
  pub goes : AsTold (replayed image read) (replay_entries image read) stored after status text ⊎ IsAstrayIn read stored status text

-- the same of a run to a last world
pub record TellsRun {Config Node : Type 0} (told_of : WorldState Config Node → Answer) (so : WorldState Config Node → Type 0)
    (last : WorldState Config Node) (events : List Event) (stored after : Option (List ℕ)) (status : Status) (text : List ℕ) : Type 0 where
  pub image : List ℕ
  pub kept : IfSome stored (λ told. told ≡ image)
  pub goes : AsTold (opened image (told_of last)) (left_in image last.entries) stored after status text ⊎ IsAstray told_of so events stored status text

-- and of one that began over an empty journal
abbrev pub TellsLast : {Config Node : Type 0} → (WorldState Config Node → Answer) → (WorldState Config Node → Type 0) → WorldState Config Node
    → List Event → Option (List ℕ) → Option (List ℕ) → Status → List ℕ → Type 0
TellsLast told_of so last events stored after status text =
    (Tells (told_of last) status text × IfSome after (ReadsAs last.entries)) ⊎ IsAstray told_of so events stored status text

-- what is told where the journal couldn't be opened: it isn't empty
abbrev pub TellsUnopened : JournalFault → Status → List ℕ → Type 0
TellsUnopened (NotEmpty size) status text = Tells (not_empty size) status text
TellsUnopened _ status text = ⊥

-- whatever bytes are read as runs safely
abbrev pub EachRunIsSafe : Type 0
EachRunIsSafe = (bytes : List ℕ) (outcome : Result Scenario Fault) → ReadsBytes bytes outcome → RunsSafely outcome

-- what the input held, and what the journal's disk told before the program and tells after it
pub record Streams : Type 0 where
  pub left : Option (List ℕ)
  pub stored : Option (List ℕ)
  pub after : Option (List ℕ)

-- a status and a text that answer some bytes of an input and of a disk, those that each told where it tells them, and no
-- others do; and what the disk tells after. They are told of the scenario's own run but where a crash led it astray
pub record Says (streams : Streams) (command : Option Command) (status : Status) (text : List ℕ) : Type 0 where
  pub bytes : List ℕ
  pub held : IfSome streams.left (λ told. told ≡ bytes)
  pub image : List ℕ
  pub kept : IfSome streams.stored (λ told. told ≡ image)
  pub goes : AsSaid command bytes image streams.stored streams.after status text ⊎ IsAstrayOf command bytes streams.stored status text

-- the whole answer to some bytes was written, and nothing else
pub record Answers (streams : Streams) (command : Option Command) (before after : Option (List ℕ)) (status : Status) : Type 0 where
  pub text : List ℕ
  pub says : Says streams command status text
  pub written : after ≡ append_known before text

-- a front of the answer to some bytes was written, and not all of it
pub record CutOff (streams : Streams) (command : Option Command) (before after : Option (List ℕ)) : Type 0 where
  pub status : Status
  pub text : List ℕ
  pub says : Says streams command status text
  pub begun : Begins before text after
