-- What replay tells over a journal's disk.
use Rattle.std.proofs.Common.{◌≡◌, ◌<◌, ◌⊎◌, inl, inr, ℕ, List, [], ◌∷◌, length, map, Option, Some, None, Result, Ok, Err, IfOk, IfSome, IsSome, unwrap_or, replicate, refl, sym, subst, arith}
use Rattle.std.proofs.lemmas.List.{length-replicate}
use Rattle.nm_proto.specs.declared.journal.Entry.{Entry}
use Rattle.nm_journal.specs.declared.fault.JournalFault.{JournalFault}
use Rattle.nm_journal.specs.declared.fault.JournalFault.TheVariants.{NotEmpty, Damaged, DiskFault, Stopped, NoMemory}
use Rattle.nm_scenario_form.specs.declared.fault.Fault.{Fault}
use Rattle.nm_scenario.specs.declared.scenario.Scenario.{Scenario}
use Rattle.nm_scenario.specs.Scenario.{Reads, ReadsBytes}
use Rattle.nm_scenario_laws.specs.Kept.{ScenarioKeeps}
use Rattle.nm_scenario_laws.proofs.Whole.{bytes_keep}
use Rattle.nm_scenario.specs.declared.scenario.Body.{Body}
use Rattle.nm_scenario.specs.declared.scenario.Body.TheVariants.{Flat, Yang}
use Rattle.nm_flat.specs.declared.flat.FlatEdit.{FlatEdit}
use Rattle.nm_flat.specs.Flat.{FlatState, flat_text}
use Rattle.nm_flat.specs.FlatContent.{flat_meaning}
use Rattle.nm_schema_tree.specs.Nodes.{SchemaTree}
use Rattle.nm_config.specs.Rows.{Rows}
use Rattle.nm_edit.specs.declared.edit.EditNode.{EditNode}
use Rattle.nm_content.specs.Meaning.{lifted, yang_meaning, yang_text}
use Rattle.nm_console.specs.declared.status.Status.{Status}
use Rattle.nm_console.specs.declared.said.Said.{Said}
use Rattle.nm_console.specs.declared.journal.JournalStop.{JournalStop}
use Rattle.nm_console.specs.declared.command.Command.TheVariants.{Check, Replay}
use Rattle.nm_world.specs.World.{WorldState}
use Rattle.nm_proto.specs.declared.plan.Event.{Event}
use Rattle.nm_console.specs.Console.{Answer, AsSaid, AsTold, IsAstray, IsAstrayBy, IsAstrayIn, IsAstrayOf, IsSoOf, DivergedRun, RunsSafely, Stores, Tells, TellsLast, TellsOver, TellsReplay, TellsRun, TellsUnopened, Unread, checked, entries_by, faulted, left_in, not_empty, opened, replay_entries, replayed, setting_of, told_by, told_of, world_of}
use Rattle.nm_notice_laws.specs.Replays.{TellAsReplayed}
use Rattle.nm_console.proofs.Given.{each_safe}

-- a scenario that is read is within its limits
pub read_keeps : (bytes : List ℕ) (scenario : Scenario) → Reads bytes (Ok scenario) → ScenarioKeeps scenario
read_keeps bytes scenario reads = bytes_keep bytes scenario reads

some_image : (stored : Option (List ℕ)) → IfSome stored (λ told. told ≡ unwrap_or stored [])
some_image None = tt
some_image (Some told) = refl

-- the first fault of a scenario, whatever the journal holds
pub fault_replays : (fault : Fault) (stored : Option (List ℕ)) (status : Status) (text : List ℕ) → Tells (faulted fault) status text → TellsReplay (Err fault) stored stored status text
fault_replays fault stored status text tells =
    record { image = unwrap_or stored []; kept = some_image stored; goes = inl (record { tells = tells; stores = refl }) }

module _ {Config Node : Type 0} (told : WorldState Config Node → Answer) (came so : WorldState Config Node → Type 0) (each : (last : WorldState Config Node) → came last → so last) where
  -- what is so of each world that could be come to
  diverged_so : (status : Status) (text : List ℕ) → DivergedRun told came status text ⊎ Unread status text → DivergedRun told so status text ⊎ Unread status text
  diverged_so status text (inl d) = inl (record { last = d.last; has = d.has; is_so = each d.last d.is_so; tells = d.tells })
  diverged_so status text (inr unread) = inr unread

  module _ (last : WorldState Config Node) (events : List Event) (stored mid after : Option (List ℕ)) (status : Status) (text : List ℕ) where
    goes_so : (IsSome stored → IsSome mid) → TellsLast told came last events mid after status text
        → AsTold (told last) (Some last.entries) stored after status text ⊎ IsAstray told so events stored status text
    goes_so some (inl both) = inl (record { tells = both.0; stores = both.1 })
    goes_so some (inr astray) = inr (record { crashed = astray.crashed; untold = λ is. astray.untold (some is); tells = diverged_so status text astray.tells })

    -- a run over an empty journal
    pub run_tells : IfSome stored (λ bytes. bytes ≡ []) → (IsSome stored → IsSome mid) → TellsLast told came last events mid after status text → TellsRun told so last events stored after status text
    run_tells empty some tells = record { image = []; kept = empty; goes = goes_so some tells }

-- ---- nothing is run over any other

-- so many bytes
many : ℕ → List ℕ
many n = replicate n 0

length-many : (n : ℕ) → length (many n) ≡ n
unfolding many
length-many n = length-replicate n 0

abbrev image_of : (stored : Option (List ℕ)) → ℕ → List ℕ
image_of None size = many size
image_of (Some told) size = told

size_of : (stored : Option (List ℕ)) (size : ℕ) → IfSome stored (λ bytes. size ≡ length bytes) → length (image_of stored size) ≡ size
size_of None size h = length-many size
size_of (Some told) size h = sym h

kept_of : (stored : Option (List ℕ)) (size : ℕ) → IfSome stored (λ told. told ≡ image_of stored size)
kept_of None size = tt
kept_of (Some told) size = refl

full_tells : (answer : Answer) (entries : List Entry) (image : List ℕ) (stored after : Option (List ℕ)) (size : ℕ) (status : Status) (text : List ℕ) → length image ≡ size → 0 < size
    → Tells (not_empty size) status text → after ≡ stored → Tells (opened image answer) status text × Stores (left_in image entries) stored after
full_tells answer entries [] stored after size status text is some tells same = absurd (omega (arith, is, some))
full_tells answer entries (byte ∷ bytes) stored after size status text is some tells same = (subst (λ n. Tells (not_empty n) status text) (sym is) tells, same)

module _ {Config Node : Type 0} (told : WorldState Config Node → Answer) (so : WorldState Config Node → Type 0) (last : WorldState Config Node) (events : List Event) (stored after : Option (List ℕ)) where
  pub not_empty_tells : (size : ℕ) (status : Status) (text : List ℕ) → 0 < size → IfSome stored (λ bytes. size ≡ length bytes)
      → after ≡ stored → Tells (not_empty size) status text → TellsRun told so last events stored after status text
  not_empty_tells size status text some held same tells =
      let both = full_tells (told last) last.entries (image_of stored size) stored after size status text (size_of stored size held) some tells same in
      record { image = image_of stored size; kept = kept_of stored size; goes = inl (record { tells = both.0; stores = both.1 }) }

  unopened_tells : (fault : JournalFault) (status : Status) (text : List ℕ)
      → ((size : ℕ) → fault ≡ NotEmpty size → (0 < size) × IfSome stored (λ bytes. size ≡ length bytes) × (after ≡ stored))
      → TellsUnopened fault status text → TellsRun told so last events stored after status text
  unopened_tells (NotEmpty size) status text opens tells = let o = opens size refl in not_empty_tells size status text o.0 o.1 o.2 tells
  unopened_tells (Damaged offset) status text opens tells = absurd tells
  unopened_tells DiskFault status text opens tells = absurd tells
  unopened_tells Stopped status text opens tells = absurd tells
  unopened_tells NoMemory status text opens tells = absurd tells

  -- the same of an answer, where there is one
  pub unopened_told : (fault : JournalFault) (result : Result Said JournalStop)
      → ((size : ℕ) → fault ≡ NotEmpty size → (0 < size) × IfSome stored (λ bytes. size ≡ length bytes) × (after ≡ stored))
      → IfOk result (λ said. TellsUnopened fault said.status said.text.items) → IfOk result (λ said. TellsRun told so last events stored after said.status said.text.items)
  unopened_told fault (Ok said) opens tells = unopened_tells fault said.status said.text.items opens tells
  unopened_told fault (Err stop) opens tells = tt

  -- and of a run over an empty one
  pub run_told : (came : WorldState Config Node → Type 0) → ((last : WorldState Config Node) → came last → so last) → (mid : Option (List ℕ)) (result : Result Said JournalStop)
      → IfSome stored (λ bytes. bytes ≡ []) → (IsSome stored → IsSome mid)
      → IfOk result (λ said. TellsLast told came last events mid after said.status said.text.items) → IfOk result (λ said. TellsRun told so last events stored after said.status said.text.items)
  run_told came each mid (Ok said) empty some tells = run_tells told came so each last events stored mid after said.status said.text.items empty some tells
  run_told came each mid (Err stop) empty some tells = tt

-- ---- contents

-- what a run of these contents came to is told of their scenario
goes_by : (s : Scenario) (body : Body) (image : List ℕ) (stored after : Option (List ℕ)) (status : Status) (text : List ℕ) → s.body ≡ body
    → AsTold (told_by image body s) (entries_by image body s) stored after status text ⊎ IsAstrayBy body s stored status text
    → AsTold (told_by image s.body s) (entries_by image s.body s) stored after status text ⊎ IsAstrayBy s.body s stored status text
goes_by s body image stored after status text is goes =
    subst (λ b. AsTold (told_by image b s) (entries_by image b s) stored after status text ⊎ IsAstrayBy b s stored status text) (sym is) goes

pub flat_replays : (s : Scenario) (devices : List FlatState) (edits : List FlatEdit) (stored after : Option (List ℕ)) (result : Result Said JournalStop) → s.body ≡ Flat devices edits
    → IfOk result (λ said. TellsRun (told_of flat_text edits s) (TellAsReplayed flat_meaning (setting_of edits s) devices) (world_of flat_meaning devices edits s) s.events stored after said.status said.text.items)
    → IfOk result (λ said. TellsReplay (Ok s) stored after said.status said.text.items)
flat_replays s devices edits stored after (Ok said) is t =
    record { image = t.image; kept = t.kept; goes = goes_by s (Flat devices edits) t.image stored after said.status said.text.items is t.goes }
flat_replays s devices edits stored after (Err stop) is t = tt

pub yang_replays : (s : Scenario) (modules : List (List ℕ)) (tree : SchemaTree) (devices : List Rows) (edits : List (List EditNode)) (stored after : Option (List ℕ)) (result : Result Said JournalStop)
    → s.body ≡ Yang modules tree devices edits
    → IfOk result (λ said. TellsRun (told_of (yang_text tree) edits s) (TellAsReplayed (yang_meaning tree) (setting_of edits s) (map lifted devices)) (world_of (yang_meaning tree) (map lifted devices) edits s) s.events stored after said.status said.text.items)
    → IfOk result (λ said. TellsReplay (Ok s) stored after said.status said.text.items)
yang_replays s modules tree devices edits stored after (Ok said) is t =
    record { image = t.image; kept = t.kept; goes = goes_by s (Yang modules tree devices edits) t.image stored after said.status said.text.items is t.goes }
yang_replays s modules tree devices edits stored after (Err stop) is t = tt

-- ---- bytes

-- what is told of what bytes are read as is told of the bytes
pub read_told : (bytes : List ℕ) (given : Result Scenario Fault) (stored after : Option (List ℕ)) (result : Result Said JournalStop) → ReadsBytes bytes given
    → IfOk result (λ said. TellsReplay given stored after said.status said.text.items)
    → IfOk result (λ said. IsSoOf bytes (λ outcome. TellsReplay outcome stored after said.status said.text.items))
read_told bytes given stored after (Ok said) reads t = record { outcome = given; reads = reads; is_so = t; safe = each_safe bytes given reads }
read_told bytes given stored after (Err stop) reads t = tt

pub fault_told : (bytes : List ℕ) (fault : Fault) (stored : Option (List ℕ)) (status : Status) (text : List ℕ) → ReadsBytes bytes (Err fault) → Tells (faulted fault) status text
    → IsSoOf bytes (λ outcome. TellsReplay outcome stored stored status text)
fault_told bytes fault stored status text reads tells = record { outcome = Err fault; reads = reads; is_so = fault_replays fault stored status text tells; safe = tt }

said_so : (bytes image : List ℕ) (outcome : Result Scenario Fault) (stored after : Option (List ℕ)) (status : Status) (text : List ℕ) → ReadsBytes bytes outcome → RunsSafely outcome
    → AsTold (replayed image outcome) (replay_entries image outcome) stored after status text ⊎ IsAstrayIn outcome stored status text
    → AsSaid (Some Replay) bytes image stored after status text ⊎ IsAstrayOf (Some Replay) bytes stored status text
said_so bytes image outcome stored after status text reads safe (inl told) = inl (record { outcome = outcome; reads = reads; is_so = told; safe = safe })
said_so bytes image outcome stored after status text reads safe (inr astray) = inr (record { outcome = outcome; reads = reads; is_so = astray; safe = safe })

pub replay_over : (bytes : List ℕ) (stored after : Option (List ℕ)) (status : Status) (text : List ℕ) → IsSoOf bytes (λ outcome. TellsReplay outcome stored after status text)
    → TellsOver (Some Replay) bytes stored after status text
replay_over bytes stored after status text t =
    record { image = t.is_so.image; kept = t.is_so.kept; goes = said_so bytes t.is_so.image t.outcome stored after status text t.reads t.safe t.is_so.goes }

-- the same of an answer, where there is one
pub replays_over : (bytes : List ℕ) (stored after : Option (List ℕ)) (result : Result Said JournalStop)
    → IfOk result (λ said. IsSoOf bytes (λ outcome. TellsReplay outcome stored after said.status said.text.items))
    → IfOk result (λ said. TellsOver (Some Replay) bytes stored after said.status said.text.items)
replays_over bytes stored after (Ok said) t = replay_over bytes stored after said.status said.text.items t
replays_over bytes stored after (Err stop) t = tt

pub check_over : (bytes : List ℕ) (stored : Option (List ℕ)) (status : Status) (text : List ℕ) → IsSoOf bytes (λ outcome. Tells (checked outcome) status text)
    → TellsOver (Some Check) bytes stored stored status text
check_over bytes stored status text t = record {
  image = unwrap_or stored [];
  kept = some_image stored;
  goes = inl (record { outcome = t.outcome; reads = t.reads; is_so = record { tells = t.is_so; stores = refl }; safe = t.safe });
}

pub ruleset replays = (fault_told, replay_over, check_over)
