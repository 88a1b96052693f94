-- By how much a call lets a history grow.
use Rattle.std.proofs.Common.{Option, Some, None, Result, Ok, Err, IfOk, OnErr, inl, inr, ◌≡◌, ℕ, ◌+◌, ◌≤◌, Bool, true, false, List, [], ◌∷◌, ◌++◌, take, length, refl, sym, ap, ◌∙◌, subst, arith, if◌then◌else◌}
use Rattle.std.specs.Bool.{MatchBool}
use Rattle.std.proofs.lemmas.List.{append_assoc, append-nil, length-append}
use Rattle.std.proofs.Math.Seq.{take-append_seam}
use Rattle.std.specs.Str.{bytes_eq}
use Rattle.nm_base.specs.declared.fault.NoMemory.{NoMemory}
use Rattle.nm_base.specs.Words.{manager}
use Rattle.nm_proto.specs.declared.message.Request.{Request}
use Rattle.nm_proto.specs.Content.{Meaning, TablesState}
use Rattle.nm_sessions.specs.Sessions.{is_open}
use Rattle.nm_history.specs.declared.event.DeviceEvent.{DeviceEvent}
use Rattle.nm_history.specs.declared.event.DeviceEvent.TheVariants.{Entered, Asked, Lost, Restarted}
use Rattle.nm_history.specs.declared.event.Noted.{Noted}
use Rattle.nm_history.specs.History.{Happened, noted, entering, losing, restarting}
use Rattle.nm_proto.specs.declared.fault.PlanFault.{PlanFault}
use Rattle.nm_proto.specs.declared.fault.PlanFault.TheVariants.{Drop, Cut, Restart, Advance}
use Rattle.nm_cells.specs.declared.asked.Asked.{Asked as Told}
use Rattle.nm_cells.specs.declared.pass.PassOwner.{PassOwner}
use Rattle.nm_cells.specs.declared.pass.PassEntry.{PassEntry}
use Rattle.nm_cells.specs.declared.ended.Found.{Found}
use Rattle.nm_cells.specs.Faults.{due}
use Rattle.nm_cells.specs.Grows.{GrowsBy}
use Rattle.nm_cells.specs.Kept.{KeptState, with_room, kept_after, is_managers}
use Rattle.nm_cells.specs.Ended.{found}
use Rattle.nm_cells.specs.Pass.{PassState}
use Rattle.nm_cells.specs.Serve.{advance_of, advanced_by, prepared, Left, Leaves, happens, tells_end, lost_with, asked_on, loses, restarts, cut_off, dropped, by_fault, manager_enters, enters, asking, manager_asks, asks, serve_on, may_ask, StaysOrAdvances}
use Rattle.nm_cells.specs.End.{may_end, HangsUp, Stays, Ends}

-- the entries that a history gained, few of them
record Gains (most : ℕ) (old new : List Noted) : Type 0 where
  gained : List Noted
  is : new ≡ old ++ gained
  few : length gained ≤ most

gains_none : (most : ℕ) (old new : List Noted) → new ≡ old → Gains most old new
gains_none most old new e = record { gained = []; is = e ∙ sym (append-nil old); few = omega arith }

gains_one : (old new : List Noted) (entry : Noted) → new ≡ old ++ entry ∷ [] → Gains 1 old new
gains_one old new entry e = record { gained = entry ∷ []; is = e; few = omega arith }

gains_then : (a b most : ℕ) (old middle new : List Noted) → a + b ≤ most → Gains a old middle → Gains b middle new → Gains most old new
gains_then a b most old middle new all first second = record {
  gained = first.gained ++ second.gained;
  is = second.is ∙ (ap (λ l. l ++ second.gained) first.is ∙ append_assoc old first.gained second.gained);
  few = let l = length-append first.gained second.gained in let one = first.few in let two = second.few in omega (arith, l, one, two, all);
}

gains_more : (a most : ℕ) (old new : List Noted) → a ≤ most → Gains a old new → Gains most old new
gains_more a most old new all gains = record { gained = gains.gained; is = gains.is; few = let f = gains.few in omega (arith, f, all) }

grows : (most : ℕ) (old new : List Noted) → Gains most old new → GrowsBy most old new
grows most old new gains =
    let l : length new ≡ length (old ++ gains.gained) = ap length gains.is in
    let a = length-append old gains.gained in
    let f = gains.few in record {
      keeps = ap (take (length old)) gains.is ∙ take-append_seam old gains.gained;
      more = omega (arith, l, a);
      few = omega (arith, l, a, f);
    }

module _ {Config Node : Type 0} where
  abbrev past : KeptState Config Node → List Noted
  past kept = kept.recorded.history

  abbrev Grown : ℕ → KeptState Config Node → KeptState Config Node → Type 0
  Grown most old new = Gains most (past old) (past new)

  grown_happens : (device : ℕ) (counts : Bool) (kept : KeptState Config Node) (entries : List PassEntry) (event : DeviceEvent) (h : Happened Config Node) → Grown 1 kept (happens device counts kept entries event h).kept
  grown_happens device counts kept entries event h = gains_one (past kept) (past (kept_after counts kept event h)) (noted event h) refl

  grown_more : (a most : ℕ) (old new : KeptState Config Node) → a ≤ most → Grown a old new → Grown most old new
  grown_more a most old new le gains = gains_more a most (past old) (past new) le gains

module _ {Config TheEdit Node : Type 0} (m : Meaning Config TheEdit Node) (device : ℕ) where
  grown_prepared : (kept : KeptState Config Node) → Grown 1 kept (prepared m kept)
  grown_prepared kept = by_advance (advance_of (due kept.faults))
    where
      by_advance : (seconds : Option ℕ) → Grown 1 kept (advanced_by m kept seconds)
      by_advance None = gains_none 1 (past kept) (past kept) refl
      by_advance (Some seconds) = gains_one (past kept) (past (advanced_by m kept (Some seconds))) _ refl

  -- a loss after what was done
  grown_cut_off : (lost : Option ℕ) (kept : KeptState Config Node) (done : Left Config Node) → Grown 1 kept done.kept → Grown 2 kept (cut_off m device lost done).kept
  grown_cut_off None kept done first = grown_more 1 2 kept done.kept (omega arith) first
  grown_cut_off (Some session) kept done first = by_test (is_open done.kept.recorded.device.sessions session)
    where
      by_test : (open_ : Bool) → Grown 2 kept (if open_ then loses m device false done.kept done.entries session else done).kept
      by_test true =
          let after = loses m device false done.kept done.entries session in
          gains_then 1 1 2 (past kept) (past done.kept) (past after.kept) (omega arith) first (grown_happens device false done.kept done.entries (Lost session) (losing m done.kept.recorded.device session))
      by_test false = grown_more 1 2 kept done.kept (omega arith) first

  module _ (kept : KeptState Config Node) (entries : List PassEntry) (event : DeviceEvent) (h : Happened Config Node) where
    abbrev done : Left Config Node
    done = happens device true kept entries event h

    grown_dropped : (on : Option ℕ) → Grown 2 kept (dropped m device on kept entries done).kept
    grown_dropped None = grown_cut_off (lost_with None done.told) kept done (grown_happens device true kept entries event h)
    grown_dropped (Some session) =
        grown_more 1 2 kept (loses m device true kept entries session).kept (omega arith) (grown_happens device true kept entries (Lost session) (losing m kept.recorded.device session))

    grown_fault : (fault : Option PlanFault) → Grown 2 kept (by_fault m device fault kept entries event h).kept
    grown_fault None = grown_more 1 2 kept done.kept (omega arith) (grown_happens device true kept entries event h)
    grown_fault (Some (Advance seconds)) = grown_more 1 2 kept done.kept (omega arith) (grown_happens device true kept entries event h)
    grown_fault (Some Drop) = grown_dropped (asked_on event)
    grown_fault (Some Cut) = grown_cut_off (lost_with (asked_on event) done.told) kept done (grown_happens device true kept entries event h)
    grown_fault (Some Restart) = grown_more 1 2 kept (restarts m device kept entries).kept (omega arith) (grown_happens device true kept entries Restarted (restarting m kept.recorded.device))

  -- a request by whose it is: the clock rises first for one of the manager
  grown_by : (managers : Bool) (kept : KeptState Config Node) (ours theirs : Left Config Node) → Grown 2 (prepared m kept) ours.kept → Grown 1 kept theirs.kept → Grown 3 kept (if managers then ours else theirs).kept
  grown_by true kept ours theirs later other = gains_then 1 2 3 (past kept) (past (prepared m kept)) (past ours.kept) (omega arith) (grown_prepared kept) later
  grown_by false kept ours theirs later other = grown_more 1 3 kept theirs.kept (omega arith) other

  grown_entering : (kept : KeptState Config Node) (entries : List PassEntry) (user : List ℕ) → Grown 3 kept (enters m device kept entries user).kept
  grown_entering kept entries user =
      let now = prepared m kept in
      let h = entering kept.recorded.device user in
      grown_by (bytes_eq user manager) kept (manager_enters m device now entries user) (happens device false kept entries (Entered user) h)
      (grown_fault now entries (Entered user) (entering now.recorded.device user) (due now.faults)) (grown_happens device false kept entries (Entered user) h)

module _ {Config TheEdit Node : Type 0} (m : Meaning Config TheEdit Node) (tables : TablesState TheEdit) (device : ℕ) where
  grown_asking : (kept : KeptState Config Node) (entries : List PassEntry) (session : ℕ) (request : Request) → Grown 3 kept (asks m tables device kept entries session request).kept
  grown_asking kept entries session request =
      let now = prepared m kept in
      let h = asking m tables kept session request in
      grown_by m device (is_managers session kept.recorded.history) kept (manager_asks m tables device now entries session request) (happens device false kept entries (Asked session request) h)
      (grown_fault m device now entries (Asked session request) (asking m tables now session request) (due now.faults)) (grown_happens device false kept entries (Asked session request) h)

  grown_on : (may : Bool) (kept : KeptState Config Node) (entries : List PassEntry) (session : ℕ) (request : Request) (it : Found)
      → Grown 3 kept (if may then asks m tables device (with_room kept) entries session request else tells_end device kept entries it).kept
  grown_on true kept entries session request it = grown_asking (with_room kept) entries session request
  grown_on false kept entries session request it = gains_none 3 (past kept) (past kept) refl

module _ {Config TheEdit Node : Type 0} (m : Meaning Config TheEdit Node) where
  -- one that finds no memory
  grows_staying : (old new : KeptState Config Node) → StaysOrAdvances m old new → GrowsBy 3 old.recorded.history new.recorded.history
  grows_staying old new stays = grows 3 (past old) (past new) (elim stays [
    | inl same ↦ gains_none 3 (past old) (past new) (ap past same)
    | inr more ↦ elim more [
      | inl room ↦ gains_none 3 (past old) (past new) (ap past room)
      | inr advanced ↦ gains_more 1 3 (past old) (past new) (omega arith) (subst (λ (k : KeptState Config Node). Gains 1 (past old) (past k)) (sym advanced) (grown_prepared m 0 (with_room old)))
    ]
  ])

  ended_if : (may : Bool) (position : Option ℕ) (old new : KeptState Config Node) (pass after : PassState) (device session : ℕ)
      → MatchBool may (HangsUp m position old new pass after device session) (Stays m position old new pass after) → GrowsBy 3 old.recorded.history new.recorded.history
  ended_if true position old new pass after device session ends =
      grows 3 (past old) (past new) (gains_more 1 3 (past old) (past new) (omega arith) (gains_one (past old) (past new) (noted (Lost session) (losing m old.recorded.device session)) (ap past ends.device_is)))
  ended_if false position old new pass after device session ends = grows 3 (past old) (past new) (gains_none 3 (past old) (past new) (ap past ends.device_is))

  -- one that hangs up
  pub grows_ending : (position : Option ℕ) (old new : KeptState Config Node) (pass after : PassState) (device session : ℕ) → Ends m position old new pass after device session → GrowsBy 3 old.recorded.history new.recorded.history
  grows_ending position old new pass after device session ends = ended_if (may_end m old session) position old new pass after device session ends

-- ---- as the calls end

-- nothing happened
pub grows_same : (history : List Noted) → GrowsBy 3 history history
grows_same history = grows 3 history history (gains_none 3 history history refl)

module _ {Config TheEdit Node : Type 0} (m : Meaning Config TheEdit Node) (device : ℕ) (old new : KeptState Config Node) (entries after : List PassEntry) where
  left_grows : (told : Told) (left : Left Config Node) → Leaves told new after left → Grown 3 old left.kept → GrowsBy 3 old.recorded.history new.recorded.history
  left_grows told left leaves grown = grows 3 (past old) (past new) (subst (λ (k : KeptState Config Node). Gains 3 (past old) (past k)) (sym leaves.kept_is) grown)

  pub entering_grows : (user : List ℕ) (result : Result Told NoMemory) → IfOk result (λ told. Leaves told new after (enters m device (with_room old) entries user)) → OnErr result (StaysOrAdvances m old new)
      → GrowsBy 3 old.recorded.history new.recorded.history
  entering_grows user (Ok told) leaves stays = left_grows told (enters m device (with_room old) entries user) leaves (grown_entering m device (with_room old) entries user)
  entering_grows user (Err fault) leaves stays = grows_staying m old new stays

  pub asking_grows : (tables : TablesState TheEdit) (owner : PassOwner) (session : ℕ) (request : Request) (result : Result Told NoMemory) → IfOk result (λ told. Leaves told new after (serve_on m tables device owner old entries session request))
      → OnErr result (StaysOrAdvances m old new) → GrowsBy 3 old.recorded.history new.recorded.history
  asking_grows tables owner session request (Ok told) leaves stays =
      left_grows told (serve_on m tables device owner old entries session request) leaves
      (grown_on m tables device (may_ask owner old session) old entries session request (found owner device session entries old.recorded.history))
  asking_grows tables owner session request (Err fault) leaves stays = grows_staying m old new stays
