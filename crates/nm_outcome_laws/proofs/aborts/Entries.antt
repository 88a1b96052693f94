-- A change set that was to be aborted is over where an entry of the journal ends it, at the end of its course.
use Rattle.std.proofs.Common.{◌≡◌, ◌∙◌, ℕ, Bool, true, false, nat_eq, ◌&&◌, ◌||◌, List, [], ◌∷◌, ◌++◌, None, refl, sym, ap, subst}
use Rattle.std.proofs.lemmas.List.Folds.{list_any-append}
use Rattle.nm_base.specs.declared.mask.DeviceMask.{DeviceMask}
use Rattle.nm_base.specs.Token.{token_of}
use Rattle.nm_proto.specs.declared.journal.Entry.{Entry}
use Rattle.nm_proto.specs.declared.journal.Entry.TheVariants.{Started, Decided, Ended}
use Rattle.nm_proto.specs.declared.journal.Verdict.{Verdict}
use Rattle.nm_proto.specs.Plan.{devices_in}
use Rattle.nm_journal.specs.Entries.{ends}
use Rattle.nm_recovery.specs.Recovery.{is_ended_in, verdict_in}
use Rattle.nm_decider.specs.declared.course.NextAction.TheVariants.{Decide, Finish}
use Rattle.nm_decider.specs.Course.{next_action}
use Rattle.nm_manager.specs.Queues.{is_ready_in}
use Rattle.nm_manager.specs.Slot.{decided}
use Rattle.nm_proto.specs.Content.{Meaning}
use Rattle.nm_world.specs.World.{Setting, WorldState}
use Rattle.nm_safety.specs.Keeping.{IsComing, Site}
use Rattle.nm_safety.specs.Pair.{to_abort}
use Rattle.nm_safety.specs.Support.{IsOrdered}
use Rattle.nm_safety.proofs.Entries.{nat_same, ready_is_open, verdict_stays}
use Rattle.nm_safety.proofs.Places.{verdict_same}
use Rattle.nm_safety.proofs.Seats.{undecided}
use Rattle.nm_safety.proofs.Tables.{both}
use Rattle.nm_outcome_laws.specs.AbortsSupport.{OfAborted, is_over}
use Rattle.nm_outcome_laws.proofs.aborts.Course.{never}
use Rattle.nm_outcome_laws.proofs.aborts.Slots.{decided_aborts, ended_aborts, less_aborts}

ended_next : (n : ℕ) (entries : List Entry) (entry : Entry) → is_ended_in n entries ≡ false → ends n entry ≡ false
    → is_ended_in n (entries ++ entry ∷ []) ≡ false
ended_next n entries entry none other =
    list_any-append (ends n) entries (entry ∷ []) ∙ ap (λ b. b || (ends n entry || false)) none ∙ ap (λ b. b || false) other

-- what was to be aborted and is ended was so before
over_by : (n : ℕ) (entries : List Entry) (entry : Entry) → IsOrdered n entries → ends n entry ≡ false
    → (is_ended_in n (entries ++ entry ∷ []) ≡ true) × (to_abort (verdict_in n (entries ++ entry ∷ [])) ≡ true)
    → (b : Bool) → is_ended_in n entries ≡ b → is_over n entries ≡ true
over_by n entries entry ordered other parts true e =
    ap (λ b. b && to_abort (verdict_in n entries)) e
    ∙ ap to_abort (sym (verdict_stays n entries entry (ordered.ended e))) ∙ parts.1
over_by n entries entry ordered other parts false e =
    never (is_ended_in n (entries ++ entry ∷ [])) (ended_next n entries entry e other) parts.0

over_next : (n : ℕ) (entries : List Entry) (entry : Entry) → IsOrdered n entries → ends n entry ≡ false
    → is_over n (entries ++ entry ∷ []) ≡ true → is_over n entries ≡ true
over_next n entries entry ordered other over =
    over_by n entries entry ordered other
    (both (is_ended_in n (entries ++ entry ∷ [])) (to_abort (verdict_in n (entries ++ entry ∷ []))) over) (is_ended_in n entries) refl

pub not_over : (n : ℕ) (entries : List Entry) → is_ended_in n entries ≡ false → is_over n entries ≡ false
not_over n entries e = ap (λ b. b && to_abort (verdict_in n entries)) e

only_aborts : (ended aborts : Bool) → (ended && aborts) ≡ true → aborts ≡ true
only_aborts true aborts e = e
only_aborts false aborts e = absurd (let g : false ≡ true = e in cc)

module _ {Config TheEdit Node : Type 0} (m : Meaning Config TheEdit Node) (setting : Setting TheEdit) (B : WorldState Config Node → Type 0)
    (x : Site m setting B) (ordered : IsOrdered x.change x.w.entries) (a : OfAborted x.change x.plan x.w.entries x.w.devices x.slot) where
  abbrev members : ℕ
  members = devices_in x.plan.edits

  abbrev Then : Entry → Type 0
  Then entry = OfAborted x.change x.plan (x.w.entries ++ entry ∷ []) x.w.devices x.slot

  -- another change set's, or nobody's end
  plainly : (entry : Entry) → ends x.change entry ≡ false → Then entry
  plainly entry other =
      less_aborts members (is_over x.change x.w.entries) (token_of x.change) x.w.devices x.slot a (is_over x.change (x.w.entries ++ entry ∷ []))
      (over_next x.change x.w.entries entry ordered other)

  -- its own
  module _ (kept : DeviceMask) (acts : next_action x.slot.course ≡ Finish kept) (ready : is_ready_in x.w.entries x.change ≡ true) where
    abbrev later : List Entry
    later = x.w.entries ++ Ended x.change kept ∷ []

    not_now : to_abort x.slot.course.verdict ≡ false → is_over x.change later ≡ true → is_over x.change x.w.entries ≡ true
    not_now none over =
        never (to_abort (verdict_in x.change later))
        (ap to_abort (verdict_same x.change x.w.entries (Ended x.change kept) refl)
        ∙ ap to_abort (sym (x.kept.in_step.decided (ready_is_open x.w.entries x.change ready))) ∙ none)
        (only_aborts (is_ended_in x.change later) (to_abort (verdict_in x.change later)) over)

    own_end : (b : Bool) → to_abort x.slot.course.verdict ≡ b → Then (Ended x.change kept)
    own_end true e =
        ended_aborts x.change members (is_over x.change x.w.entries) x.owners x.w.devices x.w.entries x.slot x.kept a kept acts e
        (is_over x.change later)
    own_end false e =
        less_aborts members (is_over x.change x.w.entries) (token_of x.change) x.w.devices x.slot a (is_over x.change later) (not_now e)

  ended_by : (other : ℕ) (kept : DeviceMask) → IsComing m setting B x (Ended other kept) → (b : Bool) → nat_eq x.change other ≡ b → Then (Ended other kept)
  ended_by other kept coming false e = plainly (Ended other kept) e
  ended_by other kept coming true e =
      let is : Ended other kept ≡ Ended x.change kept = ap (λ n. Ended n kept) (sym (nat_same x.change other e)) in
      let end = coming.ends kept is in
      subst Then (sym is) (own_end kept end.1 end.0 (to_abort x.slot.course.verdict) refl)

  pub entered_aborts : (entry : Entry) → IsComing m setting B x entry → Then entry
  entered_aborts (Started other devices timeout) coming = plainly (Started other devices timeout) refl
  entered_aborts (Decided other v) coming = plainly (Decided other v) refl
  entered_aborts (Ended other kept) coming = ended_by other kept coming (nat_eq x.change other) refl

  pub decision_aborts : (v : Verdict) → is_ready_in x.w.entries x.change ≡ true → next_action x.slot.course ≡ Decide v
      → OfAborted x.change x.plan (x.w.entries ++ Decided x.change v ∷ []) x.w.devices (decided x.slot v)
  decision_aborts v ready acts =
      let none : x.slot.course.verdict ≡ None = undecided x.change members x.w.entries x.slot x.kept.in_step v acts in
      less_aborts members (is_over x.change x.w.entries) (token_of x.change) x.w.devices (decided x.slot v)
      (decided_aborts x.change members (is_over x.change x.w.entries) x.owners x.w.devices x.w.entries x.slot x.kept a none
      (sym (x.kept.in_step.decided (ready_is_open x.w.entries x.change ready)) ∙ none) v)
      (is_over x.change (x.w.entries ++ Decided x.change v ∷ [])) (over_next x.change x.w.entries (Decided x.change v) ordered refl)
