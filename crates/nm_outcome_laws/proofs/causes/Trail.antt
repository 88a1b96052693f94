-- What the trail tells, and the journal, as events come.
use Rattle.std.proofs.Common.{◌≡◌, ◌∙◌, ℕ, Bool, true, false, ◌&&◌, ◌||◌, cond, nat_eq, List, [], ◌∷◌, ◌++◌, find, Option, Some, None}
use Rattle.std.proofs.Common.{option_and_then, refl, sym, ap, subst}
use Rattle.std.specs.List.{list_any}
use Rattle.std.specs.Option.{option_or}
use Rattle.std.proofs.lemmas.List.Folds.{list_any-append}
use Rattle.nm_proto.specs.declared.journal.Entry.{Entry}
use Rattle.nm_proto.specs.declared.journal.Entry.TheVariants.{Started, Decided, Ended}
use Rattle.nm_proto.specs.declared.journal.Verdict.{Verdict}
use Rattle.nm_proto.specs.declared.plan.Event.{Event}
use Rattle.nm_proto.specs.declared.plan.Event.TheVariants.{Submit, Turn}
use Rattle.nm_journal.specs.Entries.{starts, decides}
use Rattle.nm_recovery.specs.Recovery.{is_started, verdict_in, verdict_of}
use Rattle.nm_world.specs.declared.happened.Happened.{Happened}
use Rattle.nm_world.specs.declared.happened.Happened.TheVariants as happened
use Rattle.nm_world.specs.declared.happened.TraceEntry.{TraceEntry}
use Rattle.nm_safety.proofs.Places.{verdict_same, verdict_new}
use Rattle.nm_safety.proofs.Entries.{nat_same, both_false}
use Rattle.nm_outcome_laws.specs.Causes.{is_submit_of, is_turn_of, starts_then, was_started, verdict_told, decided_then, was_decided, IsToldAlike}

or_none : {A : Type 0} (o : Option A) → option_or o None ≡ o
or_none None = refl
or_none (Some x) = refl

or_assoc : {A : Type 0} (a b c : Option A) → option_or a (option_or b c) ≡ option_or (option_or a b) c
or_assoc None b c = refl
or_assoc (Some x) b c = refl

or_false : (a : Bool) → (a || (false || false)) ≡ a
or_false true = refl
or_false false = refl

-- ---- with one event more

pub decided_next : (change : ℕ) (trail : List TraceEntry) (passed : TraceEntry)
    → was_decided change (trail ++ passed ∷ []) ≡ option_or (was_decided change trail) (decided_then change passed)
decided_next change [] passed = or_none (decided_then change passed)
decided_next change (first ∷ trail) passed =
    ap (option_or (decided_then change first)) (decided_next change trail passed) ∙ or_assoc (decided_then change first) (was_decided change trail)
    (decided_then change passed)

started_next : (change : ℕ) (trail : List TraceEntry) (passed : TraceEntry)
    → was_started change (trail ++ passed ∷ []) ≡ (was_started change trail || (starts_then change passed || false))
started_next change trail passed = list_any-append (starts_then change) trail (passed ∷ [])

-- one that neither submits nor decides
pub record IsPlain (passed : TraceEntry) : Type 0 where
  pub starts_none : (change : ℕ) → starts_then change passed ≡ false
  pub decides_none : (change : ℕ) → decided_then change passed ≡ None

pub plain_alike : (change : ℕ) (trail : List TraceEntry) (entries : List Entry) (passed : TraceEntry) → IsPlain passed → IsToldAlike change trail entries
    → IsToldAlike change (trail ++ passed ∷ []) entries
plain_alike change trail entries passed plain told = record {
  started = started_next change trail passed ∙ ap (λ b. was_started change trail || (b || false)) (plain.starts_none change) ∙ or_false
      (was_started change trail) ∙ told.started;
  decided = decided_next change trail passed ∙ ap (option_or (was_decided change trail)) (plain.decides_none change) ∙ or_none (was_decided change trail)
      ∙ told.decided;
}

-- ---- which are so

none_if : (b : Bool) (o : Option Verdict) → o ≡ None → cond b o None ≡ None
none_if true o e = e
none_if false o e = refl

false_if : (a b : Bool) → b ≡ false → (a && b) ≡ false
false_if true b e = e
false_if false b e = refl

pub turn_plain : (turned : ℕ) (what : Happened) → verdict_told what ≡ None → IsPlain (record { event = Turn turned; happened = what })
turn_plain turned what e = record { starts_none = λ change. refl; decides_none = λ change. none_if (nat_eq change turned) (verdict_told what) e }

-- where nothing has come of an event
pub idle_plain : (event : Event) → IsPlain (record { event = event; happened = happened.Idle })
idle_plain event = record {
  starts_none = λ change. false_if (is_submit_of change event) false refl;
  decides_none = λ change. none_if (is_turn_of change event) None refl;
}

-- ---- with one entry more

undecided_by : (change : ℕ) (entry : Entry) (entries : List Entry) → decides change entry ≡ false
    → option_and_then verdict_of (find (decides change) entries) ≡ None
    → option_and_then verdict_of (find (decides change) (entry ∷ entries)) ≡ None
undecided_by change entry entries e later = ap (λ b. option_and_then verdict_of (cond b (Some entry) (find (decides change) entries))) e ∙ later

-- where no entry decides it, it has no verdict
pub undecided_none : (change : ℕ) (entries : List Entry) → list_any (decides change) entries ≡ false → verdict_in change entries ≡ None
undecided_none change [] e = refl
undecided_none change (entry ∷ entries) e =
    let parts = both_false (decides change entry) (list_any (decides change) entries) e in
    undecided_by change entry entries parts.0 (undecided_none change entries parts.1)

pub ended_alike : (change : ℕ) (trail : List TraceEntry) (entries : List Entry) (other : ℕ) (kept : _) → IsToldAlike change trail entries
    → IsToldAlike change trail (entries ++ Ended other kept ∷ [])
ended_alike change trail entries other kept told = record {
  started = told.started ∙ sym (list_any-append (starts change) entries (Ended other kept ∷ []) ∙ or_false (is_started change entries));
  decided = told.decided ∙ sym (verdict_same change entries (Ended other kept) refl);
}

pub started_alike : (change : ℕ) (trail : List TraceEntry) (entries : List Entry) (other : ℕ) (devices : _) (timeout : _) → IsToldAlike change trail entries
    → IsToldAlike change (trail ++ record { event = Submit other; happened = happened.Started } ∷ []) (entries ++ Started other devices timeout ∷ [])
started_alike change trail entries other devices timeout told = record {
  started =
      started_next change trail (record { event = Submit other; happened = happened.Started }) ∙ ap (λ b. was_started change trail || (b || false))
      (and_true (nat_eq change other))
      ∙ ap (λ b. b || (nat_eq change other || false)) told.started ∙ sym (list_any-append (starts change) entries (Started other devices timeout ∷ []));
  decided =
      decided_next change trail (record { event = Submit other; happened = happened.Started }) ∙ or_none (was_decided change trail) ∙ told.decided
      ∙ sym (verdict_same change entries (Started other devices timeout) refl);
}
  where
    and_true : (a : Bool) → (a && true) ≡ a
    and_true true = refl
    and_true false = refl

module _ (change : ℕ) (trail : List TraceEntry) (entries : List Entry) (other : ℕ) (verdict : Verdict) (first : list_any (decides other) entries ≡ false)
    (told : IsToldAlike change trail entries) where
  abbrev decision : TraceEntry
  decision = record { event = Turn other; happened = happened.Decided verdict }

  verdict_by : (b : Bool) → nat_eq change other ≡ b → was_decided change (trail ++ decision ∷ []) ≡ verdict_in change (entries ++ Decided other verdict ∷ [])
  verdict_by false e =
      decided_next change trail decision ∙ ap (λ b. option_or (was_decided change trail) (cond b (Some verdict) None)) e ∙ or_none
      (was_decided change trail) ∙ told.decided
      ∙ sym (verdict_same change entries (Decided other verdict) e)
  verdict_by true e =
      let same : change ≡ other = nat_same change other e in
      let none : list_any (decides change) entries ≡ false = subst (λ n. list_any (decides n) entries ≡ false) (sym same) first in
      let new : verdict_in change (entries ++ Decided other verdict ∷ []) ≡ Some verdict =
      subst (λ n. verdict_in change (entries ++ Decided n verdict ∷ []) ≡ Some verdict) same (verdict_new change entries verdict none) in
      decided_next change trail decision ∙ ap (λ b. option_or (was_decided change trail) (cond b (Some verdict) None)) e
      ∙ ap (λ o. option_or o (Some verdict)) (told.decided ∙ undecided_none change entries none) ∙ sym new

  pub decided_alike : IsToldAlike change (trail ++ decision ∷ []) (entries ++ Decided other verdict ∷ [])
  decided_alike = record {
    started =
        started_next change trail decision ∙ or_false (was_started change trail) ∙ told.started
        ∙ sym (list_any-append (starts change) entries (Decided other verdict ∷ []) ∙ or_false (is_started change entries));
    decided = verdict_by (nat_eq change other) refl;
  }
