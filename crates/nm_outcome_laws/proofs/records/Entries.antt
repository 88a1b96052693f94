-- What the entries of a journal tell of the end of a change set, as they come.
use Rattle.std.proofs.Common.{◌≡◌, ◌∙◌, ℕ, suc, ◌-◌, ◌==◌, nat_eq, Bool, true, false, not, cond, ◌&&◌, ◌||◌, List, [], ◌∷◌, ◌++◌, find, Option, Some, None, IfSome, is_some, option_and_then, slice_get, refl, sym, ap, subst}
use Rattle.std.specs.List.{list_any}
use Rattle.std.specs.Option.{option_or}
use Rattle.std.proofs.lemmas.List.Folds.{find-append}
use Rattle.std.proofs.lemmas.Option.{none-some, same_Some}
use Rattle.nm_base.specs.declared.mask.DeviceMask.{DeviceMask}
use Rattle.nm_proto.specs.declared.journal.Verdict.TheVariants as verdict
use Rattle.nm_proto.specs.declared.journal.Entry.{Entry}
use Rattle.nm_proto.specs.declared.journal.Entry.TheVariants.{Started, Decided, Ended}
use Rattle.nm_proto.specs.declared.plan.ChangePlan.{ChangePlan}
use Rattle.nm_proto.specs.Plan.{devices_in as planned_in}
use Rattle.nm_journal.specs.Entries.{aborts, comes_next, decides, ends, has_record, is_within, may_follow, starts_over}
use Rattle.nm_recovery.specs.Recovery.{is_ended_in, kept_in, kept_of, verdict_in, verdict_of}
use Rattle.nm_manager.specs.Queues.{tickets_in}
use Rattle.nm_world.proofs.Growing.{Enters}
use Rattle.nm_safety.proofs.Places.{verdict_same}
use Rattle.nm_safety.proofs.Tables.{both}
use Rattle.nm_safety.specs.Safe.{is_abort}
use Rattle.nm_safety.specs.Support.{IsOrdered}
use Rattle.nm_safety.proofs.Entries.{any_later, nat_same, verdict_stays}
use Rattle.nm_safety.proofs.Basics.{either}
use Rattle.nm_safety.proofs.Tickets.{IsPlanTicket}

-- who is recorded to have kept a change set has a start with these devices, and nobody is after an abort
pub record IsRight (change : ℕ) (entries : List Entry) (kept : DeviceMask) : Type 0 where
  pub over : list_any (starts_over change kept.0) entries ≡ true
  pub none : (kept.0 == 0 || not (is_abort (verdict_in change entries))) ≡ true

abbrev pub AreRight : List Entry → Type 0
AreRight entries = (change : ℕ) (kept : DeviceMask) → kept_in change entries ≡ Some kept → IsRight change entries kept

-- ---- an abort is among the entries

abort_by : (change : ℕ) (entry : Entry) (rest : Option Entry) (others : Bool) (b : Bool) → decides change entry ≡ b
    → (is_abort (option_and_then verdict_of rest) ≡ true → others ≡ true)
    → is_abort (option_and_then verdict_of (cond b (Some entry) rest)) ≡ true → (aborts change entry || others) ≡ true
abort_by change (Started other devices timeout) rest others true d later h = absurd (let g : false ≡ true = d in cc)
abort_by change (Decided other verdict.Commit) rest others true d later h = absurd (let g : false ≡ true = h in cc)
abort_by change (Decided other (verdict.Abort why)) rest others true d later h = ap (λ b. b || others) d
abort_by change (Ended other kept) rest others true d later h = absurd (let g : false ≡ true = d in cc)
abort_by change entry rest others false d later h = or_later (aborts change entry) others (later h)
  where
    or_later : (a b : Bool) → b ≡ true → (a || b) ≡ true
    or_later true b h = refl
    or_later false b h = h

pub abort_there : (change : ℕ) (entries : List Entry) → is_abort (verdict_in change entries) ≡ true → list_any (aborts change) entries ≡ true
abort_there change [] h = absurd (let g : false ≡ true = h in cc)
abort_there change (entry ∷ entries) h =
    abort_by change entry (find (decides change) entries) (list_any (aborts change) entries) (decides change entry) refl
    (abort_there change entries) h

no_abort : (zero any abort : Bool) → (abort ≡ true → any ≡ true) → (zero || not any) ≡ true → (zero || not abort) ≡ true
no_abort true any abort follows h = refl
no_abort false any false follows h = refl
no_abort false true true follows h = h
no_abort false false true follows h = absurd (let g : false ≡ true = follows refl in cc)

-- ---- the first end is the one that counts

pub some_ended : (change : ℕ) (entries : List Entry) → is_some (find (ends change) entries) ≡ true → is_ended_in change entries ≡ true
some_ended change [] h = absurd (let g : false ≡ true = h in cc)
some_ended change (entry ∷ entries) h = by_first (ends change entry) h (some_ended change entries)
  where
    by_first : (b : Bool) → is_some (cond b (Some entry) (find (ends change) entries)) ≡ true
        → (is_some (find (ends change) entries) ≡ true → is_ended_in change entries ≡ true)
        → (b || list_any (ends change) entries) ≡ true
    by_first true h later = refl
    by_first false h later = later h

module _ (change : ℕ) (entries : List Entry) (ordered : IsOrdered change entries) (right : AreRight entries) (kept : DeviceMask) where
  right_later : (entry : Entry) → is_ended_in change entries ≡ true → kept_in change entries ≡ Some kept
      → IsRight change (entries ++ entry ∷ []) kept
  right_later entry ended e = record {
    over = any_later (starts_over change kept.0) entries entry (right change kept e).over;
    none =
        subst (λ v. (kept.0 == 0 || not (is_abort v)) ≡ true) (sym (verdict_stays change entries entry (ordered.ended ended)))
        (right change kept e).none;
  }

  -- the one that comes is its end
  right_new : (entry : Entry) → may_follow entries entry ≡ true → (b : Bool) → ends change entry ≡ b
      → option_and_then kept_of (cond b (Some entry) None) ≡ Some kept → IsRight change (entries ++ entry ∷ []) kept
  right_new entry may false here e = absurd (none-some kept e)
  right_new (Started other devices timeout) may true here e = absurd (let g : false ≡ true = here in cc)
  right_new (Decided other decided) may true here e = absurd (let g : false ≡ true = here in cc)
  right_new (Ended other others) may true here e =
      let same : change ≡ other = nat_same change other here in
      let is : others ≡ kept = same_Some others kept e in
      let next = (both (has_record (Ended other others)) (comes_next entries (Ended other others)) may).1 in
      let parts = both (list_any (starts_over other others.0) entries && list_any (decides other) entries && not (list_any (ends other) entries))
      (others.0 == 0 || not (list_any (aborts other) entries)) next in
      let first = both _ (not (list_any (ends other) entries)) parts.0 in
      let over : list_any (starts_over other others.0) entries ≡ true = (both _ (list_any (decides other) entries) first.0).0 in
      record {
        over = any_later (starts_over change kept.0) entries (Ended other others)
            (subst (λ k. list_any (starts_over change k) entries ≡ true) (ap (λ (one : DeviceMask). one.0) is)
            (subst (λ c. list_any (starts_over c others.0) entries ≡ true) (sym same) over));
        none =
            subst (λ v. (kept.0 == 0 || not (is_abort v)) ≡ true) (sym (verdict_same change entries (Ended other others) refl))
            (no_abort (kept.0 == 0) (list_any (aborts change) entries) (is_abort (verdict_in change entries)) (abort_there change entries)
            (subst (λ k. (k == 0 || not (list_any (aborts change) entries)) ≡ true) (ap (λ (one : DeviceMask). one.0) is)
            (subst (λ c. (others.0 == 0 || not (list_any (aborts c) entries)) ≡ true) (sym same) parts.1)));
      }

  right_by : (entry : Entry) → may_follow entries entry ≡ true → (found : Option Entry) → find (ends change) entries ≡ found
      → option_and_then kept_of (option_or found (find (ends change) (entry ∷ []))) ≡ Some kept
      → IsRight change (entries ++ entry ∷ []) kept
  right_by entry may None there e = right_new entry may (ends change entry) refl e
  right_by entry may (Some one) there e =
      right_later entry (some_ended change entries (ap is_some there)) (ap (option_and_then kept_of) there ∙ e)

  pub right_next : (entry : Entry) → may_follow entries entry ≡ true → kept_in change (entries ++ entry ∷ []) ≡ Some kept
      → IsRight change (entries ++ entry ∷ []) kept
  right_next entry may e =
      right_by entry may (find (ends change) entries) refl
      (sym (ap (option_and_then kept_of) (find-append (ends change) entries (entry ∷ []))) ∙ e)

pub enters_right : (entries : List Entry) → ((change : ℕ) → IsOrdered change entries) → (entry : Option Entry) (after : List Entry)
    → Enters entries entry after → AreRight entries → AreRight after
enters_right entries ordered None after is right = subst AreRight (sym is) right
enters_right entries ordered (Some entry) after is right = by_may (may_follow entries entry) refl is
  where
    by_may : (b : Bool) → may_follow entries entry ≡ b → after ≡ cond b (entries ++ entry ∷ []) entries → AreRight after
    by_may true may is =
        subst AreRight (sym is) (λ change kept e. right_next change entries (ordered change) right kept entry may e)
    by_may false may is = subst AreRight (sym is) right

-- ---- a start has the devices that are planned

module _ (plans : List ChangePlan) (change : ℕ) (plan : ChangePlan) (planned : slice_get plans (change - 1) ≡ Some plan) (kept : ℕ) where
  within_by : (devices : DeviceMask) (found : Option ChangePlan) → found ≡ Some plan
      → IfSome found (λ one. devices.0 ≡ planned_in one.edits) → is_within kept devices.0 ≡ true → is_within kept (planned_in plan.edits) ≡ true
  within_by devices None e h k = absurd (none-some plan e)
  within_by devices (Some one) e h k =
      subst (λ n. is_within kept n ≡ true) (h ∙ ap (λ (p : ChangePlan). planned_in p.edits) (same_Some one plan e)) k

  pub within_planned : (entries : List Entry) → ((i : ℕ) → IfSome (slice_get (tickets_in entries) i) (IsPlanTicket plans))
      → list_any (starts_over change kept) entries ≡ true → is_within kept (planned_in plan.edits) ≡ true
  within_planned [] all h = absurd (let g : false ≡ true = h in cc)
  within_planned (Started other devices timeout ∷ entries) all h =
      either (nat_eq change other && is_within kept devices.0) (list_any (starts_over change kept) entries)
      (is_within kept (planned_in plan.edits) ≡ true)
      (λ here.
      let parts = both (nat_eq change other) (is_within kept devices.0) here in
      within_by devices (slice_get plans (other - 1)) (ap (λ c. slice_get plans (c - 1)) (sym (nat_same change other parts.0)) ∙ planned) (all 0)
      parts.1)
      (λ later. within_planned entries (λ i. all (suc i)) later) h
  within_planned (Decided other decided ∷ entries) all h = within_planned entries all h
  within_planned (Ended other others ∷ entries) all h = within_planned entries all h
