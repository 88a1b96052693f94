-- What is kept of a device, as something happens there and as entries come: change sets wait from the commits on that bring them, and each
-- finds ended what is there.
use Rattle.std.proofs.Common.{◌≡◌, ◌∙◌, ℕ, ◌<◌, ◌^◌, Bool, true, false, List, [], ◌∷◌, ◌++◌, refl, sym, subst}
use Rattle.std.proofs.lemmas.List.{append-nil, append_assoc}
use Rattle.nm_base.specs.Token.{token_of}
use Rattle.nm_proto.specs.declared.journal.Entry.{Entry}
use Rattle.nm_proto.specs.declared.plan.ChangePlan.{ChangePlan}
use Rattle.nm_proto.specs.Content.{Meaning}
use Rattle.nm_history.specs.declared.event.DeviceEvent.{DeviceEvent}
use Rattle.nm_history.specs.declared.event.Noted.{Noted}
use Rattle.nm_history.specs.History.{Happened, RecordedState, noted, recorded_with}
use Rattle.nm_history.specs.Outcome.{outcome_of}
use Rattle.nm_history.specs.declared.outcome.Outcome.TheVariants.{Pending}
use Rattle.nm_recovery.specs.Recovery.{is_ended_in}
use Rattle.nm_device_laws.specs.Moment.{Happens}
use Rattle.nm_device_laws.specs.Token.{is_commit_done, leaves_token}
use Rattle.nm_safety.specs.Along.{carried}
use Rattle.nm_safety.proofs.Along.{along_map, along_push}
use Rattle.nm_world.specs.World.{Setting}
use Rattle.nm_commit_laws.proofs.brings.Histories.{left_undone}
use Rattle.nm_commit_laws.specs.Marks.{is_there}
use Rattle.nm_commit_laws.specs.Stays.{FindsEnded}
use Rattle.nm_commit_laws.specs.Waits.{Waits, then_noted}
use Rattle.nm_commit_laws.proofs.marks.Asks.{OfFinding, OfWaiting}
use Rattle.nm_commit_laws.proofs.marks.Known.{IsKnown, ended_later, known_later}
use Rattle.nm_commit_laws.proofs.marks.Staying.{there_before}

-- what is carried along a history is what has happened
carried_noted : (past history : List Noted) → carried then_noted past history ≡ past ++ history
carried_noted past [] = sym (append-nil past)
carried_noted past (one ∷ history) = carried_noted (past ++ one ∷ []) history ∙ append_assoc past (one ∷ []) history

module _ {Config TheEdit Node : Type 0} (m : Meaning Config TheEdit Node) (setting : Setting TheEdit) (entries : List Entry) (d : ℕ)
    (r : RecordedState Config Node) (event : DeviceEvent) (h : Happened Config Node) where
  abbrev after : RecordedState Config Node
  after = recorded_with r event h

  -- ---- something happens

  pub waits_next : Waits r.history (noted event h)
      → ((n : ℕ) → n < 2 ^ 32 → is_commit_done (token_of n) (noted event h) ≡ true → IsKnown setting.plans entries n d)
      → OfWaiting setting.plans entries d r → OfWaiting setting.plans entries d after
  waits_next new known k = record {
    waits = along_push then_noted Waits [] r.history (noted event h) k.waits
        (subst (λ past. Waits past (noted event h)) (sym (carried_noted [] r.history)) new);
    known = λ n small is. by_done n small is (is_commit_done (token_of n) (noted event h)) refl;
  }
    where
      by_done : (n : ℕ) → n < 2 ^ 32 → is_there (outcome_of (token_of n) after.history) ≡ true → (done : Bool)
          → is_commit_done (token_of n) (noted event h) ≡ done → IsKnown setting.plans entries n d
      by_done n small is true e = known n small e
      by_done n small is false e = k.known n small (there_before r event h n e is)

  pub finds_next : ((n : ℕ) → n < 2 ^ 32 → FindsEnded entries n r.history (noted event h)) → OfFinding entries d r → OfFinding entries d after
  finds_next new k n small =
      along_push then_noted (FindsEnded entries n) [] r.history (noted event h) (k n small)
      (subst (λ past. FindsEnded entries n past (noted event h)) (sym (carried_noted [] r.history)) (new n small))

  -- ---- all tokens are left alone

  module _ (happens : Happens m setting.tables r.device event h) (leaves : (change : ℕ) → leaves_token (token_of change) r.device event ≡ true) where
    none_done : (T : Type 0) (change : ℕ) → is_commit_done (token_of change) (noted event h) ≡ true → T
    none_done T change done =
        absurd (let g : false ≡ true = sym (left_undone m setting r event h happens (token_of change) (leaves change)) ∙ done in cc)

    pub waits_still : OfWaiting setting.plans entries d r → OfWaiting setting.plans entries d after
    waits_still k =
        waits_next (λ change small done. none_done (outcome_of (token_of change) (r.history ++ noted event h ∷ []) ≡ Pending) change done)
        (λ n small done. none_done (IsKnown setting.plans entries n d) n done) k

    pub finds_still : OfFinding entries d r → OfFinding entries d after
    finds_still k = finds_next (λ n small change small_one done other is. none_done (is_ended_in n entries ≡ true) change done) k

-- ---- an entry comes

module _ {Config Node : Type 0} (plans : List ChangePlan) (entries : List Entry) (entry : Entry) (d : ℕ) (r : RecordedState Config Node) where
  pub waits_entered : OfWaiting plans entries d r → OfWaiting plans (entries ++ entry ∷ []) d r
  waits_entered k = record { waits = k.waits; known = λ n small is. known_later plans entries entry n d (k.known n small is) }

  pub finds_entered : OfFinding entries d r → OfFinding (entries ++ entry ∷ []) d r
  finds_entered k n small =
      along_map then_noted (FindsEnded entries n) (FindsEnded (entries ++ entry ∷ []) n)
      (λ past one finds change small_one done other is. ended_later plans entries n entry (finds change small_one done other is)) [] r.history (k n small)
