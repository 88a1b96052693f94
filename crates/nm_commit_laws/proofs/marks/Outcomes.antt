-- How the outcome of a change set that is there goes on, and which entries commit.
use Rattle.std.proofs.Common.{◌≡◌, ◌∙◌, ℕ, zero, suc, ◌<◌, ◌==◌, ◌⊎◌, inl, inr, Bool, true, false, List, [], ◌∷◌, find, Option, Some, refl, sym, ap, subst, arith}
use Rattle.std.specs.List.{All}
use Rattle.std.proofs.lemmas.Bool.{cond_both}
use Rattle.std.proofs.lemmas.Bool.Decides.{nat_tests}
use Rattle.std.proofs.lemmas.Option.{none-some, same_Some}
use Rattle.nm_proto.specs.declared.message.Request.{Request}
use Rattle.nm_proto.specs.declared.message.Request.TheVariants.{OpenSession, Lock, Unlock, PartialLock, PartialUnlock, Edit, Validate, Commit, CancelCommit, Discard, HasMark, GetConfig, Kill, CloseSession}
use Rattle.nm_history.specs.declared.event.DeviceEvent.{DeviceEvent}
use Rattle.nm_history.specs.declared.event.DeviceEvent.TheVariants.{Entered, Asked, Lost, Advanced, Restarted}
use Rattle.nm_history.specs.declared.outcome.Outcome.{Outcome}
use Rattle.nm_history.specs.declared.outcome.Outcome.TheVariants.{Never, Pending, Confirmed, Undone}
use Rattle.nm_history.specs.Effect.{Effect, effect_of_event}
use Rattle.nm_history.specs.Effect.Effect.{Begins, Ends, Undoes, Neither}
use Rattle.nm_history.specs.Outcome.{standing_after}
use Rattle.nm_safety.specs.Pair.{is_confirmed}
use Rattle.nm_commit_laws.specs.Marks.{is_there}

-- ---- outcomes

abbrev pub undoes : Effect → Bool
undoes (Begins persist) = false
undoes Ends = false
undoes (Undoes by) = true
undoes Neither = false

-- what is there stays, but for an undoing
pub there_next : (token : List ℕ) (outcome : Outcome) (other : Bool) (effect : Effect) → undoes effect ≡ false → is_there outcome ≡ true
    → is_there (standing_after token outcome other effect).outcome ≡ true
there_next token Never other effect u e = absurd (let g : false ≡ true = e in cc)
there_next token Pending other (Begins persist) u e = refl
there_next token Pending other Ends u e = refl
there_next token Pending other (Undoes by) u e = absurd (let g : true ≡ false = u in cc)
there_next token Pending other Neither u e = refl
there_next token Confirmed other effect u e = refl
there_next token (Undone by) other effect u e = absurd (let g : false ≡ true = e in cc)

-- and what is confirmed stays for good
pub confirmed_next : (token : List ℕ) (outcome : Outcome) (other : Bool) (effect : Effect) → is_confirmed outcome ≡ true
    → is_confirmed (standing_after token outcome other effect).outcome ≡ true
confirmed_next token Never other effect e = absurd (let g : false ≡ true = e in cc)
confirmed_next token Pending other effect e = absurd (let g : false ≡ true = e in cc)
confirmed_next token Confirmed other effect e = refl
confirmed_next token (Undone by) other effect e = absurd (let g : false ≡ true = e in cc)

pub confirmed_there : (outcome : Outcome) → is_confirmed outcome ≡ true → is_there outcome ≡ true
confirmed_there Never e = absurd (let g : false ≡ true = e in cc)
confirmed_there Pending e = refl
confirmed_there Confirmed e = refl
confirmed_there (Undone by) e = absurd (let g : false ≡ true = e in cc)

pub confirmed_is : (outcome : Outcome) → is_confirmed outcome ≡ true → outcome ≡ Confirmed
confirmed_is Never e = absurd (let g : false ≡ true = e in cc)
confirmed_is Pending e = absurd (let g : false ≡ true = e in cc)
confirmed_is Confirmed e = refl
confirmed_is (Undone by) e = absurd (let g : false ≡ true = e in cc)

-- where nothing is pending, what is there is confirmed
pub there_confirmed : (pending : Bool) (outcome : Outcome) → (outcome ≡ Pending → pending ≡ true) → pending ≡ false → is_there outcome ≡ true
    → is_confirmed outcome ≡ true
there_confirmed pending Never waits none e = absurd (let g : false ≡ true = e in cc)
there_confirmed pending Pending waits none e = absurd (let g : false ≡ true = sym none ∙ waits refl in cc)
there_confirmed pending Confirmed waits none e = refl
there_confirmed pending (Undone by) waits none e = absurd (let g : false ≡ true = e in cc)

-- ---- entries

abbrev pub commits : Effect → Bool
commits (Begins persist) = true
commits Ends = true
commits (Undoes by) = false
commits Neither = false

pub commit_stays : (effect : Effect) → commits effect ≡ true → undoes effect ≡ false
commit_stays (Begins persist) e = refl
commit_stays Ends e = refl
commit_stays (Undoes by) e = absurd (let g : false ≡ true = e in cc)
commit_stays Neither e = absurd (let g : false ≡ true = e in cc)

-- a session asks for a commit, which is done
pub record IsCommit (event : DeviceEvent) (done : Bool) : Type 0 where
  pub session : ℕ
  pub confirmed : Bool
  pub timeout : Option ℕ
  pub persist : Option (List ℕ)
  pub persist_id : Option (List ℕ)
  pub asked : event ≡ Asked session (Commit confirmed timeout persist persist_id)
  pub is_done : done ≡ true

request_commits : (session : ℕ) (request : Request) (done undone : Bool) → commits (effect_of_event (Asked session request) done undone) ≡ true
    → IsCommit (Asked session request) done
request_commits session (Commit confirmed timeout persist persist_id) true undone e = record {
  session = session;
  confirmed = confirmed;
  timeout = timeout;
  persist = persist;
  persist_id = persist_id;
  asked = refl;
  is_done = refl;
}
request_commits session (Commit confirmed timeout persist persist_id) false undone e = absurd (let g : false ≡ true = e in cc)
request_commits session (CancelCommit persist_id) true undone e = absurd (let g : false ≡ true = e in cc)
request_commits session (CancelCommit persist_id) false undone e = absurd (let g : false ≡ true = e in cc)
request_commits session (Kill other) done true e = absurd (let g : false ≡ true = e in cc)
request_commits session (Kill other) done false e = absurd (let g : false ≡ true = e in cc)
request_commits session CloseSession done true e = absurd (let g : false ≡ true = e in cc)
request_commits session CloseSession done false e = absurd (let g : false ≡ true = e in cc)
request_commits session (OpenSession user) done undone e = absurd (let g : false ≡ true = e in cc)
request_commits session (Lock store) done undone e = absurd (let g : false ≡ true = e in cc)
request_commits session (Unlock store) done undone e = absurd (let g : false ≡ true = e in cc)
request_commits session (PartialLock select) done undone e = absurd (let g : false ≡ true = e in cc)
request_commits session (PartialUnlock id) done undone e = absurd (let g : false ≡ true = e in cc)
request_commits session (Edit edit operation marks) done undone e = absurd (let g : false ≡ true = e in cc)
request_commits session Validate done undone e = absurd (let g : false ≡ true = e in cc)
request_commits session Discard done undone e = absurd (let g : false ≡ true = e in cc)
request_commits session (HasMark change) done undone e = absurd (let g : false ≡ true = e in cc)
request_commits session GetConfig done undone e = absurd (let g : false ≡ true = e in cc)

-- what commits is a commit that is done
pub event_commits : (event : DeviceEvent) (done undone : Bool) → commits (effect_of_event event done undone) ≡ true → IsCommit event done
event_commits (Asked session request) done undone e = request_commits session request done undone e
event_commits (Entered user) done undone e = absurd (let g : false ≡ true = e in cc)
event_commits (Lost session) done true e = absurd (let g : false ≡ true = e in cc)
event_commits (Lost session) done false e = absurd (let g : false ≡ true = e in cc)
event_commits (Advanced seconds) done true e = absurd (let g : false ≡ true = e in cc)
event_commits (Advanced seconds) done false e = absurd (let g : false ≡ true = e in cc)
event_commits Restarted done true e = absurd (let g : false ≡ true = e in cc)
event_commits Restarted done false e = absurd (let g : false ≡ true = e in cc)

-- ---- numbers and lists

-- one number below a bound passes a test, or none does
pub record IsBelow (test : ℕ → Bool) (bound : ℕ) : Type 0 where
  pub number : ℕ
  pub small : number < bound
  pub passes : test number ≡ true

up_one : (a b : ℕ) → a < b → a < suc b
up_one a b h = omega (arith, h)

itself : (a : ℕ) → a < suc a
itself a = omega arith

split : (a b : ℕ) → a < suc b → (a ≡ b → ⊥) → a < b
split a b h ne = by_test (a == b) refl
  where
    less : (a b : ℕ) → a < suc b → (a == b) ≡ false → a < b
    less a b h e = grind (arith, nat_tests)

    same : (a b : ℕ) → (a == b) ≡ true → a ≡ b
    same a b e = grind (arith, nat_tests)

    by_test : (t : Bool) → (a == b) ≡ t → a < b
    by_test true e = absurd (ne (same a b e))
    by_test false e = less a b h e

pub below_or_none : (test : ℕ → Bool) (bound : ℕ) → IsBelow test bound ⊎ ((n : ℕ) → n < bound → test n ≡ false)
below_or_none test zero = inr (λ n h. absurd (omega (arith, h)))
below_or_none test (suc bound) = by_test (test bound) refl (below_or_none test bound)
  where
    last : (n : ℕ) → n < suc bound → ((n : ℕ) → n < bound → test n ≡ false) → test bound ≡ false → (b : Bool) → test n ≡ b
        → b ≡ false
    last n h none e false at = refl
    last n h none e true at =
        absurd (let g : n < bound = split n bound h (λ same. absurd (let f : true ≡ false = sym at ∙ ap test same ∙ e in cc)) in
        let f : true ≡ false = sym at ∙ none n g in cc)

    by_test : (b : Bool) → test bound ≡ b → IsBelow test bound ⊎ ((n : ℕ) → n < bound → test n ≡ false)
        → IsBelow test (suc bound) ⊎ ((n : ℕ) → n < suc bound → test n ≡ false)
    by_test true e rest = inl (record { number = bound; small = itself bound; passes = e })
    by_test false e (inl one) = inl (record { number = one.number; small = up_one one.number bound one.small; passes = one.passes })
    by_test false e (inr none) = inr (λ n h. last n h none e (test n) refl)

-- what holds of all holds of the one that is found
pub found_has : {A : Type 0} (P : A → Type 0) (test : A → Bool) (xs : List A) (x : A) → All P xs → find test xs ≡ Some x → P x
found_has P test [] x all e = absurd (none-some x e)
found_has P test (first ∷ xs) x all e =
    cond_both (test first) (Some first) (find test xs) (λ found. found ≡ Some x → P x)
    (λ _ f. subst P (same_Some first x f) (all 0 first (omega arith)))
    (λ _ f. found_has P test xs x (λ i d within. all (suc i) d (omega (arith, within))) f) e
