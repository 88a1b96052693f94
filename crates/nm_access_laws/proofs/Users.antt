-- An operator's sessions are of its own user, whatever happens.
use Rattle.std.proofs.Common.{◌≡◌, ◌∙◌, ◌-◌, ◌≤◌, ℕ, zero, suc, List, [], ◌∷◌, true, false, replicate, Option, None, Some, IfSome, is_some, slice_get, slice_set, refl, sym, ap, subst}
use Rattle.std.proofs.lemmas.Option.{none-some, same_Some}
use Rattle.nm_proto.specs.Content.{Meaning}
use Rattle.nm_sessions.specs.Sessions.{is_open, user_of}
use Rattle.nm_device_laws.specs.Moment.{Happens}
use Rattle.nm_device_laws.specs.Numbered.{IsNumbered}
use Rattle.nm_device_laws.proofs.Users.{users_kept}
use Rattle.nm_history.specs.declared.event.DeviceEvent.{DeviceEvent}
use Rattle.nm_history.specs.History.{Happened, RecordedState, recorded_with}
use Rattle.nm_world.specs.World.{Setting, CoreState, given_in, given_on}
use Rattle.nm_safety.specs.Support.{IsDevice, IsOperator, IsSupported}
use Rattle.nm_safety.proofs.Lists.{all_equal, at_set, set_none, some_is, to_some}
use Rattle.nm_safety.proofs.Managed.{others_stay}
use Rattle.nm_safety.proofs.Wires.{set_there}
use Rattle.nm_access_laws.specs.Allowed.{AreOwn, IsOwn}

-- ---- nobody has a session at the beginning

none_given : (n d : ℕ) → given_on (replicate n None) d ≡ None
none_given zero d = refl
none_given (suc n) zero = refl
none_given (suc n) (suc d) = none_given n d

module _ {TheEdit Config Node : Type 0} (setting : Setting TheEdit) (devices : List (RecordedState Config Node)) where
  abbrev OwnIn : ℕ → List (Option ℕ) → Type 0
  OwnIn place operator = (d : ℕ) → IfSome (slice_get devices d) (IsOwn setting place operator d)

  fresh_own : (place n : ℕ) → OwnIn place (replicate n None)
  fresh_own place n d = to_some (IsOwn setting place (replicate n None) d) (slice_get devices d) (λ r here session given opened. absurd (none-some session (sym (none_given n d) ∙ given)))

  pub all_fresh : (users n place : ℕ) → IfSome (slice_get (replicate users (replicate n None)) place) (OwnIn place)
  all_fresh users n place = all_equal (OwnIn place) users (replicate n None) (fresh_own place n) place

-- ---- something happens at a device

module _ {Config TheEdit Node : Type 0} (m : Meaning Config TheEdit Node) (setting : Setting TheEdit) (w : CoreState Config Node) (s : IsSupported m setting w) (own : AreOwn setting w)
    (d : ℕ) (r : RecordedState Config Node) (here : slice_get w.devices d ≡ Some r) (event : DeviceEvent) (h : Happened Config Node) (happens : Happens m setting.tables r.device event h) where
  abbrev after : RecordedState Config Node
  after = recorded_with r event h

  device_here : IsDevice m (s.owners d) r
  device_here = some_is r (IsDevice m (s.owners d)) (slice_get w.devices d) here (s.devices d)

  module _ (place : ℕ) (operator : List (Option ℕ)) (there : slice_get w.operators place ≡ Some operator) where
    own_here : (j : ℕ) (one : RecordedState Config Node) → slice_get w.devices j ≡ Some one → IsOwn setting place operator j one
    own_here j one found =
        some_is one (IsOwn setting place operator j) (slice_get w.devices j) found
        (some_is operator (λ o. (k : ℕ) → IfSome (slice_get w.devices k) (IsOwn setting place o k)) (slice_get w.operators place) there (own place) j)

    -- a session that it was given isn't above the last
    within : (session : ℕ) → given_on operator d ≡ Some session → session ≤ r.device.sessions.last
    within session given =
        (some_is r (λ one. (t : ℕ) → given_on operator d ≡ Some t → (s.owners d t ≡ None) × (t ≤ one.device.sessions.last)) (slice_get w.devices d) here
        (some_is operator (IsOperator s.owners w.devices) (slice_get w.operators place) there (s.operators place) d) session given).1

    own_after : IsOwn setting place operator d after
    own_after session given opened =
        let same = users_kept m setting.tables r.device device_here.numbered session event h happens opened (within session given) in
        let was : is_open r.device.sessions session ≡ true = sym (ap is_some same) ∙ opened in
        same ∙ own_here d r here session given was

    own_then : (j : ℕ) → IfSome (slice_get (slice_set w.devices d after) j) (IsOwn setting place operator j)
    own_then j = at_set (IsOwn setting place operator) w.devices d r after here own_after (λ k. to_some (IsOwn setting place operator k) (slice_get w.devices k) (own_here k)) j

  -- the operators' sessions are as they were
  pub users_stay : (place : ℕ) → IfSome (slice_get w.operators place) (λ operator. (j : ℕ) → IfSome (slice_get (slice_set w.devices d after) j) (IsOwn setting place operator j))
  users_stay place = to_some (λ operator. (j : ℕ) → IfSome (slice_get (slice_set w.devices d after) j) (IsOwn setting place operator j)) (slice_get w.operators place) (own_then place)

  -- an operator is given a session of its own user
  module _ (k : ℕ) (operator : List (Option ℕ)) (there : slice_get w.operators k ≡ Some operator) (id : ℕ) (user : user_of h.after.sessions id ≡ slice_get setting.users k) where
    abbrev IsGivenTo : ℕ → Option (Option ℕ) → Type 0
    IsGivenTo j o = IfSome (slice_get (slice_set w.devices d after) j) (λ one. (session : ℕ) → given_in o ≡ Some session → is_open one.device.sessions session ≡ true
        → user_of one.device.sessions session ≡ slice_get setting.users k)

    given_old : (j : ℕ) → IsGivenTo j (slice_get operator j)
    given_old j = own_then k operator there j

    given_now : IsGivenTo d (Some (Some id))
    given_now =
        to_some (λ one. (session : ℕ) → given_in (Some (Some id)) ≡ Some session → is_open one.device.sessions session ≡ true → user_of one.device.sessions session ≡ slice_get setting.users k)
        (slice_get (slice_set w.devices d after) d)
        (λ one found session given opened.
        let same : id ≡ session = same_Some id session given in
        let device : after ≡ one = same_Some after one (sym (set_there w.devices d r after here) ∙ found) in
        subst (λ x. user_of x.device.sessions session ≡ slice_get setting.users k) device (subst (λ t. user_of h.after.sessions t ≡ slice_get setting.users k) same user))

    given_by : (old : Option (Option ℕ)) → slice_get operator d ≡ old → (j : ℕ) → IsGivenTo j (slice_get (slice_set operator d (Some id)) j)
    given_by None e j = subst (λ list. IsGivenTo j (slice_get list j)) (sym (set_none operator d (Some id) e)) (given_old j)
    given_by (Some old) e j = others_stay IsGivenTo operator d old (Some id) e given_now (λ i ne. given_old i) j

    pub users_given : (place : ℕ) → IfSome (slice_get (slice_set w.operators k (slice_set operator d (Some id))) place)
        (λ one. (j : ℕ) → IfSome (slice_get (slice_set w.devices d after) j) (IsOwn setting place one j))
    users_given place =
        at_set (λ i one. (j : ℕ) → IfSome (slice_get (slice_set w.devices d after) j) (IsOwn setting i one j)) w.operators k operator (slice_set operator d (Some id)) there
        (given_by (slice_get operator d) refl) users_stay place
